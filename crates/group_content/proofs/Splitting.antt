-- The volumes of a group, one by one.
use Rattle.std.proofs.Common.{◌≡◌, ℕ, zero, suc, ◌+◌, ◌<◌, ◌≤◌, List, [], ◌∷◌, ◌++◌, length, map, take, refl, sym, ap, subst, ◌∙◌, arith, slice_index_or}
use Rattle.std.specs.Prelude.{Option, Some, All, AllPairs, flat_map, slice_get}
use Rattle.std.proofs.lemmas.List.{get_or_append_left, get_or-append-add, get_or-map, length-append, length-map, map-append, take_more}
use Rattle.std.proofs.lemmas.Option.{slice_get_read}
use Rattle.std.proofs.lemmas.List.Elements.{All-map, All-weaker}
use Rattle.disk_base.specs.Run.{AreApart, IsWithin, run_of}
use Rattle.disk_base.specs.declared.run.Run.{Run}
use Rattle.group_runs.specs.Places.{LiesInMember, disk_run, disk_runs, member_run}
use Rattle.lvm_group.specs.Volumes.{IsItemAt}
use Rattle.lvm_group.specs.declared.spans.Volume.{Volume}
use Rattle.group_content.specs.Grouped.{runs_held}
use Rattle.group_content.specs.declared.types.GroupVolume.{GroupVolume}

no_volume : Volume
no_volume = record { extents = 0; runs = [] }

runs_of : Volume → List (ℕ × ℕ × ℕ)
runs_of volume = volume.runs

item_at : (volumes : List Volume) (lv : ℕ) → lv < length volumes → IsItemAt lv volumes (slice_index_or volumes lv no_volume)
item_at [] lv inside = absurd (omega (arith, inside))
item_at (v ∷ volumes) zero inside = refl
item_at (v ∷ volumes) (suc lv) inside = item_at volumes lv (omega (arith, inside))

pub all_left : {A : Type 0} (P : A → Type 0) (xs ys : List A) → All P (xs ++ ys) → All P xs
all_left {A} P xs ys all = λ k d inside. subst P (get_or_append_left xs ys d k inside) (all k d (omega (arith, inside, length-append xs ys)))

pub all_right : {A : Type 0} (P : A → Type 0) (xs ys : List A) → All P (xs ++ ys) → All P ys
all_right {A} P xs ys all = λ k d inside. subst P (get_or-append-add xs ys k d) (all (length xs + k) d (omega (arith, inside, length-append xs ys)))

pairs_left : {A : Type 0} (R : A → A → Type 0) (xs ys : List A) → AllPairs R (xs ++ ys) → AllPairs R xs
pairs_left {A} R xs ys all = λ i j d before inside.
    subst (λ (a : A). R a (slice_index_or xs j d)) (get_or_append_left xs ys d i (omega (arith, before, inside)))
    (subst (R (slice_index_or (xs ++ ys) i d)) (get_or_append_left xs ys d j inside) (all i j d before (omega (arith, inside, length-append xs ys))))

pairs_right : {A : Type 0} (R : A → A → Type 0) (xs ys : List A) → AllPairs R (xs ++ ys) → AllPairs R ys
pairs_right {A} R xs ys all = λ i j d before inside.
    subst (λ (a : A). R a (slice_index_or ys j d)) (get_or-append-add xs ys i d)
    (subst (R (slice_index_or (xs ++ ys) (length xs + i) d)) (get_or-append-add xs ys j d) (all (length xs + i) (length xs + j) d (omega (arith, before)) (omega (arith, inside, length-append xs ys))))

part_lies : (members : List Run) (volumes : List Volume) (lv : ℕ) → lv < length volumes → All (LiesInMember members) (flat_map (λ (volume : Volume). volume.runs) volumes)
    → All (LiesInMember members) (slice_index_or volumes lv no_volume).runs
part_lies members [] lv inside all = absurd (omega (arith, inside))
part_lies members (v ∷ volumes) zero inside all = all_left (LiesInMember members) v.runs (flat_map (λ (volume : Volume). volume.runs) volumes) all
part_lies members (v ∷ volumes) (suc lv) inside all =
    part_lies members volumes lv (omega (arith, inside)) (all_right (LiesInMember members) v.runs (flat_map (λ (volume : Volume). volume.runs) volumes) all)

part_apart : (members : List Run) (volumes : List Volume) (lv : ℕ) → lv < length volumes → AllPairs AreApart (disk_runs members (flat_map (λ (volume : Volume). volume.runs) volumes))
    → AllPairs AreApart (disk_runs members (slice_index_or volumes lv no_volume).runs)
part_apart members [] lv inside all = absurd (omega (arith, inside))
part_apart members (v ∷ volumes) zero inside all =
    pairs_left AreApart (disk_runs members v.runs) (disk_runs members (flat_map (λ (volume : Volume). volume.runs) volumes))
    (subst (AllPairs AreApart) (map-append (disk_run members) v.runs (flat_map (λ (volume : Volume). volume.runs) volumes)) all)
part_apart members (v ∷ volumes) (suc lv) inside all =
    part_apart members volumes lv (omega (arith, inside))
    (pairs_right AreApart (disk_runs members v.runs) (disk_runs members (flat_map (λ (volume : Volume). volume.runs) volumes))
    (subst (AllPairs AreApart) (map-append (disk_run members) v.runs (flat_map (λ (volume : Volume). volume.runs) volumes)) all))

-- by what a group gives of a volume
abbrev pub AreRunsAt : List Volume → ℕ → List (ℕ × ℕ × ℕ) → Type 0
AreRunsAt volumes lv runs = (volume : Volume) → IsItemAt lv volumes volume → runs ≡ volume.runs

runs_at : (volumes : List Volume) (lv : ℕ) (runs : List (ℕ × ℕ × ℕ)) → lv < length volumes → AreRunsAt volumes lv runs → runs ≡ (slice_index_or volumes lv no_volume).runs
runs_at volumes lv runs inside are = are (slice_index_or volumes lv no_volume) (item_at volumes lv inside)

pub volume_lies : (members : List Run) (volumes : List Volume) (lv : ℕ) (runs : List (ℕ × ℕ × ℕ)) → lv < length volumes → AreRunsAt volumes lv runs
    → All (LiesInMember members) (flat_map (λ (volume : Volume). volume.runs) volumes) → All (LiesInMember members) runs
volume_lies members volumes lv runs inside are all = subst (All (LiesInMember members)) (sym (runs_at volumes lv runs inside are)) (part_lies members volumes lv inside all)

pub volume_apart : (members : List Run) (volumes : List Volume) (lv : ℕ) (runs : List (ℕ × ℕ × ℕ)) → lv < length volumes → AreRunsAt volumes lv runs
    → AllPairs AreApart (disk_runs members (flat_map (λ (volume : Volume). volume.runs) volumes)) → AllPairs AreApart (disk_runs members runs)
volume_apart members volumes lv runs inside are all =
    subst (λ (rs : List (ℕ × ℕ × ℕ)). AllPairs AreApart (disk_runs members rs)) (sym (runs_at volumes lv runs inside are)) (part_apart members volumes lv inside all)

-- one volume more is read
pub place_more : (members : List Run) (volumes : List Volume) (done items : List GroupVolume) (volume : GroupVolume) (lv : ℕ) (runs : List (ℕ × ℕ × ℕ)) → lv < length volumes
    → AreRunsAt volumes lv runs → items ≡ done ++ volume ∷ [] → volume.runs.items ≡ disk_runs members runs
    → map runs_held done ≡ take lv (map (λ (v : Volume). disk_runs members v.runs) volumes)
    → map runs_held items ≡ take (lv + 1) (map (λ (v : Volume). disk_runs members v.runs) volumes)
place_more members volumes done items volume lv runs inside are more place known =
    let places : List (List Run) = map (λ (v : Volume). disk_runs members v.runs) volumes in
    ap (map runs_held) more ∙ map-append runs_held done (volume ∷ [])
    ∙ ap (λ (xs : List (List Run)). xs ++ runs_held volume ∷ []) known
    ∙ ap (λ (x : List Run). take lv (map (λ (v : Volume). disk_runs members v.runs) volumes) ++ x ∷ []) (place ∙ ap (disk_runs members) (runs_at volumes lv runs inside are) ∙ sym (get_or-map (λ (v : Volume). disk_runs members v.runs) volumes lv no_volume [] inside))
    ∙ sym (take_more (map (λ (v : Volume). disk_runs members v.runs) volumes) lv [] (omega (arith, inside, length-map volumes (λ (v : Volume). disk_runs members v.runs))))
