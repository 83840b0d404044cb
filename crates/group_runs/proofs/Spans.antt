-- The extents of segments: they lie in their physical volumes, and share none.
use Rattle.std.proofs.Common.{◌≡◌, ℕ, suc, ◌+◌, ◌*◌, ◌<◌, ◌≤◌, Bool, true, false, List, [], ◌∷◌, ◌++◌, length, map, refl, sym, ap, subst, ◌∙◌, arith, append-nil, append_assoc}
use Rattle.std.proofs.lemmas.List.{map-append}
use Rattle.std.specs.Prelude.{ℤ, pos, negsuc, Option, Some, None, if◌then◌else◌, ◌&&◌, ◌==◌, nat_le, nat_lt, All, AllPairs, flat_map}
use Rattle.std.specs.List.{list_all}
use Rattle.std.specs.Option.{option_and_then, unwrap_or}
use Rattle.std.proofs.lemmas.Bool.{leb-true, ltb-true, and_parts}
use Rattle.std.proofs.lemmas.List.Elements.{All-push}
use Rattle.std.proofs.lemmas.List.Quantifiers.{all_pairs_push}
use Rattle.std.proofs.lemmas.List.Sums.{AllPass-from_list_all}
use Rattle.lvm_group.specs.declared.types.PhysicalVolume.{PhysicalVolume}
use Rattle.lvm_group.specs.declared.types.Segment.{Segment}
use Rattle.lvm_group.specs.declared.types.Stripe.{Stripe}
use Rattle.lvm_group.specs.declared.types.LogicalVolume.{LogicalVolume}
use Rattle.lvm_group.specs.declared.span.Span.{Span}
use Rattle.lvm_group.specs.declared.spans.Volume.{Volume}
use Rattle.lvm_group.specs.Apart.{are_apart}
use Rattle.lvm_group.specs.Free.{all_spans, spans_in, with_span}
use Rattle.lvm_group.specs.Judged.{apart_span, extents_from, first_unsound, next_span, or_at, span_at, span_by, span_of, taken_after, taken_by}
use Rattle.lvm_group.specs.Volumes.{run_of_span, runs_in, volumes_with, with_run}

-- extents lie in their physical volume
pub record LiesIn (ps : List PhysicalVolume) (s : Span) : Type 0 where
  pub some : 0 < s.count
  pub inside : s.first + s.count ≤ extents_from 0 s.member ps

-- the later extents share none with the earlier ones
abbrev pub IsBehind : Span → Span → Type 0
IsBehind earlier s = are_apart s earlier ≡ true

pub record AreLaid (ps : List PhysicalVolume) (spans : List Span) : Type 0 where
  pub each : All (LiesIn ps) spans
  pub apart : AllPairs IsBehind spans

if_some : {A : Type 0} (b : Bool) (x s : A) → (if b then Some x else None) ≡ Some s → (b ≡ true) × (x ≡ s)
if_some true x s e = (refl, ap (λ (o : Option _). unwrap_or o x) e)
if_some false x s e = absurd (cc e)

span_by_bound : (t s : Span) (count : ℕ) → (if nat_le (t.first + t.count) count then Some t else None) ≡ Some s
    → (s.member ≡ t.member) × (s.count ≡ t.count) × (s.first + s.count ≤ count)
span_by_bound t s count e =
    let bound : nat_le (t.first + t.count) count ≡ true = (if_some (nat_le (t.first + t.count) count) t s e).0 in
    let same : t ≡ s = (if_some (nat_le (t.first + t.count) count) t s e).1 in
    (ap (λ (u : Span). u.member) (sym same), ap (λ (u : Span). u.count) (sym same), subst (λ (u : Span). u.first + u.count ≤ count) same (leb-true (t.first + t.count) count bound))

span_at_bound : (m : ℕ) (first : ℤ) (n count : ℕ) (s : Span) → span_at m first n count ≡ Some s
    → (s.member ≡ m) × (s.count ≡ n) × (s.first + s.count ≤ count)
span_at_bound m (pos first) n count s e = span_by_bound (record { member = m; first = first; count = n }) s count e
span_at_bound m (negsuc first) n count s e = absurd (cc e)

span_lies : (ps : List PhysicalVolume) (n : ℕ) (stripe : Option Stripe) (s : Span) → span_by ps n stripe ≡ Some s → 0 < n → LiesIn ps s
span_lies ps n None s e some = absurd (cc e)
span_lies ps n (Some stripe) s e some =
    let is : (s.member ≡ stripe.member) × (s.count ≡ n) × (s.first + s.count ≤ extents_from 0 stripe.member ps) = span_at_bound stripe.member stripe.first n (extents_from 0 stripe.member ps) s e in
    record { some = omega (arith, is.1, some); inside = subst (λ (m : ℕ). s.first + s.count ≤ extents_from 0 m ps) (sym is.0) is.2 }

apart_some : (taken : List Span) (o : Option Span) (s : Span) → apart_span taken o ≡ Some s → (o ≡ Some s) × (list_all (are_apart s) taken ≡ true)
apart_some taken None s e = absurd (cc e)
apart_some taken (Some t) s e =
    let free : list_all (are_apart t) taken ≡ true = (if_some (list_all (are_apart t) taken) t s e).0 in
    let same : t ≡ s = (if_some (list_all (are_apart t) taken) t s e).1 in
    (ap Some same, subst (λ (u : Span). list_all (are_apart u) taken ≡ true) same free)

-- the extents of the next segment
record IsNext (ps : List PhysicalVolume) (taken : List Span) (p : Segment) (s : Span) : Type 0 where
  own : span_of ps p ≡ Some s
  lies : LiesIn ps s
  free : list_all (are_apart s) taken ≡ true

next_is : (ps : List PhysicalVolume) (taken : List Span) (at : ℕ) (p : Segment) (s : Span) → next_span ps taken at p ≡ Some s → IsNext ps taken p s
unfolding next_span
next_is ps taken at p s e = by (p.start == at && nat_lt 0 p.count) refl e
  where
    by : (b : Bool) → (p.start == at && nat_lt 0 p.count) ≡ b → (if b then apart_span taken (span_of ps p) else None) ≡ Some s → IsNext ps taken p s
    by true is some =
        let own : (span_of ps p ≡ Some s) × (list_all (are_apart s) taken ≡ true) = apart_some taken (span_of ps p) s some in
        record { own = own.0; lies = span_lies ps p.count p.stripe s own.0 (ltb-true 0 p.count (and_parts (p.start == at) (nat_lt 0 p.count) is).1); free = own.1 }
    by false is some = absurd (cc some)

one_more_laid : (ps : List PhysicalVolume) (taken : List Span) (s : Span) → AreLaid ps taken → LiesIn ps s → list_all (are_apart s) taken ≡ true → AreLaid ps (taken ++ s ∷ [])
one_more_laid ps taken s laid lies free = record {
  each = All-push (LiesIn ps) taken s laid.each lies;
  apart = all_pairs_push IsBehind taken s laid.apart (AllPass-from_list_all (are_apart s) taken free);
}

-- what is taken behind segments
record AreLaidBy (ps : List PhysicalVolume) (taken : List Span) (segments : List Segment) (more : List Span) : Type 0 where
  laid : AreLaid ps more
  spans : more ≡ taken ++ spans_in ps segments

segments_laid : (ps : List PhysicalVolume) (segments : List Segment) (taken more : List Span) (at : ℕ) → taken_after ps taken at segments ≡ Some more
    → AreLaid ps taken → AreLaidBy ps taken segments more
segments_laid ps [] taken more at e laid =
    let same : taken ≡ more = ap (λ (o : Option (List Span)). unwrap_or o taken) e in
    record { laid = subst (AreLaid ps) same laid; spans = sym same ∙ sym (append-nil taken) }
segments_laid ps (p ∷ segments) taken more at e laid = by (segments_laid ps segments) (next_span ps taken at p) refl e
  where
    by : ((taken more : List Span) (at : ℕ) → taken_after ps taken at segments ≡ Some more → AreLaid ps taken → AreLaidBy ps taken segments more)
        → (o : Option Span) → next_span ps taken at p ≡ o → option_and_then (λ s. taken_after ps (taken ++ s ∷ []) (at + p.count) segments) o ≡ Some more
        → AreLaidBy ps taken (p ∷ segments) more
    by ih None is some = absurd (cc some)
    by ih (Some s) is some =
        let next : IsNext ps taken p s = next_is ps taken at p s is in
        let behind : AreLaidBy ps (taken ++ s ∷ []) segments more = ih (taken ++ s ∷ []) more (at + p.count) some (one_more_laid ps taken s laid next.lies next.free) in
        record {
          laid = behind.laid;
          spans = behind.spans ∙ append_assoc taken (s ∷ []) (spans_in ps segments) ∙ ap (λ (o : Option Span). taken ++ with_span o (spans_in ps segments)) (sym next.own);
        }

volume_laid : (ps : List PhysicalVolume) (l : LogicalVolume) (taken more : List Span) → taken_by ps taken l ≡ Some more → AreLaid ps taken → AreLaidBy ps taken l.segments more
volume_laid ps l taken more e laid = by (nat_lt 0 (length l.segments)) e
  where
    by : (b : Bool) → (if b then taken_after ps taken 0 l.segments else None) ≡ Some more → AreLaidBy ps taken l.segments more
    by true some = segments_laid ps l.segments taken more 0 some laid
    by false some = absurd (cc some)

pub volumes_laid : (ps : List PhysicalVolume) (ls : List LogicalVolume) (taken : List Span) (n : ℕ) → first_unsound ps taken n ls ≡ None → AreLaid ps taken → AreLaid ps (taken ++ all_spans ps ls)
volumes_laid ps [] taken n e laid = subst (AreLaid ps) (sym (append-nil taken)) laid
volumes_laid ps (l ∷ ls) taken n e laid = by (volumes_laid ps ls) (taken_by ps taken l) refl e
  where
    by : ((taken : List Span) (n : ℕ) → first_unsound ps taken n ls ≡ None → AreLaid ps taken → AreLaid ps (taken ++ all_spans ps ls))
        → (o : Option (List Span)) → taken_by ps taken l ≡ o → or_at n (λ more. first_unsound ps more (suc n) ls) o ≡ None
        → AreLaid ps (taken ++ (spans_in ps l.segments ++ all_spans ps ls))
    by ih None is none = absurd (cc none)
    by ih (Some more) is none =
        let one : AreLaidBy ps taken l.segments more = volume_laid ps l taken more is laid in
        subst (AreLaid ps) (ap (λ (spans : List Span). spans ++ all_spans ps ls) one.spans ∙ append_assoc taken (spans_in ps l.segments) (all_spans ps ls)) (ih more (suc n) none one.laid)

-- ---- their sectors

runs_are : (ps : List PhysicalVolume) (extent : ℕ) (segments : List Segment) → runs_in ps extent segments ≡ map (run_of_span ps extent) (spans_in ps segments)
runs_are ps extent [] = refl
runs_are ps extent (p ∷ segments) = by (span_of ps p) (runs_are ps extent segments)
  where
    by : (o : Option Span) → runs_in ps extent segments ≡ map (run_of_span ps extent) (spans_in ps segments)
        → with_run ps extent o (runs_in ps extent segments) ≡ map (run_of_span ps extent) (with_span o (spans_in ps segments))
    by None ih = ih
    by (Some s) ih = ap (λ (runs : List (ℕ × ℕ × ℕ)). run_of_span ps extent s ∷ runs) ih

pub all_runs_are : (ps : List PhysicalVolume) (extent : ℕ) (ls : List LogicalVolume)
    → flat_map (λ (volume : Volume). volume.runs) (volumes_with ps extent ls) ≡ map (run_of_span ps extent) (all_spans ps ls)
all_runs_are ps extent [] = refl
all_runs_are ps extent (l ∷ ls) =
    ap (λ (runs : List (ℕ × ℕ × ℕ)). runs ++ flat_map (λ (volume : Volume). volume.runs) (volumes_with ps extent ls)) (runs_are ps extent l.segments)
    ∙ ap (λ (runs : List (ℕ × ℕ × ℕ)). map (run_of_span ps extent) (spans_in ps l.segments) ++ runs) (all_runs_are ps extent ls)
    ∙ sym (map-append (run_of_span ps extent) (spans_in ps l.segments) (all_spans ps ls))
