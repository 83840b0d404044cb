-- What holds of partitions holds of them with what they hold.
use Rattle.std.proofs.Common.{◌≡◌, ℕ, zero, suc, ◌+◌, ◌<◌, ◌≤◌, List, [], ◌∷◌, length, map, arith, refl, sym, subst, ◌∙◌, ap, Bool, true, false, ◌&&◌, ◌||◌, nat_lt, All, AllPairs}
use Rattle.std.proofs.lemmas.List.Elements.{All-cons, All-map, All-nil, All-weaker}
use Rattle.std.proofs.lemmas.List.Kept.{AllPairs-cons}
use Rattle.layout_plan.specs.declared.part.Kind.{Kind}
use Rattle.layout_plan.specs.declared.part.Part.{Part}
use Rattle.layout_plan.specs.Roles.{is_extended_role, is_logical}
use Rattle.layout_plan.specs.Source.{IsPart, IsSource, StartApart, opens_before}
use Rattle.guest_view.specs.declared.guest.GuestPart.{GuestPart}
use Rattle.guest_view.specs.declared.partition.Partition.{Partition}
use Rattle.guest_view.specs.declared.table.Table.{Table}
use Rattle.guest_view.specs.Contents.{PartFits, partition_of, planned_part}
use Rattle.guest_view.specs.Guests.{EndOnDisk, IsSoundTable, kind_of}
use Rattle.guest_view.specs.inside.Sound.{EndsOn, IsWhole}
use Rattle.guest_view.specs.Partitions.{HasNoClash, partitions_of}
use Rattle.guest_view.proofs.Known.{are_source}
use Rattle.guest_view.proofs.Named.{pairs_map}
use Rattle.guest_view.proofs.Sources.{bare}

-- what holds of all that a function makes of a list
pub All-unmap : {X Y : Type 0} (P : X → Type 0) (f : Y → X) (ys : List Y) → All P (map f ys) → All (λ y. P (f y)) ys
All-unmap P f [] h = All-nil (λ y. P (f y))
All-unmap P f (y ∷ ys) h =
    All-cons (λ z. P (f z)) y ys (h 0 (f y) (omega arith)) (All-unmap P f ys (λ k d lt. h (suc k) d (omega (arith, lt))))

pub pairs_unmap : {X Y : Type 0} (R : X → X → Type 0) (f : Y → X) (ys : List Y) → AllPairs R (map f ys) → AllPairs (λ a b. R (f a) (f b)) ys
pairs_unmap R f [] h = λ i j d low high. absurd (omega arith)
pairs_unmap R f (y ∷ ys) h =
    AllPairs-cons (λ a b. R (f a) (f b)) y ys (All-unmap (R (f y)) f ys (λ k d lt. h 0 (suc k) d (omega arith) (omega (arith, lt))))
    (pairs_unmap R f ys (λ i j d low high. h (suc i) (suc j) d (omega (arith, low)) (omega (arith, high))))

-- what holds of the partitions that parts are holds of the parts
pub of_parts : (P : Partition → Type 0) (parts : List GuestPart) (ps : List Partition) → map partition_of parts ≡ ps → All P ps → All (λ (g : GuestPart). P (partition_of g)) parts
of_parts P parts ps is h = All-unmap P partition_of parts (subst (All P) (sym is) h)

opens_same : (parts : List GuestPart) (sector : ℕ) → opens_before (map planned_part parts) sector ≡ opens_before (map bare (map partition_of parts)) sector
opens_same [] sector = refl
opens_same (g ∷ gs) sector = ap (λ (b : Bool). (is_extended_role g.role && nat_lt g.start sector) || b) (opens_same gs sector)

-- a plan that can take the partitions can take them with what they hold
source_with : (kind : Kind) (parts : List GuestPart) → IsSource kind (map bare (map partition_of parts)) → IsSource kind (map planned_part parts)
source_with kind parts is =
    let plain : GuestPart → Part = λ g. bare (partition_of g) in
    record {
      each =
          All-map (IsPart kind) planned_part parts
          (All-weaker (λ (g : GuestPart). IsPart kind (plain g)) (λ (g : GuestPart). IsPart kind (planned_part g))
          (λ g known. record { numbered = known.numbered; behind_table = known.behind_table; some = known.some; named = known.named }) parts
          (All-unmap (λ (p : Partition). IsPart kind (bare p)) partition_of parts (All-unmap (IsPart kind) bare (map partition_of parts) is.each)));
      by_number =
          let Rise : Part → Part → Type 0 = λ before after. before.number < after.number in
          pairs_map Rise planned_part parts (pairs_unmap (λ (p q : Partition). Rise (bare p) (bare q)) partition_of parts (pairs_unmap Rise bare (map partition_of parts) is.by_number));
      other_starts =
          pairs_map StartApart planned_part parts
          (pairs_unmap (λ (p q : Partition). StartApart (bare p) (bare q)) partition_of parts (pairs_unmap StartApart bare (map partition_of parts) is.other_starts));
      one_extended =
          let One : Part → Part → Type 0 = λ one other. is_extended_role one.role ≡ true → is_extended_role other.role ≡ false in
          pairs_map One planned_part parts (pairs_unmap (λ (p q : Partition). One (bare p) (bare q)) partition_of parts (pairs_unmap One bare (map partition_of parts) is.one_extended));
      inside =
          let In : List Part → Part → Type 0 = λ all part. is_logical part.role ≡ true → opens_before all part.start ≡ true in
          All-map (In (map planned_part parts)) planned_part parts
          (All-weaker (λ (g : GuestPart). In (map bare (map partition_of parts)) (plain g)) (λ (g : GuestPart). In (map planned_part parts) (planned_part g))
          (λ g known logical. opens_same parts g.start ∙ known logical) parts
          (All-unmap (λ (p : Partition). In (map bare (map partition_of parts)) (bare p)) partition_of parts
          (All-unmap (In (map bare (map partition_of parts))) bare (map partition_of parts) is.inside)));
    }

-- the parts of a sound table that has no clash
pub whole : (sectors : ℕ) (table : Table) (parts : List GuestPart) → IsSoundTable sectors table → HasNoClash (partitions_of table)
    → map partition_of parts ≡ partitions_of table → All PartFits parts → IsWhole sectors table parts
whole sectors table parts sound apart named fits =
    let are = are_source sectors table sound apart in
    record {
      sound = sound;
      apart = apart;
      named = named;
      fits = fits;
      source = source_with (kind_of table) parts (subst (λ (ps : List Partition). IsSource (kind_of table) (map bare ps)) (sym named) are.source);
      inside = of_parts (EndsOn sectors) parts (partitions_of table) named are.inside;
    }
