-- From what is read of a volume to what it holds.
use Rattle.std.proofs.Common.{◌≡◌, ◌≢◌, ℕ, ◌+◌, ◌<◌, ◌≤◌, ◌⊎◌, List, Option, None, Some, nat_lt, if◌then◌else◌, true, false, Bool, inl, inr, refl, sym, ap, subst, ◌∙◌, arith}
use Rattle.std.proofs.lemmas.Bool.{le-ltb}
use Rattle.disk_base.specs.Image.{bytes_at, sector}
use Rattle.lvm_label.specs.Label.{FindsLabel, HaveNoLabel, IsFirstLabel, IsLabel, areas_place, pair_at}
use Rattle.lvm_label.specs.Ring.{HasRingFaultBy, IsRingBy, RingArea}
use Rattle.lvm_label.specs.declared.fault.RingFault.{RingFault}
use Rattle.lvm_label.specs.declared.fault.RingFault.TheVariants as faults
use Rattle.lvm_label.specs.declared.label.Label.{Label}
use Rattle.partition_content.specs.Found.{HasFewAreas, HasLabel}
use Rattle.partition_content.specs.declared.found.Stop.{Stop}
use Rattle.partition_content.specs.declared.found.Stop.TheVariants.{Unread, Failed}
use Rattle.partition_content.specs.inside.Stops.{IsAreaStop, IsSecondStop, IsStop, KnowsAreas, stop_of}

-- what holds of a disk by its size and its bytes holds of one with the same
pub of_same_disk : (P : ℕ → List ℕ → Type 0) (n n' : ℕ) (image image' : List ℕ) → n' ≡ n → image' ≡ image → P n' image' → P n image
of_same_disk P n n' image image' size bytes is = subst (λ (i : List ℕ). P n i) bytes (subst (λ (k : ℕ). P k image') size is)

-- the label that is found in the first sectors
pub label_found : (sectors : ℕ) (image bytes : List ℕ) (found : Option Label) → 4 ≤ sectors → bytes ≡ bytes_at image 0 2048 → FindsLabel bytes found → HasLabel sectors image found
label_found sectors image bytes None four is finds = λ four'. subst HaveNoLabel is finds
label_found sectors image bytes (Some label) four is finds = (four, subst (λ (b : List ℕ). IsFirstLabel b label) is finds)

some_there : (b : Bool) (p : ℕ × ℕ) (second : Option (ℕ × ℕ)) → b ≡ false → second ≡ (if b then None else Some p) → second ≡ None → ⊥
some_there true p second is there none = absurd cc
some_there false p second is there none = absurd cc

second_known : (number : ℕ) (bytes : List ℕ) (label : Label) → IsLabel number bytes label → 2 ≤ label.areas → label.second ≡ None → ⊥
second_known number bytes label is two none =
    let areas : label.areas ≡ is.areas = ap (λ (l : Label). l.areas) is.label_is in
    let there : label.second ≡ (if nat_lt is.areas 2 then None else Some (pair_at bytes (areas_place bytes is.others + 16))) = ap (λ (l : Label). l.second) is.label_is in
    some_there (nat_lt is.areas 2) (pair_at bytes (areas_place bytes is.others + 16)) label.second (le-ltb is.areas 2 (omega (arith, two, areas))) there none

pub areas_known : (bytes : List ℕ) (found : Option Label) → FindsLabel bytes found → KnowsAreas found
areas_known bytes None finds = tt
areas_known bytes (Some label) finds = second_known label.sector (sector bytes label.sector) label finds.here

-- what a fault of an area stops with
pub area_stop : (sectors : ℕ) (image : List ℕ) (label : Label) (area : ℕ) (fault : RingFault) → HasRingFaultBy sectors image label area fault → IsAreaStop sectors image label area (stop_of fault)
area_stop sectors image label area faults.Device has = tt
area_stop sectors image label area faults.Memory has = tt
area_stop sectors image label area faults.Place has = record { fault = faults.Place; known = (λ e. cc e, λ e. cc e); has = has; cause_is = refl }
area_stop sectors image label area faults.Header has = record { fault = faults.Header; known = (λ e. cc e, λ e. cc e); has = has; cause_is = refl }
area_stop sectors image label area faults.Ignored has = record { fault = faults.Ignored; known = (λ e. cc e, λ e. cc e); has = has; cause_is = refl }
area_stop sectors image label area faults.Empty has = record { fault = faults.Empty; known = (λ e. cc e, λ e. cc e); has = has; cause_is = refl }
area_stop sectors image label area faults.Checksum has = record { fault = faults.Checksum; known = (λ e. cc e, λ e. cc e); has = has; cause_is = refl }

-- and what stops at the second area stops the whole
pub second_stop : (sectors : ℕ) (image : List ℕ) (label : Label) (first : RingArea) (stop : Stop) → HasFewAreas label → IsRingBy sectors image label 0 first
    → IsSecondStop sectors image label first stop → IsStop sectors image label stop
second_stop sectors image label first (Unread cause) few is_ring is = inr (few, inr (record { first = first; is_ring = is_ring; two = is.0; second = is.1 }))
second_stop sectors image label first (Failed fault) few is_ring is = tt
