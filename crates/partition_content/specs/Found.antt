-- What a partition holds by itself, before it is known which partitions make a group. It is a volume of its own.
use Rattle.std.specs.Prelude.{◌≡◌, ◌≢◌, ℕ, ◌<◌, ◌≤◌, ◌⊎◌, List, Option, None, Some}
use Rattle.disk_base.specs.Image.{bytes_at}
use Rattle.lvm_group.specs.declared.fault.GroupFault.TheVariants.{Members}
use Rattle.lvm_label.specs.Label.{HaveNoLabel, IsFirstLabel}
use Rattle.lvm_label.specs.Ring.{HasRingFaultBy, IsPlacedBy, IsRingBy, RingArea}
use Rattle.lvm_label.specs.declared.fault.RingFault.{RingFault}
use Rattle.lvm_label.specs.declared.fault.RingFault.TheVariants as faults
use Rattle.lvm_label.specs.declared.label.Label.{Label}
use Rattle.volume_content.specs.Inner.{InnerFits, IsInner}
use Rattle.volume_content.specs.declared.content.Inner.{Inner}
use Rattle.volume_content.specs.declared.content.Inner.TheVariants.{Unread}
use Rattle.volume_content.specs.declared.content.Why.{Why}
use Rattle.volume_content.specs.declared.content.Why.TheVariants as why
use Rattle.partition_content.specs.declared.found.Found.{Found}
use Rattle.partition_content.specs.declared.found.Found.TheVariants as found
use Rattle.partition_content.specs.declared.found.Physical.{Physical}

-- the label of a volume: the first one in its first four sectors, or none; a shorter volume has none
abbrev pub HasLabel : ℕ → List ℕ → Option Label → Type 0
HasLabel sectors image None = 4 ≤ sectors → HaveNoLabel (bytes_at image 0 2048)
HasLabel sectors image (Some label) = (4 ≤ sectors) × IsFirstLabel (bytes_at image 0 2048) label

-- a physical volume has one metadata area or two
abbrev pub HasFewAreas : Label → Type 0
HasFewAreas label = (1 ≤ label.areas) × (label.areas ≤ 2)

-- the ring of its second area has the text of the first one
pub record IsSameRing (sectors : ℕ) (image : List ℕ) (label : Label) (first ring : RingArea) : Type 0 where
  pub two : label.areas ≡ 2
  pub is_ring : IsRingBy sectors image label 1 ring
  pub same : ring.text ≡ first.text

-- the ring of its second area, if there is one
abbrev pub IsSecondRing : ℕ → List ℕ → Label → RingArea → Option RingArea → Type 0
IsSecondRing sectors image label first None = label.areas < 2
IsSecondRing sectors image label first (Some ring) = IsSameRing sectors image label first ring

-- all its areas hold one text
pub record HasOneText (sectors : ℕ) (image : List ℕ) (label : Label) (physical : Physical) : Type 0 where
  pub label_is : physical.label ≡ label
  pub few : HasFewAreas label
  pub first : IsRingBy sectors image label 0 physical.first
  pub second : IsSecondRing sectors image label physical.first physical.second

-- why a physical volume isn't read, by the fault of an area: one without a text is in no group yet
abbrev pub why_of_ring : RingFault → Why
why_of_ring faults.Empty = why.NoGroup
why_of_ring fault = why.Ring fault

-- an area has a fault that says that of it
pub record IsAreaUnread (sectors : ℕ) (image : List ℕ) (label : Label) (area : ℕ) (cause : Why) : Type 0 where
  pub fault : RingFault
  pub known : (fault ≢ faults.Device) × (fault ≢ faults.Memory)
  pub has : HasRingFaultBy sectors image label area fault
  pub cause_is : cause ≡ why_of_ring fault

-- its second area has another text than the first one
pub record HasOtherText (sectors : ℕ) (image : List ℕ) (label : Label) (first : RingArea) : Type 0 where
  pub ring : RingArea
  pub is_ring : IsRingBy sectors image label 1 ring
  pub differs : ring.text ≡ first.text → ⊥

-- its first area has a text, and the second one a fault or another text
pub record IsSecondUnread (sectors : ℕ) (image : List ℕ) (label : Label) (cause : Why) : Type 0 where
  pub first : RingArea
  pub is_ring : IsRingBy sectors image label 0 first
  pub two : label.areas ≡ 2
  pub second : IsAreaUnread sectors image label 1 cause
      ⊎ (HasOtherText sectors image label first × (cause ≡ why.Group Members))

-- why a physical volume with that label isn't read: it has no area or more than two; its first area has a fault; or its
-- second one
abbrev pub IsPhysicalUnread : ℕ → List ℕ → Label → Why → Type 0
IsPhysicalUnread sectors image label cause =
    ((HasFewAreas label → ⊥) × (cause ≡ why.Group Members))
    ⊎ (HasFewAreas label × (IsAreaUnread sectors image label 0 cause ⊎ IsSecondUnread sectors image label cause))

-- the same as what a volume holds
pub record IsUnreadWith (sectors : ℕ) (image : List ℕ) (inner : Inner) : Type 0 where
  pub label : Label
  pub labelled : HasLabel sectors image (Some label)
  pub cause : Why
  pub unread : IsPhysicalUnread sectors image label cause
  pub inner_is : inner ≡ Unread cause

-- what a partition holds by itself: what has no label stands alone
abbrev pub IsFoundIn : ℕ → List ℕ → Found → Type 0
IsFoundIn sectors image (found.Physical physical) =
    HasLabel sectors image (Some physical.label) × HasOneText sectors image physical.label physical
IsFoundIn sectors image (found.Inner inner) =
    (HasLabel sectors image None × IsInner sectors image inner) ⊎ IsUnreadWith sectors image inner

-- the second area, if there is one, lies in so many sectors
abbrev pub SecondFits : ℕ → Label → Option RingArea → Type 0
SecondFits sectors label None = label.areas < 2
SecondFits sectors label (Some ring) = IsPlacedBy sectors label 1

-- one area or two, which lie in so many sectors
pub record AreasFit (sectors : ℕ) (physical : Physical) : Type 0 where
  pub few : HasFewAreas physical.label
  pub first : IsPlacedBy sectors physical.label 0
  pub second : SecondFits sectors physical.label physical.second

-- what is found says that it has no more than so many sectors
abbrev pub FoundFits : ℕ → Found → Type 0
FoundFits sectors (found.Physical physical) = AreasFit sectors physical
FoundFits sectors (found.Inner inner) = InnerFits sectors inner
