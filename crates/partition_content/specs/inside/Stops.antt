-- What the steps of reading a physical volume answer to each other.
use Rattle.std.specs.Prelude.{◌≡◌, ℕ, ◌≤◌, ◌⊎◌, List, Option, None, Some}
use Rattle.lvm_group.specs.declared.fault.GroupFault.TheVariants.{Members}
use Rattle.lvm_label.specs.Ring.{RingArea}
use Rattle.lvm_label.specs.declared.fault.RingFault.{RingFault}
use Rattle.lvm_label.specs.declared.fault.RingFault.TheVariants as faults
use Rattle.lvm_label.specs.declared.label.Label.{Label}
use Rattle.volume_content.specs.declared.content.Why.TheVariants as why
use Rattle.volume_content.specs.declared.fault.ContentFault.TheVariants.{Device, Memory}
use Rattle.partition_content.specs.Found.{HasOtherText, IsAreaUnread, IsPhysicalUnread}
use Rattle.partition_content.specs.declared.found.Stop.{Stop}
use Rattle.partition_content.specs.declared.found.Stop.TheVariants.{Unread, Failed}

-- what a fault of an area stops with
abbrev pub stop_of : RingFault → Stop
stop_of faults.Place = Unread (why.Ring faults.Place)
stop_of faults.Header = Unread (why.Ring faults.Header)
stop_of faults.Ignored = Unread (why.Ring faults.Ignored)
stop_of faults.Empty = Unread why.NoGroup
stop_of faults.Checksum = Unread (why.Ring faults.Checksum)
stop_of faults.Device = Failed Device
stop_of faults.Memory = Failed Memory

-- a label that counts two areas or more names the second one
abbrev pub KnowsAreas : Option Label → Type 0
KnowsAreas None = Unit {0}
KnowsAreas (Some label) = 2 ≤ label.areas → label.second ≡ None → ⊥

-- why there is no ring of an area
abbrev pub IsAreaStop : ℕ → List ℕ → Label → ℕ → Stop → Type 0
IsAreaStop sectors image label area (Unread cause) = IsAreaUnread sectors image label area cause
IsAreaStop sectors image label area (Failed fault) = Unit {0}

-- why there is no ring of the second one with the text of the first
abbrev pub IsSecondStop : ℕ → List ℕ → Label → RingArea → Stop → Type 0
IsSecondStop sectors image label first (Unread cause) =
    (label.areas ≡ 2)
    × (IsAreaUnread sectors image label 1 cause ⊎ (HasOtherText sectors image label first × (cause ≡ why.Group Members)))
IsSecondStop sectors image label first (Failed fault) = Unit {0}

-- why there is no physical volume whose text is known
abbrev pub IsStop : ℕ → List ℕ → Label → Stop → Type 0
IsStop sectors image label (Unread cause) = IsPhysicalUnread sectors image label cause
IsStop sectors image label (Failed fault) = Unit {0}
