-- Contents that would have to grow, and those of them that can't.
use Rattle.std.specs.Prelude.{ℕ, ◌&&◌, ◌==◌, Bool, true, false, not, nat_lt, nat_le, if◌then◌else◌, List, Option, Some, None, option_map, slice_get}
use Rattle.std.specs.List.{filter_map, list_any}
use Rattle.guest_view.specs.Contents.{needed_sectors}
use Rattle.guest_view.specs.declared.content.Content.{Content}
use Rattle.guest_view.specs.declared.content.Content.TheVariants.{Extended, Xfs, Swap, Group, Member, Unread}
use Rattle.guest_view.specs.declared.guest.GuestPart.{GuestPart}
use Rattle.layout_plan.specs.declared.part.Placed.{Placed}
use Rattle.layout_plan.specs.Plans.{Plan}
use Rattle.lvm_group.specs.declared.fault.GroupFault.TheVariants.{Members}
use Rattle.run_end.specs.declared.end.VolumeFault.{VolumeFault}
use Rattle.volume_content.specs.declared.content.Why.{Why}
use Rattle.volume_content.specs.declared.content.Why.TheVariants as why
use Rattle.resize_core.specs.Contents.{is_copied, placed_from}

-- whether the content of a partition has to grow: contents do, this one is copied, and it gets longer
abbrev pub has_to_grow : Bool → GuestPart → Placed → Bool
has_to_grow grow part placed = grow && is_copied placed.fate && nat_lt part.count placed.count

-- ---- groups that lose a physical volume

-- the partition that holds the group of a physical volume
abbrev pub holder_of : Content → Option ℕ
holder_of Extended = None
holder_of (Xfs volume) = None
holder_of (Swap swap) = None
holder_of (Group physical membership group) = Some membership.holder
holder_of (Member physical membership) = Some membership.holder
holder_of (Unread why) = None

-- whether it is that partition
abbrev pub is_holder : ℕ → Option ℕ → Bool
is_holder holder None = false
is_holder holder (Some number) = number == holder

-- whether a partition is copied, with the sectors that its content needs
abbrev pub keeps_content : GuestPart → Option Placed → Bool
keeps_content part None = false
keeps_content part (Some placed) = is_copied placed.fate && nat_le (needed_sectors part.content part.count) placed.count

-- whether it is a physical volume of that group, and is deleted, ignored or cut
abbrev pub is_lost : Plan → ℕ → GuestPart → Bool
is_lost plan holder part = is_holder holder (holder_of part.content) && not (keeps_content part (placed_from plan part.number))

-- whether the group that that partition holds loses one
abbrev pub has_lost : Plan → List GuestPart → ℕ → Bool
has_lost plan parts holder = list_any (is_lost plan holder) parts

-- ---- contents that can't grow

-- nothing grows in a group that loses a physical volume
abbrev pub why_lost : Bool → Option Why
why_lost true = Some (why.Group Members)
why_lost false = None

-- why a content can't grow
abbrev pub why_stuck : Plan → List GuestPart → Content → Option Why
why_stuck plan parts Extended = None
why_stuck plan parts (Xfs volume) = None
why_stuck plan parts (Swap swap) = None
why_stuck plan parts (Group physical membership group) = why_lost (has_lost plan parts membership.holder)
why_stuck plan parts (Member physical membership) = why_lost (has_lost plan parts membership.holder)
why_stuck plan parts (Unread cause) = Some cause

-- why the content of a partition can't grow, where it has to
abbrev pub stuck_at : Bool → Plan → List GuestPart → GuestPart → Option Placed → Option Why
stuck_at grow plan parts part None = None
stuck_at grow plan parts part (Some placed) = if has_to_grow grow part placed then why_stuck plan parts part.content else None

abbrev pub stuck_part : Bool → Plan → List GuestPart → GuestPart → Option VolumeFault
stuck_part grow plan parts part =
    option_map (λ cause. record { part = part.number; why = cause }) (stuck_at grow plan parts part (placed_from plan part.number))

-- the partitions whose contents have to grow and can't, by number
abbrev pub stuck_parts : Bool → Plan → List GuestPart → List VolumeFault
stuck_parts grow plan parts = filter_map (stuck_part grow plan parts) parts

-- the first of them
abbrev pub first_stuck : Bool → Plan → List GuestPart → Option VolumeFault
first_stuck grow plan parts = slice_get (stuck_parts grow plan parts) 0

-- ---- contents that can

abbrev pub can_grow : Plan → List GuestPart → Content → Bool
can_grow plan parts Extended = false
can_grow plan parts (Xfs volume) = true
can_grow plan parts (Swap swap) = true
can_grow plan parts (Group physical membership group) = not (has_lost plan parts membership.holder)
can_grow plan parts (Member physical membership) = not (has_lost plan parts membership.holder)
can_grow plan parts (Unread cause) = false

-- whether the content of a partition has to grow and can
abbrev pub grows_at : Bool → Plan → List GuestPart → GuestPart → Option Placed → Bool
grows_at grow plan parts part None = false
grows_at grow plan parts part (Some placed) = has_to_grow grow part placed && can_grow plan parts part.content

abbrev pub grows : Bool → Plan → List GuestPart → GuestPart → Bool
grows grow plan parts part = grows_at grow plan parts part (placed_from plan part.number)

-- whether some content has to grow and can
abbrev pub has_growth : Bool → Plan → List GuestPart → Bool
has_growth grow plan parts = list_any (grows grow plan parts) parts
