-- Which volumes of a guest a job names, to be ignored or zeroed.
use Rattle.std.specs.Prelude.{◌≡◌, ℕ, suc, ◌-◌, ◌&&◌, ◌||◌, ◌==◌, Bool, false, not, nat_le, nat_lt, if◌then◌else◌, List, [], ◌∷◌, Option, None, Some, option_map, slice_get}
use Rattle.std.specs.List.{filter_map, list_any}
use Rattle.std.specs.Str.{bytes_eq}
use Rattle.disk_base.specs.declared.run.Run.{Run}
use Rattle.group_content.specs.declared.types.GroupContent.{GroupContent}
use Rattle.guest_view.specs.declared.content.Content.{Content}
use Rattle.guest_view.specs.declared.content.Content.TheVariants.{Extended, Xfs, Swap, Group, Member, Unread}
use Rattle.guest_view.specs.declared.guest.GuestPart.{GuestPart}
use Rattle.layout_plan.specs.Roles.{is_extended_role}
use Rattle.lvm_group.specs.Volumes.{names_of}
use Rattle.words.specs.declared.job.SparsifyJob.{SparsifyJob}
use Rattle.words.specs.declared.job.VolumeName.{VolumeName}
use Rattle.words.specs.declared.job.VolumeName.TheVariants as names
use Rattle.words.specs.declared.job.VolumeWish.{VolumeWish}
use Rattle.volume_choice.specs.declared.chosen.Chosen.{Chosen}
use Rattle.volume_choice.specs.declared.chosen.Chosen.TheVariants as chosen
use Rattle.volume_choice.specs.declared.chosen.Choices.{Choices}

-- ---- what a name stands for

-- the partition of that number, which isn't extended
abbrev pub part_numbered : ℕ → GuestPart → Option Chosen
part_numbered number part =
    if part.number == number && not (is_extended_role part.role) then Some (chosen.Part number) else None

-- the first place of a name among names, which are counted from n
abbrev pub index_from : ℕ → List ℕ → List (List ℕ) → Option ℕ
index_from n name [] = None
index_from n name (other ∷ others) = if bytes_eq other name then Some n else index_from (suc n) name others

-- the first logical volume of that name in the group of that name, if this is it and has one
abbrev pub logical_in_group : List ℕ → List ℕ → ℕ → GroupContent → Option Chosen
logical_in_group group name holder content =
    if bytes_eq content.group.spelt.name group
    then option_map (chosen.Logical holder) (index_from 0 name (names_of content.group.spelt.logicals))
    else None

abbrev pub logical_in : List ℕ → List ℕ → ℕ → Content → Option Chosen
logical_in group name holder Extended = None
logical_in group name holder (Xfs volume) = None
logical_in group name holder (Swap swap) = None
logical_in group name holder (Group physical membership content) = logical_in_group group name holder content
logical_in group name holder (Member physical membership) = None
logical_in group name holder (Unread why) = None

-- the group, if it has that name
abbrev pub group_named_in : List ℕ → ℕ → Content → Option Chosen
group_named_in group holder Extended = None
group_named_in group holder (Xfs volume) = None
group_named_in group holder (Swap swap) = None
group_named_in group holder (Group physical membership content) =
    if bytes_eq content.group.spelt.name group then Some (chosen.Group holder) else None
group_named_in group holder (Member physical membership) = None
group_named_in group holder (Unread why) = None

-- what a name stands for in a partition
abbrev pub chosen_in : VolumeName → GuestPart → Option Chosen
chosen_in (names.Part number) part = part_numbered number part
chosen_in (names.Lv group name) part = logical_in group name part.number part.content
chosen_in (names.Group group) part = group_named_in group part.number part.content

-- what a name stands for: the first by partition of those that bear it
abbrev pub chosen_by : List GuestPart → VolumeName → Option Chosen
chosen_by parts name = slice_get (filter_map (chosen_in name) parts) 0

-- what is named, in the order of the words
abbrev pub chosen_of : List GuestPart → List VolumeWish → List Chosen
chosen_of parts wishes = filter_map (λ (wish : VolumeWish). chosen_by parts wish.volume) wishes

-- the place of a word whose volume isn't there
abbrev pub place_if_missing : Option Chosen → ℕ → Option ℕ
place_if_missing None place = Some place
place_if_missing (Some found) place = None

abbrev pub missing_places : List GuestPart → List VolumeWish → List ℕ
missing_places parts wishes =
    filter_map (λ (wish : VolumeWish). place_if_missing (chosen_by parts wish.volume) wish.place) wishes

-- what a job names of a guest, as far as it is there
pub record AreChoices (parts : List GuestPart) (job : SparsifyJob) (choices : Choices) : Type 0 where
  pub ignored : choices.ignored.items ≡ chosen_of parts job.ignore
  pub zeroed : choices.zeroed.items ≡ chosen_of parts job.zero

-- ---- what is ignored, and what is zeroed

abbrev pub is_same_chosen : Chosen → Chosen → Bool
is_same_chosen (chosen.Part number) (chosen.Part other) = number == other
is_same_chosen (chosen.Part number) (chosen.Logical holder lv) = false
is_same_chosen (chosen.Part number) (chosen.Group holder) = false
is_same_chosen (chosen.Logical holder lv) (chosen.Part number) = false
is_same_chosen (chosen.Logical holder lv) (chosen.Logical other lv') = holder == other && lv == lv'
is_same_chosen (chosen.Logical holder lv) (chosen.Group other) = false
is_same_chosen (chosen.Group holder) (chosen.Part number) = false
is_same_chosen (chosen.Group holder) (chosen.Logical other lv) = false
is_same_chosen (chosen.Group holder) (chosen.Group other) = holder == other

abbrev pub has_chosen : Chosen → List Chosen → Bool
has_chosen one = list_any (is_same_chosen one)

-- the group is zeroed of which this is a member's content
abbrev pub is_in_zeroed_group : Choices → Content → Bool
is_in_zeroed_group choices Extended = false
is_in_zeroed_group choices (Xfs volume) = false
is_in_zeroed_group choices (Swap swap) = false
is_in_zeroed_group choices (Group physical membership content) =
    has_chosen (chosen.Group membership.holder) choices.zeroed.items
is_in_zeroed_group choices (Member physical membership) =
    has_chosen (chosen.Group membership.holder) choices.zeroed.items
is_in_zeroed_group choices (Unread why) = false

abbrev pub is_ignored_part : Choices → GuestPart → Bool
is_ignored_part choices part = has_chosen (chosen.Part part.number) choices.ignored.items

-- a group that is zeroed counts as all its member partitions
abbrev pub is_zeroed_part : Choices → GuestPart → Bool
is_zeroed_part choices part =
    has_chosen (chosen.Part part.number) choices.zeroed.items || is_in_zeroed_group choices part.content

abbrev pub is_spared_part : Choices → GuestPart → Bool
is_spared_part choices part = is_ignored_part choices part || is_zeroed_part choices part

-- of a logical volume, by the partition that holds its group and its place in the group
abbrev pub is_ignored_logical : Choices → ℕ → ℕ → Bool
is_ignored_logical choices holder lv = has_chosen (chosen.Logical holder lv) choices.ignored.items

abbrev pub is_zeroed_logical : Choices → ℕ → ℕ → Bool
is_zeroed_logical choices holder lv = has_chosen (chosen.Logical holder lv) choices.zeroed.items

-- of a group, by the partition that holds it
abbrev pub is_ignored_group : Choices → ℕ → Bool
is_ignored_group choices holder = has_chosen (chosen.Group holder) choices.ignored.items

-- a run of the disk begins in a partition
abbrev pub begins_in : GuestPart → Run → Bool
begins_in part run = nat_le part.start run.start && nat_lt (run.start - part.start) part.count

-- a volume with these runs has some of them in a partition that is ignored or zeroed
abbrev pub lies_in_spared : Choices → List GuestPart → List Run → Bool
lies_in_spared choices parts runs =
    list_any (λ (part : GuestPart). is_spared_part choices part && list_any (begins_in part) runs) parts
