-- Which volumes can't be read that a job must read, and why a job can't be done with a guest.
use Rattle.std.specs.Prelude.{◌≡◌, ℕ, suc, ◌≤◌, ◌++◌, ◌||◌, Bool, true, false, if◌then◌else◌, List, [], ◌∷◌, Option, None, Some, Contains, slice_get}
use Rattle.std.specs.List.{flat_map}
use Rattle.group_content.specs.declared.types.GroupVolume.{GroupVolume}
use Rattle.guest_view.specs.declared.content.Content.{Content}
use Rattle.guest_view.specs.declared.content.Content.TheVariants.{Extended, Xfs, Swap, Group, Member, Unread}
use Rattle.guest_view.specs.declared.guest.GuestPart.{GuestPart}
use Rattle.volume_content.specs.declared.content.Inner.{Inner}
use Rattle.volume_content.specs.declared.content.Inner.TheVariants as inner
use Rattle.volume_content.specs.declared.content.Why.{Why}
use Rattle.volume_content.specs.declared.content.Why.TheVariants as why
use Rattle.words.specs.declared.job.SparsifyJob.{SparsifyJob}
use Rattle.volume_choice.specs.Chosen.{AreChoices, is_ignored_logical, is_spared_part, is_zeroed_logical, lies_in_spared, missing_places}
use Rattle.volume_choice.specs.declared.chosen.Choices.{Choices}
use Rattle.volume_choice.specs.declared.fault.ChoiceFault.{ChoiceFault}
use Rattle.volume_choice.specs.declared.fault.ChoiceFault.TheVariants.{Volume, NoSuchVolume, Memory}
use Rattle.volume_choice.specs.declared.fault.UnreadVolume.{UnreadVolume}

-- what isn't known, and a physical volume without a group, may stay as it is
abbrev pub may_stay : Why → Bool
may_stay why.Other = true
may_stay why.NoGroup = true
may_stay (why.Xfs reason) = false
may_stay why.Swap = false
may_stay (why.Ring fault) = false
may_stay (why.Text fault) = false
may_stay (why.Group fault) = false

-- a volume that isn't read for that cause, where that counts
abbrev pub unread_for : ℕ → Option ℕ → Why → List UnreadVolume
unread_for part lv cause = if may_stay cause then [] else record { part = part; lv = lv; why = cause } ∷ []

-- a partition that isn't read
abbrev pub unread_content : ℕ → Content → List UnreadVolume
unread_content number Extended = []
unread_content number (Xfs volume) = []
unread_content number (Swap swap) = []
unread_content number (Group physical membership content) = []
unread_content number (Member physical membership) = []
unread_content number (Unread cause) = unread_for number None cause

-- a logical volume that isn't read
abbrev pub unread_inner : ℕ → ℕ → Inner → List UnreadVolume
unread_inner holder lv (inner.Xfs volume) = []
unread_inner holder lv (inner.Swap swap) = []
unread_inner holder lv (inner.Unread cause) = unread_for holder (Some lv) cause

-- a logical volume that needn't be read: it is ignored or zeroed, or lies in a partition that is
abbrev pub is_spared_logical : Choices → List GuestPart → ℕ → ℕ → GroupVolume → Bool
is_spared_logical choices parts holder lv volume =
    (is_ignored_logical choices holder lv || is_zeroed_logical choices holder lv)
    || lies_in_spared choices parts volume.runs.items

-- the logical volumes from the one with place n on that must be read and can't, in the group's order
abbrev pub unread_logicals : Choices → List GuestPart → ℕ → ℕ → List GroupVolume → List UnreadVolume
unread_logicals choices parts holder n [] = []
unread_logicals choices parts holder n (volume ∷ volumes) =
    (if is_spared_logical choices parts holder n volume then [] else unread_inner holder n volume.inner)
    ++ unread_logicals choices parts holder (suc n) volumes

abbrev pub unread_in_group : Choices → List GuestPart → ℕ → Content → List UnreadVolume
unread_in_group choices parts holder Extended = []
unread_in_group choices parts holder (Xfs volume) = []
unread_in_group choices parts holder (Swap swap) = []
unread_in_group choices parts holder (Group physical membership content) =
    unread_logicals choices parts holder 0 content.volumes.items
unread_in_group choices parts holder (Member physical membership) = []
unread_in_group choices parts holder (Unread cause) = []

-- the volumes of a partition that must be read and can't: itself, and the logical ones of the group that it holds
abbrev pub unread_in : Choices → List GuestPart → GuestPart → List UnreadVolume
unread_in choices parts part =
    (if is_spared_part choices part then [] else unread_content part.number part.content)
    ++ unread_in_group choices parts part.number part.content

-- all of them, by partition
abbrev pub unread_volumes : Choices → List GuestPart → List UnreadVolume
unread_volumes choices parts = flat_map (unread_in choices parts) parts

-- ---- why a job can't be done

-- the least of some numbers
pub record IsLeast (numbers : List ℕ) (least : ℕ) : Type 0 where
  pub among : Contains numbers least
  pub none_below : (n : ℕ) → Contains numbers n → least ≤ n

-- the places of all words whose volumes aren't there
abbrev pub all_missing : List GuestPart → SparsifyJob → List ℕ
all_missing parts job = missing_places parts job.ignore ++ missing_places parts job.zero

-- the first volume that must be read and can't
pub record HasUnread (parts : List GuestPart) (job : SparsifyJob) (unread : UnreadVolume) : Type 0 where
  pub choices : Choices
  pub are : AreChoices parts job choices
  pub first : slice_get (unread_volumes choices parts) 0 ≡ Some unread

-- all that must be read is read, and the least place of a word whose volume isn't there is this
pub record HasMissing (parts : List GuestPart) (job : SparsifyJob) (place : ℕ) : Type 0 where
  pub choices : Choices
  pub are : AreChoices parts job choices
  pub read : unread_volumes choices parts ≡ []
  pub least : IsLeast (all_missing parts job) place

-- why a job can't be done with these partitions; want of memory says nothing of them
abbrev pub HasChoiceFault : List GuestPart → SparsifyJob → ChoiceFault → Type 0
HasChoiceFault parts job (Volume unread) = HasUnread parts job unread
HasChoiceFault parts job (NoSuchVolume place) = HasMissing parts job place
HasChoiceFault parts job Memory = Unit {0}

-- what a job names, all of it there, where all that must be read is read
pub record AreSoundChoices (parts : List GuestPart) (job : SparsifyJob) (choices : Choices) : Type 0 where
  pub are : AreChoices parts job choices
  pub read : unread_volumes choices parts ≡ []
  pub there : all_missing parts job ≡ []
