-- What holds of all that partitions are among each other.
use Rattle.std.specs.Prelude.{◌≡◌, List, map}
use Rattle.group_content.specs.Grouped.{runs_held}
use Rattle.group_content.specs.Standing.{IsStanding}
use Rattle.group_content.specs.declared.types.FoundPartition.{FoundPartition}
use Rattle.group_content.specs.declared.types.GroupContent.{GroupContent}
use Rattle.group_content.specs.declared.types.Standing.{Standing}
use Rattle.group_content.specs.declared.types.Standing.TheVariants.{Alone, Holder, Member, Unread}

-- the groups are spelled alike, and their volumes stand at the same places
pub record AreAlikeGroups (one other : GroupContent) : Type 0 where
  pub spelt : other.group.spelt ≡ one.group.spelt
  pub members : other.group.members ≡ one.group.members
  pub places : map runs_held other.volumes.items ≡ map runs_held one.volumes.items

-- the second is the first one; what the volumes of a group hold is said apart
abbrev pub AreAlikeStandings : Standing → Standing → Type 0
AreAlikeStandings Alone other = other ≡ Alone
AreAlikeStandings (Holder membership content) (Holder membership' content') =
    (membership' ≡ membership) × AreAlikeGroups content content'
AreAlikeStandings (Holder membership content) other = ⊥
AreAlikeStandings (Member membership) other = other ≡ Member membership
AreAlikeStandings (Unread cause) other = other ≡ Unread cause

-- a partition is one thing among the others
abbrev pub OneStanding : Type 0
OneStanding =
    (partitions : List FoundPartition) (partition : FoundPartition) (one other : Standing)
    → IsStanding partitions partition one → IsStanding partitions partition other → AreAlikeStandings one other
