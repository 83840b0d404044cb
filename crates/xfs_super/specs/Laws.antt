-- A part of the metadata is sound exactly where no reason speaks against it.
use Rattle.std.specs.Prelude.{◌≡◌, ℕ, ◌+◌, ◌*◌, ◌/◌, ◌%◌, ◌<◌, ◌≤◌, Bool, true, List}
use Rattle.xfs_super.specs.Superblock.{SpeaksAgainst, IsSuperblock}
use Rattle.xfs_super.specs.Headers.{SpeaksAgainstHeader, PassesAsHeader}
use Rattle.disk_base.specs.Image.{bytes_at}
use Rattle.xfs_super.specs.Geometry.{Geometry, is_sector_size, header_sector, header_seen, blocks_in_group, are_groups, is_log_place, AreGroups, IsLogPlace}
use Rattle.block_claims.specs.Agreement.{block}
use Rattle.xfs_super.specs.declared.reason.Reason.{Reason}

-- against what is sound no reason speaks
pub record NoReasonSpeaks : Type 0 where
  pub superblock : (sectors : ℕ) (bytes : List ℕ) → IsSuperblock sectors bytes → (reason : Reason) → SpeaksAgainst sectors bytes reason → ⊥
  pub header : (sector at : ℕ) (passes : Bool) (bytes : List ℕ) → PassesAsHeader at passes bytes → (reason : Reason) → SpeaksAgainstHeader sector at passes bytes reason → ⊥

-- and what no reason speaks against is sound
pub record NoReasonIsLeft : Type 0 where
  pub superblock : (sectors : ℕ) (bytes : List ℕ) → ((reason : Reason) → SpeaksAgainst sectors bytes reason → ⊥) → IsSuperblock sectors bytes
  pub header : (sector at : ℕ) (passes : Bool) (bytes : List ℕ) → ((reason : Reason) → SpeaksAgainstHeader sector at passes bytes reason → ⊥) → PassesAsHeader at passes bytes

-- the bytes of a header, read by sectors and seen by blocks
abbrev pub HeadersStandInBlocks : Type 0
HeadersStandInBlocks =
    (image : List ℕ) (g : Geometry) (group k : ℕ) → is_sector_size g.sectsize ≡ true → k ≤ 3
    → bytes_at image (512 * header_sector g group k) g.sectsize ≡ header_seen g (block image) group k

-- the facts that a superblock keeps with it once it was read say what the tests on its groups and its log say
pub record FactsAreTests : Type 0 where
  pub groups : (dblocks agblocks agcount agblklog : ℕ) → AreGroups dblocks agblocks agcount agblklog → are_groups dblocks agblocks agcount agblklog ≡ true
  pub groups_back : (dblocks agblocks agcount agblklog : ℕ) → are_groups dblocks agblocks agcount agblklog ≡ true → AreGroups dblocks agblocks agcount agblklog
  pub log : (g : Geometry) → IsLogPlace g.logstart g.logblocks g.dblocks g.agblocks g.agcount g.agblklog → is_log_place g ≡ true
  pub log_back : (g : Geometry) → is_log_place g ≡ true → IsLogPlace g.logstart g.logblocks g.dblocks g.agblocks g.agcount g.agblklog

-- each group lies inside the volume and has at least 64 blocks, and each block of the volume is one of a group
pub record GroupsCover (dblocks agblocks agcount : ℕ) : Type 0 where
  pub some : (group : ℕ) → group < agcount → 64 ≤ blocks_in_group dblocks agblocks group
  pub inside : (group : ℕ) → group < agcount → group * agblocks + blocks_in_group dblocks agblocks group ≤ dblocks
  pub whole : (group : ℕ) → group + 1 < agcount → blocks_in_group dblocks agblocks group ≡ agblocks
  pub all : (n : ℕ) → n < dblocks → (n / agblocks < agcount) × (n % agblocks < blocks_in_group dblocks agblocks (n / agblocks))

abbrev pub GroupsAreTheVolume : Type 0
GroupsAreTheVolume =
    (dblocks agblocks agcount agblklog : ℕ)
    → AreGroups dblocks agblocks agcount agblklog → GroupsCover dblocks agblocks agcount
