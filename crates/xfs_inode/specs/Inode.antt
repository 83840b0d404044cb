-- When an inode that is seen is sound, but for its extents: which reason speaks against it.
use Rattle.std.specs.Prelude.{◌≡◌, ℕ, ◌*◌, Bool, true, false, ◌==◌, ◌&&◌, ◌||◌, not, nat_lt, Option, Some, None, List, take}
use Rattle.std.specs.Str.{bytes_eq}
use Rattle.block_claims.specs.Agreement.{block}
use Rattle.disk_base.specs.Fields.{big_at}
use Rattle.disk_base.specs.Image.{bytes_at}
use Rattle.xfs_super.specs.Geometry.{Geometry}
use Rattle.xfs_super.specs.Super.{geometry_of}
use Rattle.xfs_super.specs.Superblock.{has_checksum}
use Rattle.xfs_super.specs.declared.geometry.Super.{Super}
use Rattle.xfs_super.specs.declared.reason.CheckFault.{CheckFault}
use Rattle.xfs_super.specs.declared.reason.CheckFault.TheVariants as check
use Rattle.xfs_super.specs.declared.reason.Reason.{Reason}
use Rattle.xfs_super.specs.declared.reason.Reason.TheVariants as why
use Rattle.xfs_inode.specs.declared.core_fields.Core.{Core}
use Rattle.xfs_inode.specs.Core.{core_of, is_directory, is_link}
use Rattle.xfs_inode.specs.Seen.{FileBlock, SeenInode, spells_inode, inode_bytes, inode_of, inode_seen, first_file_block}

-- a link whose target doesn't stand in the inode has a block for it
abbrev pub needs_target_block : Core → Bool
needs_target_block core = is_link core && (core.format == 2 && nat_lt 0 core.size)

-- the header of a block at that place of the volume, which holds the target of that inode's link, of so many bytes (XFS
-- Algorithms & Data Structures, 'Remote Symbolic Links')
abbrev pub spells_target_block : Geometry → ℕ → ℕ → ℕ → List ℕ → Bool
spells_target_block geo ino size at bytes =
    big_at 4 bytes 0 == 0x58534C4D && (big_at 4 bytes 4 == 0 && (big_at 4 bytes 8 == size && (has_checksum bytes 12
    && (bytes_eq (bytes_at bytes 16 16) geo.meta && (big_at 8 bytes 32 == ino && big_at 8 bytes 40 == 8 * at)))))

-- there is such a block in the volume
abbrev pub is_target_block : Geometry → ℕ → ℕ → Option FileBlock → Bool
is_target_block geo ino size None = false
is_target_block geo ino size (Some b) = nat_lt b.at geo.dblocks && spells_target_block geo ino size b.at b.bytes

abbrev pub has_target : Geometry → Core → SeenInode → Bool
has_target geo core i =
    not (needs_target_block core) || is_target_block geo i.ino core.size (first_file_block i.contents.extents)

-- the root inode is a directory
abbrev pub is_root_sound : Geometry → ℕ → Core → Bool
is_root_sound geo ino core = not (ino == geo.rootino) || is_directory core

unfoldable pub is_sound_inode : Geometry → SeenInode → Bool
is_sound_inode geo i =
    spells_inode geo i.ino i.bytes
    && (has_target geo (core_of geo i.bytes) i && is_root_sound geo i.ino (core_of geo i.bytes))

abbrev pub SpeaksAgainstInode : Geometry → SeenInode → Reason → Type 0
SpeaksAgainstInode geo i (why.Inode n) = (n ≡ i.ino) × (is_sound_inode geo i ≡ false)
SpeaksAgainstInode geo i _ = ⊥

abbrev pub HasInodeFault : Geometry → SeenInode → CheckFault → Type 0
HasInodeFault geo i (check.Bad reason) = SpeaksAgainstInode geo i reason
HasInodeFault geo i check.Device = Unit {0}
HasInodeFault geo i check.Memory = ⊥

-- ---- the same of a volume on an image

-- the inode at the front of a buffer
abbrev pub front_inode : Super → List ℕ → List ℕ
front_inode geo buffer = take geo.inodesize buffer

-- an inode whose bytes are those
abbrev pub inode_as : Super → ℕ → List ℕ → List ℕ → SeenInode
inode_as geo ino bytes image = inode_of (geometry_of geo) (block image) ino bytes

abbrev pub IsSoundAs : Super → ℕ → List ℕ → List ℕ → Type 0
IsSoundAs geo ino bytes image = is_sound_inode (geometry_of geo) (inode_as geo ino bytes image) ≡ true

abbrev pub HasInodeFaultAs : Super → ℕ → List ℕ → List ℕ → CheckFault → Type 0
HasInodeFaultAs geo ino bytes image = HasInodeFault (geometry_of geo) (inode_as geo ino bytes image)

-- an inode as it stands in its block
abbrev pub inode_on : Super → ℕ → List ℕ → SeenInode
inode_on geo ino image = inode_seen (geometry_of geo) (block image) ino

abbrev pub IsSoundOn : Super → ℕ → List ℕ → Type 0
IsSoundOn geo ino image = IsSoundAs geo ino (inode_bytes (geometry_of geo) (block image) ino) image

abbrev pub HasInodeFaultOn : Super → ℕ → List ℕ → CheckFault → Type 0
HasInodeFaultOn geo ino image = HasInodeFaultAs geo ino (inode_bytes (geometry_of geo) (block image) ino) image
