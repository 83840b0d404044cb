-- The superblock of a volume, and which reasons speak against it. It is the first sector of the file system; its
-- fields stand highest byte first, its checksum lowest byte first.
use Rattle.std.specs.Prelude.{◌≡◌, ℕ, ◌*◌, ◌%◌, Bool, true, false, if◌then◌else◌, nat_lt, nat_le, ◌==◌, ◌&&◌, ◌||◌, List, take, slice_index}
use Rattle.std.specs.Int.{bit_at}
use Rattle.disk_base.specs.Image.{bytes_at}
use Rattle.disk_base.specs.Fields.{big_at, little_at}
use Rattle.disk_base.specs.Checksum.{crc32c_without_of}
use Rattle.xfs_super.specs.Geometry.{Geometry, is_sector_size, are_groups, is_log_place}
use Rattle.xfs_super.specs.declared.superblock.Superblock.{Superblock}
use Rattle.xfs_super.specs.declared.reason.Reason.{Reason}
use Rattle.xfs_super.specs.declared.reason.Reason.TheVariants.{Geometry as BadGeometry, Feature, Reflink, ReverseMap, RealTime, ExternalLog, NeedsRepair, InProgress, Checksum, Header}

-- the fields, as they stand in the bytes
unfoldable pub superblock_in : List ℕ → Superblock
superblock_in bytes = record {
  magic = big_at 4 bytes 0;
  blocksize = big_at 4 bytes 4;
  dblocks = big_at 8 bytes 8;
  rblocks = big_at 8 bytes 16;
  uuid = bytes_at bytes 32 16;
  logstart = big_at 8 bytes 48;
  rootino = big_at 8 bytes 56;
  agblocks = big_at 4 bytes 84;
  agcount = big_at 4 bytes 88;
  logblocks = big_at 4 bytes 96;
  versionnum = big_at 2 bytes 100;
  sectsize = big_at 2 bytes 102;
  inodesize = big_at 2 bytes 104;
  inopblock = big_at 2 bytes 106;
  label = bytes_at bytes 108 12;
  blocklog = slice_index bytes 120;
  sectlog = slice_index bytes 121;
  inodelog = slice_index bytes 122;
  inopblog = slice_index bytes 123;
  agblklog = slice_index bytes 124;
  inprogress = slice_index bytes 126;
  dirblklog = slice_index bytes 192;
  ro_compat = big_at 4 bytes 212;
  incompat = big_at 4 bytes 216;
  log_incompat = big_at 4 bytes 220;
  meta_uuid = bytes_at bytes 248 16;
}

-- flag 2 ^ k of a field of flags
abbrev pub has_flag : ℕ → ℕ → Bool
has_flag flags k = bit_at flags k == 1

-- what it says of its volume
abbrev pub geometry_from : Superblock → Geometry
geometry_from s = record {
  dblocks = s.dblocks;
  uuid = s.uuid;
  meta = if has_flag s.incompat 2 then s.meta_uuid else s.uuid;
  label = s.label;
  logstart = s.logstart;
  logblocks = s.logblocks;
  rootino = s.rootino;
  agblocks = s.agblocks;
  agcount = s.agcount;
  agblklog = s.agblklog;
  sectsize = s.sectsize;
  inodesize = s.inodesize;
  inopblog = s.inopblog;
  finobt = has_flag s.ro_compat 0;
  sparse = has_flag s.incompat 1;
  bigtime = has_flag s.incompat 3;
  inobtcount = has_flag s.ro_compat 3;
  nrext64 = has_flag s.incompat 5;
}

abbrev pub geometry_in : List ℕ → Geometry
geometry_in bytes = geometry_from (superblock_in bytes)

-- a part of the metadata spells its checksum, of all its bytes with the four of the checksum itself taken as zero
abbrev pub has_checksum : List ℕ → ℕ → Bool
has_checksum bytes at = little_at 4 bytes at == crc32c_without_of bytes at

-- ---- the tests that a superblock has to pass

abbrev pub has_magic : Superblock → Bool
has_magic s = s.magic == 0x58465342

-- inodes of 512, 1024 or 2048 bytes, and as many of them in a block as it has room for
abbrev pub has_inode_sizes : Superblock → Bool
has_inode_sizes s =
    s.inodesize == 512 && s.inodelog == 9 && s.inopblock == 8 && s.inopblog == 3
    || s.inodesize == 1024 && s.inodelog == 10 && s.inopblock == 4 && s.inopblog == 2
    || s.inodesize == 2048 && s.inodelog == 11 && s.inopblock == 2 && s.inopblog == 1

-- sectors of 512 or 4096 bytes
abbrev pub has_sector_size : Superblock → Bool
has_sector_size s = s.sectsize == 512 && s.sectlog == 9 || s.sectsize == 4096 && s.sectlog == 12

-- besides, blocks of 4096 bytes, of which a directory takes one at a time
abbrev pub has_sizes : Superblock → Bool
has_sizes s = s.blocksize == 4096 && s.blocklog == 12 && has_sector_size s && has_inode_sizes s && s.dirblklog == 0

-- the volume has the blocks
abbrev pub fits_volume : ℕ → Superblock → Bool
fits_volume sectors s = nat_le 8 sectors && nat_le (8 * s.dblocks) sectors

-- its groups and its log lie where they may
abbrev pub has_places : Superblock → Bool
has_places s = are_groups s.dblocks s.agblocks s.agcount s.agblklog && is_log_place (geometry_from s)

-- the sizes agree with one another and with a volume of that many sectors
abbrev pub is_laid_out : ℕ → Superblock → Bool
is_laid_out sectors s = has_sizes s && fits_volume sectors s && has_places s

-- version 5 with file types in directories, and no feature but those that are known
abbrev pub has_features : Superblock → Bool
has_features s =
    s.versionnum % 16 == 5 && has_flag s.incompat 0 && nat_lt s.ro_compat 16 && nat_lt s.incompat 64 && s.log_incompat == 0

-- which reasons say that a volume has what isn't served
abbrev pub IsDeclined : Superblock → Reason → Type 0
IsDeclined s Feature = has_features s ≡ false
IsDeclined s Reflink = has_flag s.ro_compat 2 ≡ true
IsDeclined s ReverseMap = has_flag s.ro_compat 1 ≡ true
IsDeclined s RealTime = (s.rblocks == 0) ≡ false
IsDeclined s ExternalLog = (s.logstart == 0) ≡ true
IsDeclined s NeedsRepair = has_flag s.incompat 4 ≡ true
IsDeclined s InProgress = (s.inprogress == 0) ≡ false
IsDeclined s _ = ⊥

-- none of them does
pub record IsAccepted (s : Superblock) : Type 0 where
  pub features : has_features s ≡ true
  pub reflink : has_flag s.ro_compat 2 ≡ false
  pub reverse_map : has_flag s.ro_compat 1 ≡ false
  pub real_time : (s.rblocks == 0) ≡ true
  pub external_log : (s.logstart == 0) ≡ false
  pub needs_repair : has_flag s.incompat 4 ≡ false
  pub in_progress : (s.inprogress == 0) ≡ true

-- the checksum of the sector that the superblock fills
abbrev pub has_superblock_checksum : List ℕ → Bool
has_superblock_checksum bytes = has_checksum (take (superblock_in bytes).sectsize bytes) 224

-- which reasons speak against the superblock with which these bytes, the first 4096 of a volume of that many sectors, begin;
-- its checksum means something where its sector has a size
abbrev pub SpeaksAgainst : ℕ → List ℕ → Reason → Type 0
SpeaksAgainst sectors bytes BadGeometry = is_laid_out sectors (superblock_in bytes) ≡ false
SpeaksAgainst sectors bytes (Checksum sector) =
    (sector ≡ 0) × (is_sector_size (superblock_in bytes).sectsize ≡ true) × (has_superblock_checksum bytes ≡ false)
SpeaksAgainst sectors bytes (Header sector) = (sector ≡ 0) × (has_magic (superblock_in bytes) ≡ false)
SpeaksAgainst sectors bytes reason = IsDeclined (superblock_in bytes) reason

-- none does
pub record IsSuperblock (sectors : ℕ) (bytes : List ℕ) : Type 0 where
  pub magic : has_magic (superblock_in bytes) ≡ true
  pub geometry : is_laid_out sectors (superblock_in bytes) ≡ true
  pub served : IsAccepted (superblock_in bytes)
  pub checksum : has_superblock_checksum bytes ≡ true
