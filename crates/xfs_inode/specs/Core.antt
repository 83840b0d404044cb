-- An inode's core and its two forks, as functions of its bytes (XFS Algorithms & Data Structures, 'Inode Core', 'Data
-- Fork' and 'Attribute Fork'). Fields stand highest byte first.
use Rattle.std.specs.Prelude.{ℕ, ◌+◌, ◌-◌, ◌*◌, ◌/◌, ◌%◌, Bool, true, ◌==◌, ◌&&◌, ◌||◌, nat_le, cond, if◌then◌else◌, List, length, slice_index}
use Rattle.disk_base.specs.Fields.{big_at}
use Rattle.disk_base.specs.Image.{bytes_at}
use Rattle.xfs_super.specs.Geometry.{Geometry}
use Rattle.xfs_tree.specs.Fork.{fork_count}
use Rattle.xfs_inode.specs.declared.core_fields.Core.{Core}

-- flag 4 of the second flags, where the superblock has wide counts
abbrev pub has_large_counts : Geometry → List ℕ → Bool
has_large_counts geo bytes = geo.nrext64 && big_at 8 bytes 120 / 16 % 2 == 1

-- how many extents the two forks have
abbrev pub data_count : Geometry → List ℕ → ℕ
data_count geo bytes = cond (has_large_counts geo bytes) (big_at 8 bytes 24) (big_at 4 bytes 76)

abbrev pub attribute_count : Geometry → List ℕ → ℕ
attribute_count geo bytes = cond (has_large_counts geo bytes) (big_at 4 bytes 76) (big_at 2 bytes 80)

-- the fields, as they stand in the bytes; times are kept as they are stored
unfoldable pub core_of : Geometry → List ℕ → Core
core_of geo bytes = record {
  mode = big_at 2 bytes 2;
  version = slice_index bytes 4;
  format = slice_index bytes 5;
  uid = big_at 4 bytes 8;
  gid = big_at 4 bytes 12;
  nlink = big_at 4 bytes 16;
  project = big_at 2 bytes 22 * 65536 + big_at 2 bytes 20;
  atime = big_at 8 bytes 32;
  mtime = big_at 8 bytes 40;
  ctime = big_at 8 bytes 48;
  size = big_at 8 bytes 56;
  nblocks = big_at 8 bytes 64;
  extsize = big_at 4 bytes 72;
  nextents = data_count geo bytes;
  anextents = attribute_count geo bytes;
  forkoff = slice_index bytes 82;
  aformat = slice_index bytes 83;
  flags = big_at 2 bytes 90;
  generation = big_at 4 bytes 92;
  changecount = big_at 8 bytes 104;
  lsn = big_at 8 bytes 112;
  flags2 = big_at 8 bytes 120;
  crtime = big_at 8 bytes 144;
  ino = big_at 8 bytes 152;
  uuid = bytes_at bytes 160 16;
}

-- ---- kinds of files: the four bits on top of the mode

abbrev pub file_kind : Core → ℕ
file_kind core = core.mode / 4096

abbrev pub is_directory : Core → Bool
is_directory core = file_kind core == 4

abbrev pub is_regular_file : Core → Bool
is_regular_file core = file_kind core == 8

abbrev pub is_link : Core → Bool
is_link core = file_kind core == 10

-- devices of characters and of blocks
abbrev pub is_device : Core → Bool
is_device core = file_kind core == 2 || file_kind core == 6

-- pipes, devices and sockets
abbrev pub is_special_file : Core → Bool
is_special_file core = file_kind core == 1 || (is_device core || file_kind core == 12)

-- ---- formats of the data fork: 0 is a device's number, 1 local bytes, 2 a list of extents, 3 the root of their tree

abbrev pub has_directory_format : ℕ → Bool
has_directory_format format = format == 1 || (format == 2 || format == 3)

-- the kind of file has a format of its own
abbrev pub has_kind_and_format : Core → Bool
has_kind_and_format core =
    (is_directory core && has_directory_format core.format)
    || ((is_regular_file core && (core.format == 2 || core.format == 3))
    || ((is_link core && (core.format == 1 || core.format == 2)) || (is_special_file core && core.format == 0)))

-- ---- the forks

-- a fork: whose it is, whether it lies in its inode, in which format, how many extents it has in a list, how many local
-- bytes it has to hold, and its bytes
pub record InodeFork : Type 0 where
  pub ino : ℕ
  pub lies : Bool
  pub format : ℕ
  pub count : ℕ
  pub local : ℕ
  pub bytes : List ℕ

-- the data fork begins behind the core, and the attribute fork behind the data fork, where there is one
abbrev pub data_fork_len : Geometry → Core → ℕ
data_fork_len geo core = cond (core.forkoff == 0) (geo.inodesize - 176) (8 * core.forkoff)

abbrev pub has_forks : Geometry → Core → Bool
has_forks geo core = nat_le (8 * core.forkoff) (geo.inodesize - 176)

abbrev pub data_fork : Geometry → Core → List ℕ → InodeFork
data_fork geo core bytes = record {
  ino = core.ino;
  lies = has_forks geo core;
  format = core.format;
  count = core.nextents;
  local = core.size;
  bytes = bytes_at bytes 176 (data_fork_len geo core);
}

-- its local bytes are all of it
abbrev pub attribute_fork : Geometry → Core → List ℕ → InodeFork
attribute_fork geo core bytes = record {
  ino = core.ino;
  lies = has_forks geo core;
  format = core.aformat;
  count = core.anextents;
  local = 0;
  bytes = bytes_at bytes (176 + data_fork_len geo core) (geo.inodesize - (176 + data_fork_len geo core));
}

abbrev pub fork_of : Geometry → Core → List ℕ → Bool → InodeFork
fork_of geo core bytes attribute = if attribute then attribute_fork geo core bytes else data_fork geo core bytes

-- it holds its local bytes, its list of extents, or the root of their tree
abbrev pub has_room : ℕ → InodeFork → Bool
has_room len f =
    cond (f.format == 1) (nat_le f.local len)
    (cond (f.format == 2) (nat_le (16 * f.count) len)
    (cond (f.format == 3) (nat_le (4 + 16 * fork_count f.bytes) len) true))

abbrev pub fork_holds : InodeFork → Bool
fork_holds f = f.lies && has_room (length f.bytes) f
