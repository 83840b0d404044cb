-- Into which groups the blocks of a volume fall, and where groups and blocks lie.
use Rattle.std.specs.Prelude.{◌≡◌, ℕ, ◌+◌, ◌-◌, ◌*◌, ◌/◌, ◌%◌, ◌^◌, ◌<◌, ◌≤◌, min, Bool, true, nat_lt, nat_le, ◌==◌, ◌&&◌, ◌||◌, List}
use Rattle.std.specs.Int.{div_ceil}
use Rattle.disk_base.specs.Image.{bytes_at}

-- what a superblock says of its volume; growth changes `dblocks` and `agcount` alone
pub record Geometry : Type 0 where
  pub dblocks : ℕ  -- how many blocks of 4096 bytes the volume has
  pub uuid : List ℕ
  pub meta : List ℕ  -- the identity that each part of the metadata names
  pub label : List ℕ
  pub logstart : ℕ  -- the block number of the log
  pub logblocks : ℕ
  pub rootino : ℕ
  pub agblocks : ℕ  -- how many blocks each group but the last has
  pub agcount : ℕ
  pub agblklog : ℕ  -- how many bits of a block number name the block in its group
  pub sectsize : ℕ  -- how many bytes a sector of the file system has
  pub inodesize : ℕ
  pub inopblog : ℕ  -- a block has 2 ^ inopblog inodes
  pub finobt : Bool
  pub sparse : Bool
  pub bigtime : Bool
  pub inobtcount : Bool
  pub nrext64 : Bool

-- how many blocks a group has
abbrev pub blocks_in_group : ℕ → ℕ → ℕ → ℕ
blocks_in_group dblocks agblocks group = min agblocks (dblocks - group * agblocks)

abbrev pub group_len : Geometry → ℕ → ℕ
group_len g group = blocks_in_group g.dblocks g.agblocks group

-- the sector of 512 bytes at which a block of a group begins
abbrev pub sector_of : Geometry → ℕ → ℕ → ℕ
sector_of g group block = 8 * (group * g.agblocks + block)

-- the sector of 512 bytes at which header `k` of a group begins, each in a sector of the file system: the superblock is 0,
-- the AGF 1, the AGI 2 and the AGFL 3
abbrev pub header_sector : Geometry → ℕ → ℕ → ℕ
header_sector g group k = sector_of g group 0 + k * (g.sectsize / 512)

-- the bytes of header `k` of a group, in a volume given by its blocks; nothing in it changes when the volume grows
abbrev pub header_seen : Geometry → (ℕ → List ℕ) → ℕ → ℕ → List ℕ
header_seen g volume group k = bytes_at (volume (group * g.agblocks + k * g.sectsize / 4096)) (k * g.sectsize % 4096) g.sectsize

-- k is the least power of 2 that is at least n
abbrev pub is_least_log : ℕ → ℕ → Bool
is_least_log k n = nat_le n (2 ^ k) && (k == 0 || nat_lt (2 ^ (k - 1)) n)

-- a sector of the file system may have that many bytes
abbrev pub is_sector_size : ℕ → Bool
is_sector_size n = n == 512 || n == 4096

-- groups of 64 to 2 ^ 28 blocks, as many as the blocks ask for, and 64 in the last
abbrev pub are_groups : ℕ → ℕ → ℕ → ℕ → Bool
are_groups dblocks agblocks agcount agblklog =
    nat_le 64 agblocks && nat_le agblocks (2 ^ 28) && is_least_log agblklog agblocks
    && agcount == div_ceil dblocks agblocks && nat_lt 0 agcount && nat_le 64 (blocks_in_group dblocks agblocks (agcount - 1))

-- a log of some blocks, in one group
abbrev pub is_log_place : Geometry → Bool
is_log_place g =
    nat_lt 0 g.logblocks && nat_lt (g.logstart / 2 ^ g.agblklog) g.agcount
    && nat_le (g.logstart % 2 ^ g.agblklog + g.logblocks) (group_len g (g.logstart / 2 ^ g.agblklog))

-- ---- what these tests say, as facts

pub record AreGroups (dblocks agblocks agcount agblklog : ℕ) : Type 0 where
  pub least : 64 ≤ agblocks
  pub most : agblocks ≤ 2 ^ 28
  pub log : agblklog ≤ 28
  pub named : agblocks ≤ 2 ^ agblklog
  pub tight : 2 ^ (agblklog - 1) < agblocks
  pub count : agcount ≡ div_ceil dblocks agblocks
  pub some : 1 ≤ agcount
  pub last : (agcount - 1) * agblocks + 64 ≤ dblocks
  pub all : dblocks ≤ agcount * agblocks

pub record AreSizes (sectsize inodesize inopblog : ℕ) : Type 0 where
  pub sector : is_sector_size sectsize ≡ true
  pub sector_least : 512 ≤ sectsize
  pub sector_most : sectsize ≤ 4096
  pub inodes : inodesize * 2 ^ inopblog ≡ 4096
  pub inode_least : 512 ≤ inodesize
  pub inode_most : inodesize ≤ 2048
  pub inodes_most : inopblog ≤ 3

pub record IsLogPlace (logstart logblocks dblocks agblocks agcount agblklog : ℕ) : Type 0 where
  pub some : 1 ≤ logblocks
  pub group : logstart / 2 ^ agblklog < agcount
  pub inside : logstart % 2 ^ agblklog + logblocks ≤ blocks_in_group dblocks agblocks (logstart / 2 ^ agblklog)
