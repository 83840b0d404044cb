-- The headers of a group, each in a sector of the file system, and which reasons speak against them. Their fields stand
-- highest byte first, their checksums lowest byte first.
use Rattle.std.specs.Prelude.{◌≡◌, ℕ, ◌+◌, ◌-◌, ◌*◌, ◌/◌, ◌%◌, ◌<◌, ◌≤◌, Bool, true, false, not, nat_lt, nat_le, ◌==◌, ◌&&◌, ◌||◌, List, length, map}
use Rattle.std.specs.List.{range_with_len, list_all}
use Rattle.std.specs.Str.{bytes_eq}
use Rattle.disk_base.specs.Image.{bytes_at}
use Rattle.disk_base.specs.Fields.{big_at}
use Rattle.xfs_super.specs.Geometry.{Geometry, group_len, header_sector}
use Rattle.xfs_super.specs.Superblock.{has_checksum}
use Rattle.xfs_super.specs.declared.agf.Agf.{Agf}
use Rattle.xfs_super.specs.declared.agi.Agi.{Agi}
use Rattle.xfs_super.specs.declared.reason.Reason.{Reason}
use Rattle.xfs_super.specs.declared.reason.Reason.TheVariants.{Checksum, Header}

-- ---- the fields, as they stand in the bytes

unfoldable pub agf_in : List ℕ → Agf
agf_in bytes = record {
  seqno = big_at 4 bytes 8;
  length = big_at 4 bytes 12;
  bno_root = big_at 4 bytes 16;
  cnt_root = big_at 4 bytes 20;
  bno_level = big_at 4 bytes 28;
  cnt_level = big_at 4 bytes 32;
  flfirst = big_at 4 bytes 40;
  fllast = big_at 4 bytes 44;
  flcount = big_at 4 bytes 48;
  freeblks = big_at 4 bytes 52;
  longest = big_at 4 bytes 56;
  btreeblks = big_at 4 bytes 60;
  uuid = bytes_at bytes 64 16;
  lsn = big_at 8 bytes 208;
}

unfoldable pub agi_in : List ℕ → Agi
agi_in bytes = record {
  seqno = big_at 4 bytes 8;
  length = big_at 4 bytes 12;
  count = big_at 4 bytes 16;
  root = big_at 4 bytes 20;
  level = big_at 4 bytes 24;
  freecount = big_at 4 bytes 28;
  newino = big_at 4 bytes 32;
  dirino = big_at 4 bytes 36;
  unlinked = map (λ i. big_at 4 bytes (40 + 4 * i)) (range_with_len 0 64);
  uuid = bytes_at bytes 296 16;
  lsn = big_at 8 bytes 320;
  free_root = big_at 4 bytes 328;
  free_level = big_at 4 bytes 332;
  iblocks = big_at 4 bytes 336;
  fblocks = big_at 4 bytes 340;
}

-- how many entries a list of free blocks has room for, which is kept in a sector of so many bytes
abbrev pub list_capacity : ℕ → ℕ
list_capacity sectsize = (sectsize - 36) / 4

-- entry i of the list of free blocks
abbrev pub agfl_entry : List ℕ → ℕ → ℕ
agfl_entry bytes i = big_at 4 bytes (36 + 4 * i)

-- its entries in use: flcount ones, from flfirst on, going round
unfoldable pub used_entries : Agf → List ℕ → List ℕ
used_entries agf bytes =
    map (λ i. agfl_entry bytes ((agf.flfirst + i) % list_capacity (length bytes))) (range_with_len 0 agf.flcount)

-- ---- the tests that the headers have to pass

-- a tree has one to eight levels
abbrev pub is_height : ℕ → Bool
is_height level = nat_le 1 level && nat_le level 8

-- a list of free blocks that is in use has room for its entries, and ends where it may
abbrev pub has_free_list : ℕ → Agf → Bool
has_free_list capacity agf =
    agf.flcount == 0 || nat_le agf.flcount capacity && nat_lt agf.flfirst capacity && nat_lt agf.fllast capacity

-- the AGF of a group
abbrev pub fits_agf : Geometry → ℕ → Agf → Bool
fits_agf g group agf =
    agf.seqno == group && agf.length == group_len g group && bytes_eq agf.uuid g.meta
    && nat_lt agf.bno_root (group_len g group) && nat_lt agf.cnt_root (group_len g group)
    && is_height agf.bno_level && is_height agf.cnt_level && has_free_list (list_capacity g.sectsize) agf

abbrev pub is_agf : Geometry → ℕ → List ℕ → Bool
is_agf g group bytes = big_at 4 bytes 0 == 0x58414746 && big_at 4 bytes 4 == 1 && fits_agf g group (agf_in bytes)

-- its AGI; the tree of free inodes is there where the superblock says so
abbrev pub fits_agi : Geometry → ℕ → Agi → Bool
fits_agi g group agi =
    agi.seqno == group && agi.length == group_len g group && bytes_eq agi.uuid g.meta
    && nat_lt agi.root (group_len g group) && is_height agi.level
    && (not g.finobt || nat_lt agi.free_root (group_len g group) && is_height agi.free_level)

abbrev pub is_agi : Geometry → ℕ → List ℕ → Bool
is_agi g group bytes = big_at 4 bytes 0 == 0x58414749 && big_at 4 bytes 4 == 1 && fits_agi g group (agi_in bytes)

-- its AGFL, the list of free blocks
abbrev pub is_agfl : Geometry → ℕ → List ℕ → Bool
is_agfl g group bytes =
    big_at 4 bytes 0 == 0x5841464C && big_at 4 bytes 4 == group && bytes_eq (bytes_at bytes 8 16) g.meta

-- each entry in use is a block of the group
abbrev pub are_used_inside : Geometry → ℕ → Agf → List ℕ → Bool
are_used_inside g group agf bytes = list_all (λ block. nat_lt block (group_len g group)) (used_entries agf bytes)

-- ---- which reasons speak against them

-- against a header that begins at a sector and has its checksum at a place, where it passed its test or not
abbrev pub SpeaksAgainstHeader : ℕ → ℕ → Bool → List ℕ → Reason → Type 0
SpeaksAgainstHeader sector at passes bytes (Checksum named) = (named ≡ sector) × (has_checksum bytes at ≡ false)
SpeaksAgainstHeader sector at passes bytes (Header named) = (named ≡ sector) × (passes ≡ false)
SpeaksAgainstHeader sector at passes bytes _ = ⊥

-- none does
pub record PassesAsHeader (at : ℕ) (passes : Bool) (bytes : List ℕ) : Type 0 where
  pub checksum : has_checksum bytes at ≡ true
  pub test : passes ≡ true

abbrev pub SpeaksAgainstAgf : Geometry → ℕ → List ℕ → Reason → Type 0
SpeaksAgainstAgf g group bytes = SpeaksAgainstHeader (header_sector g group 1) 216 (is_agf g group bytes) bytes

abbrev pub IsAgf : Geometry → ℕ → List ℕ → Type 0
IsAgf g group bytes = PassesAsHeader 216 (is_agf g group bytes) bytes

abbrev pub SpeaksAgainstAgi : Geometry → ℕ → List ℕ → Reason → Type 0
SpeaksAgainstAgi g group bytes = SpeaksAgainstHeader (header_sector g group 2) 312 (is_agi g group bytes) bytes

abbrev pub IsAgi : Geometry → ℕ → List ℕ → Type 0
IsAgi g group bytes = PassesAsHeader 312 (is_agi g group bytes) bytes

abbrev pub SpeaksAgainstAgfl : Geometry → ℕ → List ℕ → Reason → Type 0
SpeaksAgainstAgfl g group bytes = SpeaksAgainstHeader (header_sector g group 3) 32 (is_agfl g group bytes) bytes

abbrev pub IsAgfl : Geometry → ℕ → List ℕ → Type 0
IsAgfl g group bytes = PassesAsHeader 32 (is_agfl g group bytes) bytes

-- an entry of the list that is in use lies outside the group
abbrev pub SpeaksAgainstUsed : Geometry → ℕ → Agf → List ℕ → Reason → Type 0
SpeaksAgainstUsed g group agf bytes (Header sector) = (sector ≡ header_sector g group 3) × (are_used_inside g group agf bytes ≡ false)
SpeaksAgainstUsed g group agf bytes _ = ⊥

-- ---- what the tests say, as facts

pub record IsSoundAgf (g : Geometry) (group : ℕ) (agf : Agf) : Type 0 where
  pub seqno : agf.seqno ≡ group
  pub len : agf.length ≡ group_len g group
  pub identity : agf.uuid ≡ g.meta
  pub bno_root : agf.bno_root < group_len g group
  pub cnt_root : agf.cnt_root < group_len g group
  pub bno_some : 1 ≤ agf.bno_level
  pub bno_few : agf.bno_level ≤ 8
  pub cnt_some : 1 ≤ agf.cnt_level
  pub cnt_few : agf.cnt_level ≤ 8
  pub listed : agf.flcount ≤ list_capacity g.sectsize
  pub first : 1 ≤ agf.flcount → agf.flfirst < list_capacity g.sectsize

pub record IsSoundAgi (g : Geometry) (group : ℕ) (agi : Agi) : Type 0 where
  pub seqno : agi.seqno ≡ group
  pub len : agi.length ≡ group_len g group
  pub identity : agi.uuid ≡ g.meta
  pub root : agi.root < group_len g group
  pub some : 1 ≤ agi.level
  pub few : agi.level ≤ 8
  pub free_root : g.finobt ≡ true → agi.free_root < group_len g group
  pub free_some : g.finobt ≡ true → 1 ≤ agi.free_level
  pub free_few : g.finobt ≡ true → agi.free_level ≤ 8
