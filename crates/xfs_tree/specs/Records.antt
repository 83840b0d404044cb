-- The kinds of records: runs of free blocks, chunks of inodes, extents of a file. Their fields stand highest byte first.
use Rattle.std.specs.Prelude.{ℕ, ◌+◌, ◌*◌, ◌/◌, ◌%◌, ◌^◌, Bool, if◌then◌else◌, true, false, nat_lt, nat_le, ◌==◌, ◌&&◌, ◌||◌, List, ◌∷◌, ◌++◌, take, slice_index, codes}
use Rattle.byteorder.specs.Endian.{big_bytes}
use Rattle.disk_base.specs.Fields.{big_at}
use Rattle.xfs_super.specs.Geometry.{Geometry, group_len}
use Rattle.xfs_tree.specs.Form.{Form}
use Rattle.xfs_tree.specs.declared.chunk.Chunk.{Chunk}
use Rattle.xfs_tree.specs.declared.chunk.FreeChunk.{FreeChunk}
use Rattle.xfs_tree.specs.declared.sparse_chunk.SparseChunk.{SparseChunk}
use Rattle.xfs_tree.specs.declared.sparse_chunk.FreeSparseChunk.{FreeSparseChunk}
use Rattle.xfs_tree.specs.declared.extent.Extent.{Extent}
use Rattle.xfs_tree.specs.declared.free_run.ByStart.{ByStart}
use Rattle.xfs_tree.specs.declared.free_run.ByCount.{ByCount}

-- ---- runs of free blocks: the first block in its group, and how many

abbrev pub two_numbers : ℕ → ℕ → List ℕ
two_numbers m n = big_bytes 4 m ++ big_bytes 4 n

abbrev pub are_short : ℕ → ℕ → Bool
are_short m n = nat_lt m (2 ^ 32) && nat_lt n (2 ^ 32)

-- free runs by their starts: each ends below the next one's start
abbrev pub by_start : Form ByStart
by_start = record {
  long = false;
  size = 8;
  key = 8;
  magic = codes "AB3B";
  record_of = λ bytes. record { start = big_at 4 bytes 0; count = big_at 4 bytes 4 };
  bytes_of = λ r. two_numbers r.start r.count;
  key_of = λ r. take 8 (two_numbers r.start r.count);
  fits = λ r. are_short r.start r.count;
  before = λ r s. nat_lt (r.start + r.count) s.start;
  key_before = λ a b. nat_lt (big_at 4 a 0) (big_at 4 b 0);
  inside = λ geo group r. nat_le (r.start + r.count) (group_len geo group);
}

-- free runs by their counts, and by their starts where these are equal
abbrev pub lower : ℕ → ℕ → ℕ → ℕ → Bool
lower count start other_count other_start = nat_lt count other_count || (count == other_count && nat_lt start other_start)

abbrev pub by_count : Form ByCount
by_count = record {
  long = false;
  size = 8;
  key = 8;
  magic = codes "AB3C";
  record_of = λ bytes. record { start = big_at 4 bytes 0; count = big_at 4 bytes 4 };
  bytes_of = λ r. two_numbers r.start r.count;
  key_of = λ r. take 8 (two_numbers r.start r.count);
  fits = λ r. are_short r.start r.count;
  before = λ r s. lower r.count r.start s.count s.start;
  key_before = λ a b. lower (big_at 4 a 4) (big_at 4 a 0) (big_at 4 b 4) (big_at 4 b 0);
  inside = λ geo group r. nat_le (r.start + r.count) (group_len geo group);
}

-- ---- chunks of 64 inodes: the number of the first inode in its group, how many inodes are free, and which; a sparse one
-- says, too, which of its inodes aren't there, and how many are

-- each chunk ends below the next one, or at it
abbrev pub chunk_before : ℕ → ℕ → Bool
chunk_before start other = nat_le (start + 64) other

abbrev pub chunk_inside : Geometry → ℕ → ℕ → Bool
chunk_inside geo group start = nat_le (start + 64) (group_len geo group * 2 ^ geo.inopblog)

abbrev pub chunk_bytes : ℕ → ℕ → ℕ → List ℕ
chunk_bytes start freecount free = big_bytes 4 start ++ (big_bytes 4 freecount ++ big_bytes 8 free)

abbrev pub fits_chunk : ℕ → ℕ → ℕ → Bool
fits_chunk start freecount free = nat_lt start (2 ^ 32) && (nat_lt freecount (2 ^ 32) && nat_lt free (2 ^ 64))

abbrev pub sparse_bytes : ℕ → ℕ → ℕ → ℕ → ℕ → List ℕ
sparse_bytes start holemask count freecount free =
    big_bytes 4 start ++ (big_bytes 2 holemask ++ (count ∷ (freecount ∷ big_bytes 8 free)))

abbrev pub fits_sparse : ℕ → ℕ → ℕ → ℕ → ℕ → Bool
fits_sparse start holemask count freecount free =
    nat_lt start (2 ^ 32) && (nat_lt holemask (2 ^ 16) && (nat_lt count (2 ^ 8) && (nat_lt freecount (2 ^ 8) && nat_lt free (2 ^ 64))))

-- the chunks of a group, and those of them that have a free inode
abbrev pub by_inode : Form Chunk
by_inode = record {
  long = false;
  size = 16;
  key = 4;
  magic = codes "IAB3";
  record_of = λ bytes. record { start = big_at 4 bytes 0; freecount = big_at 4 bytes 4; free = big_at 8 bytes 8 };
  bytes_of = λ r. chunk_bytes r.start r.freecount r.free;
  key_of = λ r. take 4 (chunk_bytes r.start r.freecount r.free);
  fits = λ r. fits_chunk r.start r.freecount r.free;
  before = λ r s. chunk_before r.start s.start;
  key_before = λ a b. nat_lt (big_at 4 a 0) (big_at 4 b 0);
  inside = λ geo group r. chunk_inside geo group r.start;
}

abbrev pub by_free_inode : Form FreeChunk
by_free_inode = record {
  long = false;
  size = 16;
  key = 4;
  magic = codes "FIB3";
  record_of = λ bytes. record { start = big_at 4 bytes 0; freecount = big_at 4 bytes 4; free = big_at 8 bytes 8 };
  bytes_of = λ r. chunk_bytes r.start r.freecount r.free;
  key_of = λ r. take 4 (chunk_bytes r.start r.freecount r.free);
  fits = λ r. fits_chunk r.start r.freecount r.free;
  before = λ r s. chunk_before r.start s.start;
  key_before = λ a b. nat_lt (big_at 4 a 0) (big_at 4 b 0);
  inside = λ geo group r. chunk_inside geo group r.start;
}

-- the same where chunks may have holes
abbrev pub by_sparse_inode : Form SparseChunk
by_sparse_inode = record {
  long = false;
  size = 16;
  key = 4;
  magic = codes "IAB3";
  record_of = λ bytes. record {
    start = big_at 4 bytes 0;
    holemask = big_at 2 bytes 4;
    count = slice_index bytes 6;
    freecount = slice_index bytes 7;
    free = big_at 8 bytes 8;
  };
  bytes_of = λ r. sparse_bytes r.start r.holemask r.count r.freecount r.free;
  key_of = λ r. take 4 (sparse_bytes r.start r.holemask r.count r.freecount r.free);
  fits = λ r. fits_sparse r.start r.holemask r.count r.freecount r.free;
  before = λ r s. chunk_before r.start s.start;
  key_before = λ a b. nat_lt (big_at 4 a 0) (big_at 4 b 0);
  inside = λ geo group r. chunk_inside geo group r.start;
}

abbrev pub by_free_sparse_inode : Form FreeSparseChunk
by_free_sparse_inode = record {
  long = false;
  size = 16;
  key = 4;
  magic = codes "FIB3";
  record_of = λ bytes. record {
    start = big_at 4 bytes 0;
    holemask = big_at 2 bytes 4;
    count = slice_index bytes 6;
    freecount = slice_index bytes 7;
    free = big_at 8 bytes 8;
  };
  bytes_of = λ r. sparse_bytes r.start r.holemask r.count r.freecount r.free;
  key_of = λ r. take 4 (sparse_bytes r.start r.holemask r.count r.freecount r.free);
  fits = λ r. fits_sparse r.start r.holemask r.count r.freecount r.free;
  before = λ r s. chunk_before r.start s.start;
  key_before = λ a b. nat_lt (big_at 4 a 0) (big_at 4 b 0);
  inside = λ geo group r. chunk_inside geo group r.start;
}

-- ---- extents of a file, by file block: 1 bit, 54, 52 and 21 from the top of 128

abbrev pub extent_of : ℕ → ℕ → Extent
extent_of high low = record {
  unwritten = nat_le (2 ^ 63) high;
  file = high % 2 ^ 63 / 2 ^ 9;
  block = high % 2 ^ 9 * 2 ^ 43 + low / 2 ^ 21;
  count = low % 2 ^ 21;
}

abbrev pub high_of : Bool → ℕ → ℕ → ℕ
high_of unwritten file block = (if unwritten then 2 ^ 63 else 0) + (file * 2 ^ 9 + block / 2 ^ 43)

abbrev pub low_of : ℕ → ℕ → ℕ
low_of block count = block % 2 ^ 43 * 2 ^ 21 + count

abbrev pub fits_extent : ℕ → ℕ → ℕ → Bool
fits_extent file block count = nat_lt file (2 ^ 54) && (nat_lt block (2 ^ 52) && nat_lt count (2 ^ 21))

-- the blocks lie in one group of the volume
abbrev pub lies_in_group : Geometry → ℕ → ℕ → ℕ → Bool
lies_in_group geo group block count = nat_lt group geo.agcount && nat_le (block + count) (group_len geo group)

abbrev pub by_file : Form Extent
by_file = record {
  long = true;
  size = 16;
  key = 8;
  magic = codes "BMA3";
  record_of = λ bytes. extent_of (big_at 8 bytes 0) (big_at 8 bytes 8);
  bytes_of = λ r. big_bytes 8 (high_of r.unwritten r.file r.block) ++ big_bytes 8 (low_of r.block r.count);
  key_of = λ r. big_bytes 8 r.file;
  fits = λ r. fits_extent r.file r.block r.count;
  before = λ r s. nat_lt r.file s.file && nat_le (r.file + r.count) s.file;
  key_before = λ a b. nat_lt (big_at 8 a 0) (big_at 8 b 0);
  inside = λ geo group r. lies_in_group geo (r.block / 2 ^ geo.agblklog) (r.block % 2 ^ geo.agblklog) r.count;
}
