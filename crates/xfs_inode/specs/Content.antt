-- What a file contains, by its extents. A volume is a function from a block's number to its bytes.
use Rattle.std.specs.Prelude.{◌≡◌, ◌==◌, [], ℕ, ◌+◌, ◌-◌, ◌/◌, ◌%◌, ◌<◌, ◌≤◌, min, cond, Option, Some, None, List, replicate, map, length, slice_index}
use Rattle.std.specs.List.{range_with_len}
use Rattle.disk_base.specs.Image.{bytes_at}
use Rattle.xfs_super.specs.Geometry.{Geometry}
use Rattle.xfs_tree.specs.declared.extent.Extent.{Extent}
use Rattle.xfs_inode.specs.declared.core_fields.Core.{Core}
use Rattle.xfs_inode.specs.Core.{is_regular_file, is_link, is_device}
use Rattle.xfs_inode.specs.Extents.{covering, block_named}

-- what a block of a file holds, by the extent that covers it: zeros where there is none, or one that isn't written
abbrev pub covered_block : (ℕ → List ℕ) → Geometry → ℕ → Option Extent → List ℕ
covered_block volume geo block None = replicate 4096 0
covered_block volume geo block (Some e) =
    cond e.unwritten (replicate 4096 0) (volume (block_named geo e.block + (block - e.file)))

-- a block and a byte of a file
unfoldable pub file_block : (ℕ → List ℕ) → Geometry → List Extent → ℕ → List ℕ
file_block volume geo extents block = covered_block volume geo block (covering block extents)

unfoldable pub file_byte : (ℕ → List ℕ) → Geometry → List Extent → ℕ → ℕ
file_byte volume geo extents at = slice_index (file_block volume geo extents (at / 4096)) (at % 4096)

-- `n` bytes of it from byte `at` on
abbrev pub file_bytes : (ℕ → List ℕ) → Geometry → List Extent → ℕ → ℕ → List ℕ
file_bytes volume geo extents at n = map (file_byte volume geo extents) (range_with_len at n)

-- the block in which the target of a link stands, behind a header of 56 bytes ('Remote Symbolic Links')
abbrev pub block_of_target : (ℕ → List ℕ) → Geometry → Option Extent → List ℕ
block_of_target volume geo None = []
block_of_target volume geo (Some e) = volume (block_named geo e.block)

-- a link's target: in the inode, or in the first block of the file
abbrev pub target_in : (ℕ → List ℕ) → Geometry → Core → List ℕ → List Extent → List ℕ
target_in volume geo core bytes extents =
    cond (core.format == 1) (bytes_at bytes 176 core.size)
    (bytes_at (block_of_target volume geo (covering 0 extents)) 56 core.size)

-- the content of an inode: the bytes of a regular file, the target of a link, the number of a device
unfoldable pub content_in : (ℕ → List ℕ) → Geometry → Core → List ℕ → List Extent → List ℕ
content_in volume geo core bytes extents =
    cond (is_regular_file core) (file_bytes volume geo extents 0 core.size)
    (cond (is_link core) (target_in volume geo core bytes extents)
    (cond (is_device core) (bytes_at bytes 176 4) []))

-- of a content `n` bytes were given from byte `offset` on: as many as there are and a buffer has room for
pub record GivesContent (content : List ℕ) (offset n : ℕ) (old new : List ℕ) : Type 0 where
  pub count : n ≡ min (length old) (length content - offset)
  pub same_length : length new ≡ length old
  pub given : (k : ℕ) → k < n → slice_index new k ≡ slice_index content (offset + k)
  pub others : (k : ℕ) → n ≤ k → slice_index new k ≡ slice_index old k
