-- The content of an inode as it is seen is what its blocks hold.
use Rattle.std.proofs.Common.{◌≡◌, ℕ, ◌+◌, ◌-◌, ◌/◌, ◌%◌, ◌<◌, ◌≤◌, true, cond, ◌==◌, Option, Some, None, List, [], ◌∷◌, map, slice_index, replicate, refl, sym, ap, ◌∙◌, arith, inl, inr}
use Rattle.std.specs.List.{range_with_len}
use Rattle.std.proofs.lemmas.Bool.{cases_Bool, cases_lt, cond-true, cond-false, and_parts, leb-true, ltb-true}
use Rattle.std.proofs.lemmas.List.FromFn.{get_or-map-range_with_len}
use Rattle.std.proofs.lemmas.List.{get_or-replicate, get_or_past, length-replicate}
use Rattle.disk_base.specs.Image.{bytes_at}
use Rattle.xfs_super.specs.Geometry.{Geometry}
use Rattle.xfs_tree.specs.declared.extent.Extent.{Extent}
use Rattle.xfs_inode.specs.declared.core_fields.Core.{Core}
use Rattle.xfs_inode.specs.Core.{core_of, is_regular_file, is_link, is_device}
use Rattle.xfs_inode.specs.Extents.{block_named, covers, covering}
use Rattle.xfs_inode.specs.Content.{covered_block, file_block, file_byte, file_bytes, block_of_target, content_in, target_in}
use Rattle.xfs_inode.specs.Seen.{FileBlock, file_block_at, SeenExtent, extent_seen, extent_byte, byte_of_extents, regular_content, first_file_block, bytes_of_block, SeenInode, target_seen, content_with, inode_of, inode_content, fork_seen, fork_tree, fork_extents, shown_data, extents_seen}
use Rattle.xfs_inode.proofs.Judged.{first_of, block_at_place}
use Rattle.xfs_inode.proofs.Seeing.{extents_again}

abbrev zero_byte : ℕ
zero_byte = 0

zeros : (n at : ℕ) → slice_index (replicate n 0) at ≡ 0
zeros n at =
    elim (cases_lt at n) [ inl low ↦ get_or-replicate n at 0 0 low | inr high ↦ get_or_past (replicate n zero_byte) at zero_byte (omega (arith, length-replicate n zero_byte, high)) ]

read_run : (d : ℕ → List ℕ) (geo : Geometry) (e : Extent) (block at : ℕ) → covers block e ≡ true → extent_byte (extent_seen d geo e) block at ≡ slice_index (covered_block d geo block (Some e)) at
unfolding extent_seen
read_run d geo e block at h =
    let parts = and_parts _ _ h in
    let low : e.file ≤ block = leb-true _ _ parts.0 in
    let high : block < e.file + e.count = ltb-true _ _ parts.1 in
    let none : FileBlock = record { at = 0; bytes = [] } in
    let there = get_or-map-range_with_len (file_block_at d) (block_named geo e.block) e.count (block - e.file) (block_named geo e.block + (block - e.file)) none (omega (arith, low, high)) refl in
    elim (cases_Bool e.unwritten) [
      | inl u ↦ cond-true e.unwritten _ _ u ∙ sym (ap (λ (ys : List ℕ). slice_index ys at) (cond-true e.unwritten (replicate 4096 0) _ u) ∙ zeros 4096 at)
      | inr u ↦ cond-false e.unwritten _ _ u ∙ ap (λ (x : FileBlock). slice_index x.bytes at) there ∙ sym (ap (λ (ys : List ℕ). slice_index ys at) (cond-false e.unwritten (replicate 4096 0) _ u))
    ]

read_byte : (d : ℕ → List ℕ) (geo : Geometry) (extents : List Extent) (block at : ℕ) → byte_of_extents (map (extent_seen d geo) extents) block at ≡ slice_index (covered_block d geo block (covering block extents)) at
unfolding extent_seen
read_byte d geo [] block at = sym (zeros 4096 at)
read_byte d geo (e ∷ es) block at =
    elim (cases_Bool (covers block e)) [
      | inl c ↦ cond-true (covers block e) _ _ c ∙ read_run d geo e block at c ∙ ap (λ (o : Option Extent). slice_index (covered_block d geo block o) at) (sym (cond-true (covers block e) (Some e) (covering block es) c))
      | inr c ↦ cond-false (covers block e) _ _ c ∙ read_byte d geo es block at ∙ ap (λ (o : Option Extent). slice_index (covered_block d geo block o) at) (sym (cond-false (covers block e) (Some e) (covering block es) c))
    ]

same_each : (f g : ℕ → ℕ) → ((n : ℕ) → f n ≡ g n) → (xs : List ℕ) → map f xs ≡ map g xs
same_each f g h [] = refl
same_each f g h (x ∷ xs) = ap (λ (y : ℕ). y ∷ map f xs) (h x) ∙ ap (λ (ys : List ℕ). g x ∷ ys) (same_each f g h xs)

pub contents_read : (d : ℕ → List ℕ) (geo : Geometry) (extents : List Extent) (size : ℕ) → regular_content size (map (extent_seen d geo) extents) ≡ file_bytes d geo extents 0 size
unfolding regular_content file_byte file_block
contents_read d geo extents size = same_each (λ at. byte_of_extents (map (extent_seen d geo) extents) (at / 4096) (at % 4096)) (file_byte d geo extents) (λ at. read_byte d geo extents (at / 4096) (at % 4096)) (range_with_len 0 size)

at_place : (volume : ℕ → List ℕ) (geo : Geometry) (o : Option Extent) → bytes_of_block (block_at_place volume geo o) ≡ block_of_target volume geo o
at_place volume geo None = refl
at_place volume geo (Some e) = refl

target_read : (volume : ℕ → List ℕ) (geo : Geometry) (core : Core) (xs : List Extent) (i : SeenInode) → i.contents.extents ≡ map (extent_seen volume geo) xs → target_seen core i ≡ target_in volume geo core i.bytes xs
target_read volume geo core xs i is =
    ap (λ (l : List SeenExtent). cond (core.format == 1) (bytes_at i.bytes 176 core.size) (bytes_at (bytes_of_block (first_file_block l)) 56 core.size)) is
    ∙ ap (λ (o : Option FileBlock). cond (core.format == 1) (bytes_at i.bytes 176 core.size) (bytes_at (bytes_of_block o) 56 core.size)) (first_of volume geo xs)
    ∙ ap (λ (l : List ℕ). cond (core.format == 1) (bytes_at i.bytes 176 core.size) (bytes_at l 56 core.size)) (at_place volume geo (covering 0 xs))

content_with_is : (volume : ℕ → List ℕ) (geo : Geometry) (core : Core) (xs : List Extent) (i : SeenInode) → i.contents.extents ≡ map (extent_seen volume geo) xs → content_with core i ≡ content_in volume geo core i.bytes xs
unfolding content_in
content_with_is volume geo core xs i is =
    let rest : List ℕ = cond (is_device core) (bytes_at i.bytes 176 4) [] in
    let file : regular_content core.size i.contents.extents ≡ file_bytes volume geo xs 0 core.size = ap (regular_content core.size) is ∙ contents_read volume geo xs core.size in
    ap (λ (ys : List ℕ). cond (is_regular_file core) ys (cond (is_link core) (target_seen core i) rest)) file
    ∙ ap (λ (ys : List ℕ). cond (is_regular_file core) (file_bytes volume geo xs 0 core.size) (cond (is_link core) ys rest)) (target_read volume geo core xs i is)

pub content_read : (geo : Geometry) (volume : ℕ → List ℕ) (ino : ℕ) (bytes : List ℕ) → inode_content geo (inode_of geo volume ino bytes) ≡ content_in volume geo (core_of geo bytes) bytes (extents_seen (inode_of geo volume ino bytes).contents)
unfolding inode_content inode_of fork_seen
content_read geo volume ino bytes =
    let f = shown_data geo ino bytes in
    let xs : List Extent = fork_extents geo f (fork_tree volume geo f) in
    content_with_is volume geo (core_of geo bytes) xs (inode_of geo volume ino bytes) refl
    ∙ ap (λ (l : List Extent). content_in volume geo (core_of geo bytes) bytes l) (sym (extents_again volume geo xs))
