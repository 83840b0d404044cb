-- What content_at fills in, a piece at a time.
use Rattle.std.proofs.Common.{◌≡◌, ℕ, ◌+◌, ◌-◌, ◌*◌, ◌/◌, ◌%◌, ◌<◌, ◌≤◌, true, false, Option, None, List, length, take, drop, slice_index, length-take, ◌==◌, refl, sym, ap, ◌∙◌, arith, inl, inr, min, [], subst}
use Rattle.std.proofs.lemmas.List.{places, nil_from_length}
use Rattle.std.proofs.lemmas.Bool.{cases_lt, cond-true, cond-false, eq-eqb, ne_eqb}
use Rattle.std.proofs.lemmas.Nat.{div-add-mod', div-mul-add, mod-mul-add}
use Rattle.disk_base.specs.Image.{bytes_at, with_bytes}
use Rattle.xfs_super.specs.Geometry.{Geometry}
use Rattle.xfs_tree.specs.declared.extent.Extent.{Extent}
use Rattle.std.proofs.lemmas.List.FromFn.{length-map-range_with_len, get_or-map-range_with_len}
use Rattle.xfs_inode.specs.declared.core_fields.Core.{Core}
use Rattle.xfs_inode.specs.Core.{is_regular_file, is_link, is_device}
use Rattle.xfs_inode.specs.Extents.{covering}
use Rattle.xfs_inode.specs.Content.{covered_block, file_block, file_byte, file_bytes, block_of_target, GivesContent, content_in, target_in}
use Rattle.xfs_inode.specs.inside.Searching.{FillsFile}

pub file_block_is : (d : ℕ → List ℕ) (geo : Geometry) (extents : List Extent) (block : ℕ) (o : Option Extent) → covering block extents ≡ o → file_block d geo extents block ≡ covered_block d geo block o
unfolding file_block
file_block_is d geo extents block o e = ap (covered_block d geo block) e

-- a byte of a file in the block of an earlier one
file_byte_in : (d : ℕ → List ℕ) (geo : Geometry) (extents : List Extent) (at j : ℕ) → at % 4096 + j < 4096 → file_byte d geo extents (at + j) ≡ slice_index (file_block d geo extents (at / 4096)) (at % 4096 + j)
unfolding file_byte
file_byte_in d geo extents at j h =
    let e = div-add-mod' at 4096 in
    let whole : at + j ≡ at / 4096 * 4096 + (at % 4096 + j) = omega (arith, e) in
    let q : (at + j) / 4096 ≡ at / 4096 = ap (λ (n : ℕ). n / 4096) whole ∙ div-mul-add (at / 4096) 4096 (at % 4096 + j) h in
    let r : (at + j) % 4096 ≡ at % 4096 + j = ap (λ (n : ℕ). n % 4096) whole ∙ mod-mul-add (at / 4096) 4096 (at % 4096 + j) h in
    ap (λ (n : ℕ). slice_index (file_block d geo extents n) ((at + j) % 4096)) q ∙ ap (slice_index (file_block d geo extents (at / 4096))) r

put_before : (out bytes : List ℕ) (at k : ℕ) → at + length bytes ≤ length out → k < at → slice_index (with_bytes out at bytes) k ≡ slice_index out k
put_before out bytes at k h l = grind (arith, places)

put_inside : (out bytes : List ℕ) (at j : ℕ) → at + length bytes ≤ length out → j < length bytes → slice_index (with_bytes out at bytes) (at + j) ≡ slice_index bytes j
put_inside out bytes at j h l = grind (arith, places)

put_behind : (out bytes : List ℕ) (at k : ℕ) → at + length bytes ≤ length out → at + length bytes ≤ k → slice_index (with_bytes out at bytes) k ≡ slice_index out k
put_behind out bytes at k h l = grind (arith, places)

pub put_length : (out bytes : List ℕ) (at : ℕ) → at + length bytes ≤ length out → length (with_bytes out at bytes) ≡ length out
put_length out bytes at h = grind (arith, places)

part_inside : (bytes : List ℕ) (from n j : ℕ) → j < n → slice_index (bytes_at bytes from n) j ≡ slice_index bytes (from + j)
part_inside bytes from n j h = grind (arith, places)

pub fills_none : (d : ℕ → List ℕ) (geo : Geometry) (extents : List Extent) (offset : ℕ) (old : List ℕ) → FillsFile d geo extents offset 0 old old
fills_none d geo extents offset old = record { same_length = refl; given = λ k h. absurd (omega (arith, h)); others = λ k h. refl }

pub fills_more : (d : ℕ → List ℕ) (geo : Geometry) (extents : List Extent) (offset done w len : ℕ) (buffer bytes old out new : List ℕ) →
    FillsFile d geo extents offset done old out → w ≡ (offset + done) % 4096 → w + len ≤ 4096 → buffer ≡ file_block d geo extents ((offset + done) / 4096) →
    bytes ≡ bytes_at buffer w len → length bytes ≡ len → done + len ≤ length out → new ≡ with_bytes out done bytes → FillsFile d geo extents offset (done + len) old new
fills_more d geo extents offset done w len buffer bytes old out new f we wl be pe pl room ne =
    let fits : done + length bytes ≤ length out = omega (arith, room, pl) in
    let at : (k : ℕ) → slice_index new k ≡ slice_index (with_bytes out done bytes) k = λ k. ap (λ (xs : List ℕ). slice_index xs k) ne in
    record {
      same_length = ap length ne ∙ put_length out bytes done fits ∙ f.same_length;
      given = λ k h. elim (cases_lt k done) [
        | inl before ↦ at k ∙ put_before out bytes done k fits before ∙ f.given k before
        | inr behind ↦
            let j : ℕ = k - done in
            let there : k ≡ done + j = omega (arith, behind) in
            let small : j < len = omega (arith, h, behind) in
            at k ∙ ap (slice_index (with_bytes out done bytes)) there ∙ put_inside out bytes done j fits (omega (arith, small, pl))
            ∙ ap (λ (xs : List ℕ). slice_index xs j) pe ∙ part_inside buffer w len j small
            ∙ ap (λ (xs : List ℕ). slice_index xs (w + j)) be ∙ ap (λ (n : ℕ). slice_index (file_block d geo extents ((offset + done) / 4096)) (n + j)) we
            ∙ sym (file_byte_in d geo extents (offset + done) j (omega (arith, we, wl, small)))
            ∙ ap (file_byte d geo extents) (omega (arith, there))
      ];
      others = λ k h. at k ∙ put_behind out bytes done k fits (omega (arith, h, pl)) ∙ f.others k (omega (arith, h));
    }

pub gives_file : (d : ℕ → List ℕ) (geo : Geometry) (extents : List Extent) (size offset n : ℕ) (old new : List ℕ) → n ≡ min (length old) (size - offset) → FillsFile d geo extents offset n old new → GivesContent (file_bytes d geo extents 0 size) offset n old new
gives_file d geo extents size offset n old new c f =
    let long : length (file_bytes d geo extents 0 size) ≡ size = length-map-range_with_len (file_byte d geo extents) 0 size in
    record {
      count = omega (arith, c, long);
      same_length = f.same_length;
      given = λ k h. f.given k h ∙ sym (get_or-map-range_with_len (file_byte d geo extents) 0 size (offset + k) (offset + k) 0 (omega (arith, c, h)) (omega arith));
      others = f.others;
    }

pub gives_none : (content : List ℕ) (offset n : ℕ) (out : List ℕ) → n ≡ 0 → n ≡ min (length out) (length content - offset) → GivesContent content offset n out out
gives_none content offset n out z c = record { count = c; same_length = refl; given = λ k h. absurd (omega (arith, z, h)); others = λ k h. refl }

-- what is given of one list is given of an equal one
pub gives_same : (a b : List ℕ) (offset n : ℕ) (old new : List ℕ) → a ≡ b → GivesContent b offset n old new → GivesContent a offset n old new
gives_same a b offset n old new e g = subst (λ (xs : List ℕ). GivesContent xs offset n old new) (sym e) g

pub content_regular : (d : ℕ → List ℕ) (geo : Geometry) (core : Core) (bytes : List ℕ) (extents : List Extent) → is_regular_file core ≡ true → content_in d geo core bytes extents ≡ file_bytes d geo extents 0 core.size
unfolding content_in
content_regular d geo core bytes extents h = cond-true (is_regular_file core) _ _ h

pub content_link : (d : ℕ → List ℕ) (geo : Geometry) (core : Core) (bytes : List ℕ) (extents : List Extent) → is_regular_file core ≡ false → is_link core ≡ true → content_in d geo core bytes extents ≡ target_in d geo core bytes extents
unfolding content_in
content_link d geo core bytes extents h l = cond-false (is_regular_file core) _ _ h ∙ cond-true (is_link core) _ _ l

pub content_device : (d : ℕ → List ℕ) (geo : Geometry) (core : Core) (bytes : List ℕ) (extents : List Extent) → is_regular_file core ≡ false → is_link core ≡ false → is_device core ≡ true → content_in d geo core bytes extents ≡ bytes_at bytes 176 4
unfolding content_in
content_device d geo core bytes extents h l v = cond-false (is_regular_file core) _ _ h ∙ cond-false (is_link core) _ _ l ∙ cond-true (is_device core) _ _ v

pub content_else : (d : ℕ → List ℕ) (geo : Geometry) (core : Core) (bytes : List ℕ) (extents : List Extent) → is_regular_file core ≡ false → is_link core ≡ false → is_device core ≡ false → content_in d geo core bytes extents ≡ []
unfolding content_in
content_else d geo core bytes extents h l v = cond-false (is_regular_file core) _ _ h ∙ cond-false (is_link core) _ _ l ∙ cond-false (is_device core) _ _ v

pub target_inside : (d : ℕ → List ℕ) (geo : Geometry) (core : Core) (bytes : List ℕ) (extents : List Extent) → core.format ≡ 1 → target_in d geo core bytes extents ≡ bytes_at bytes 176 core.size
target_inside d geo core bytes extents h = cond-true (core.format == 1) _ _ (eq-eqb core.format 1 h)

pub target_outside : (d : ℕ → List ℕ) (geo : Geometry) (core : Core) (bytes : List ℕ) (extents : List Extent) (o : Option Extent) → (core.format ≡ 1 → ⊥) → covering 0 extents ≡ o → target_in d geo core bytes extents ≡ bytes_at (block_of_target d geo o) 56 core.size
target_outside d geo core bytes extents o h e = cond-false (core.format == 1) _ _ (ne_eqb core.format 1 h) ∙ ap (λ (x : Option Extent). bytes_at (block_of_target d geo x) 56 core.size) e

none_taken : (n : ℕ) (xs : List ℕ) → length xs ≡ 0 → take n xs ≡ []
none_taken n xs none = nil_from_length (take n xs) (omega (arith, none, length-take n xs))

pub target_nowhere : (d : ℕ → List ℕ) (geo : Geometry) (core : Core) (bytes : List ℕ) (extents : List Extent) → (core.format ≡ 1 → ⊥) → covering 0 extents ≡ None → target_in d geo core bytes extents ≡ []
target_nowhere d geo core bytes extents h e = target_outside d geo core bytes extents None h e ∙ none_taken core.size (drop 56 []) (omega arith)
