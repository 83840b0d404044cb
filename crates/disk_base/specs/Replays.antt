-- A stop may leave what a disk in memory holds.
use Rattle.std.specs.Prelude.{◌≡◌, ℕ, ◌+◌, ◌*◌, ◌%◌, ◌≤◌, List, [], ◌∷◌, length, replicate, true, ◌==◌, nat_le}
use Rattle.std.proofs.Common.{rules, arith, refl, sym, inr}
use Rattle.std.proofs.lemmas.Bool.{and_parts, leb-true, eqb-true}
use Rattle.std.proofs.lemmas.List.{same_lists, places, length-replicate}
use Rattle.disk_base.specs.Image.{bytes_at, with_bytes, AgreesOutside, HalfWritten}
use Rattle.disk_base.specs.Past.{Event, Idle, Wrote, GaveUp, Flushed, Created, replayed, image_after, pending, Leaves, is_inside, are_inside}

agrees_outside : (image : List ℕ) (from n : ℕ) (bytes : List ℕ) → n ≡ length bytes → from + n ≤ length image
    → AgreesOutside from n image (with_bytes image from bytes)
agrees_outside image from n bytes is fits = record { same_length = search (rules, places); before = λ i h. grind (arith, places); after = λ i h. grind (arith, places) }

range_written : (image : List ℕ) (from : ℕ) (bytes : List ℕ) (at m k : ℕ) → at ≡ from + k → k + m ≤ length bytes → from + length bytes ≤ length image
    → bytes_at (with_bytes image from bytes) at m ≡ bytes_at bytes k m
range_written image from bytes at m k is inside fits = same_lists _ _ (search (rules, places)) (λ i d h. grind (arith, places))

-- a write that was done is one of those that a stop may have cut short
pub written_whole : (image : List ℕ) (at : ℕ) (bytes : List ℕ) → 512 * at + length bytes ≤ length image → length bytes % 512 ≡ 0
    → HalfWritten at bytes image (with_bytes image (512 * at) bytes)
written_whole image at bytes fits whole = record {
  outside = agrees_outside image (512 * at) (length bytes) bytes refl fits;
  within = λ k small. inr (range_written image (512 * at) bytes (512 * (at + k)) 512 (512 * k) (omega arith) (omega (arith, whole, small)) fits);
}

-- one of the images that a call may leave is what is held after it
held_after : (image : List ℕ) (may_leave : List ℕ → Type 0) (event : Event) → is_inside image event ≡ true → may_leave image
    → pending image may_leave event (replayed image event)
held_after image may_leave Idle inside holds = holds
held_after image may_leave (Wrote at bytes) inside holds =
    let parts = and_parts (nat_le (512 * at + length bytes) (length image)) (length bytes % 512 == 0) inside in
    (image, holds, written_whole image at bytes (leb-true _ _ parts.0) (eqb-true _ _ parts.1))
held_after image may_leave (GaveUp at n) inside holds =
    (image, holds, agrees_outside image (512 * at) (512 * n) (replicate (512 * n) 0xA5) (sym (length-replicate (512 * n) 0xA5)) (leb-true _ _ inside))
held_after image may_leave Flushed inside holds = refl
held_after image may_leave (Created n) inside holds = refl

pub leaves_held : (events : List Event) (image : List ℕ) (may_leave : List ℕ → Type 0) → are_inside events image ≡ true → may_leave image
    → Leaves events image may_leave (image_after events image)
leaves_held [] image may_leave inside holds = holds
leaves_held (event ∷ events) image may_leave inside holds =
    let parts = and_parts (is_inside image event) (are_inside events (replayed image event)) inside in
    leaves_held events (replayed image event) (pending image may_leave event) parts.1 (held_after image may_leave event parts.0 holds)
