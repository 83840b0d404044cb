-- Ranges of joins, and how a loop over the runs reads one.
use Rattle.std.proofs.Common.{rules, arith, ◌≡◌, ℕ, ◌+◌, ◌-◌, ◌*◌, ◌/◌, ◌%◌, ◌<◌, ◌≤◌, List, ◌∷◌, ◌++◌, refl, ap, sym, ◌∙◌, length, take, min, append-nil, inl, inr, All, [], slice_index_or}
use Rattle.std.proofs.lemmas.List.{same_lists, places, take_all, append_assoc}
use Rattle.std.proofs.lemmas.Bool.{cases_lt}
use Rattle.std.proofs.lemmas.List.Elements.{All-head}
use Rattle.disk_base.specs.Image.{bytes_at, with_bytes}
use Rattle.disk_base.specs.Run.{IsWithin, end_of}
use Rattle.disk_base.specs.declared.run.Run.{Run}
use Rattle.disk_base.proofs.Images.{length-bytes_at, range_in_range}
use Rattle.disk_view.specs.Join.{joined_runs, total}
use Rattle.disk_view.specs.inside.Lengths.{whole_join, total-cons}

-- a range of two lists joined: behind the first, in the first, and from within the first on
pub behind_front : (xs ys : List ℕ) (at k n : ℕ) → at ≡ length xs + k → bytes_at (xs ++ ys) at n ≡ bytes_at ys k n
behind_front xs ys at k n is = same_lists _ _ (search (rules, places)) (λ i d h. grind (arith, places))

pub in_front : (xs ys : List ℕ) (at n : ℕ) → at + n ≤ length xs → bytes_at (xs ++ ys) at n ≡ bytes_at xs at n
in_front xs ys at n inside = same_lists _ _ (search (rules, places)) (λ i d h. grind (arith, places))

pub over_front : (xs ys : List ℕ) (at m n k : ℕ) → at + m ≡ length xs → n ≡ m + k → k ≤ length ys → bytes_at (xs ++ ys) at n ≡ bytes_at xs at m ++ bytes_at ys 0 k
over_front xs ys at m n k inside sum fits = same_lists _ _ (search (rules, places)) (λ i d h. grind (arith, places))

-- a range of a join: behind its first run, in it, and from within it on
pub skip_run : (image : List ℕ) (size : ℕ) (run : Run) (later : List Run) (at k n : ℕ) → length image ≡ 512 * size → end_of run ≤ size → at ≡ run.count + k
    → bytes_at (joined_runs image (run ∷ later)) (512 * at) n ≡ bytes_at (joined_runs image later) (512 * k) n
skip_run image size run later at k n long fits is =
    behind_front (bytes_at image (512 * run.start) (512 * run.count)) (joined_runs image later) (512 * at) (512 * k) n
    (let l = length-bytes_at image (512 * run.start) (512 * run.count) (omega (arith, long, fits)) in omega (arith, l))

pub in_run : (image : List ℕ) (size : ℕ) (run : Run) (later : List Run) (at n from : ℕ) → length image ≡ 512 * size → end_of run ≤ size → 512 * at + n ≤ 512 * run.count → from ≡ run.start + at
    → bytes_at (joined_runs image (run ∷ later)) (512 * at) n ≡ bytes_at image (512 * from) n
in_run image size run later at n from long fits inside is =
    let front = length-bytes_at image (512 * run.start) (512 * run.count) (omega (arith, long, fits)) in
    in_front (bytes_at image (512 * run.start) (512 * run.count)) (joined_runs image later) (512 * at) n (omega (arith, front, inside))
    ∙ range_in_range image (512 * run.start) (512 * run.count) (512 * at) n (512 * from) (omega (arith, is)) inside (omega (arith, long, fits))

-- a range of a join of one run
pub one_run : (image : List ℕ) (size : ℕ) (runs : List Run) (d : Run) (at n : ℕ) → 1 ≤ length runs → length runs < 2 → length image ≡ 512 * size → All (IsWithin size) runs → 512 * at + n ≤ 512 * total runs
    → bytes_at (joined_runs image runs) (512 * at) n ≡ bytes_at image (512 * ((slice_index_or runs 0 d).start + at)) n
one_run image size [] d at n some one long on reach = absurd (omega (arith, some))
one_run image size (run ∷ []) d at n some one long on reach =
    in_run image size run [] at n (run.start + at) long (All-head (IsWithin size) run [] on) (omega (arith, reach, total-cons run [])) refl
one_run image size (run ∷ next ∷ later) d at n some one long on reach = absurd (omega (arith, one))

pub over_run : (image : List ℕ) (size : ℕ) (run : Run) (later : List Run) (at k n : ℕ) → length image ≡ 512 * size → end_of run ≤ size → All (IsWithin size) later → at < run.count
    → n % 512 ≡ 0 → k ≡ min (run.count - at) (n / 512) → 512 * at + n ≤ 512 * (run.count + total later)
    → bytes_at (joined_runs image (run ∷ later)) (512 * at) n ≡ bytes_at image (512 * (run.start + at)) (512 * k) ++ bytes_at (joined_runs image later) (512 * 0) (n - 512 * k)
over_run image size run later at k n long fits on small whole is reach =
    let front = bytes_at image (512 * run.start) (512 * run.count) in
    let l : length front ≡ 512 * run.count = length-bytes_at image (512 * run.start) (512 * run.count) (omega (arith, long, fits)) in
    let here : bytes_at front (512 * at) (512 * k) ≡ bytes_at image (512 * (run.start + at)) (512 * k) =
    range_in_range image (512 * run.start) (512 * run.count) (512 * at) (512 * k) (512 * (run.start + at)) (omega arith) (omega (arith, is)) (omega (arith, long, fits)) in
    elim (cases_lt k (run.count - at)) [
      | inl less ↦
          let full : n ≡ 512 * k = omega (arith, is, whole, less) in
          let none : n - 512 * k ≡ 0 = omega (arith, full) in
          in_front front (joined_runs image later) (512 * at) n (omega (arith, l, is, full)) ∙ ap (bytes_at front (512 * at)) full ∙ here ∙ sym (rw none (append-nil _))
      | inr all ↦
          let w = whole_join image size later long on in
          over_front front (joined_runs image later) (512 * at) (512 * k) n (n - 512 * k) (omega (arith, l, is, all)) (omega (arith, is)) (omega (arith, w, is, all, reach))
          ∙ ap (λ (xs : List ℕ). xs ++ bytes_at (joined_runs image later) 0 (n - 512 * k)) here
    ]

-- how far a loop over the runs has come: `done` bytes of `n`, the next at sector `at` of what the later runs have
pub record Reads (n long done at left : ℕ) (OnlyRead Inside Spelled : Type 0) : Type 0 where
  pub same_length : long ≡ n
  pub whole : done % 512 ≡ 0
  pub within : done ≤ n
  pub reach : 512 * at + (n - done) ≤ 512 * left
  pub read : OnlyRead
  pub inside : Inside
  pub spelled : Spelled

-- one more part is read behind what was read so far
take_written : (out part : List ℕ) (done m : ℕ) → length part ≡ m → done + m ≤ length out → take (done + m) (with_bytes out done part) ≡ take done out ++ part
take_written out part done m long fits = same_lists _ _ (search (rules, places)) (λ i d h. grind (arith, places))

pub reads_on : (all out new part later rest : List ℕ) (done m : ℕ) → all ≡ take done out ++ later → later ≡ part ++ rest → new ≡ with_bytes out done part → length part ≡ m
    → done + m ≤ length out → all ≡ take (done + m) new ++ rest
reads_on all out new part later rest done m so_far more written long fits =
    so_far ∙ ap (λ (ys : List ℕ). take done out ++ ys) more ∙ sym (append_assoc (take done out) part rest)
    ∙ sym (ap (λ (xs : List ℕ). xs ++ rest) (ap (take (done + m)) written ∙ take_written out part done m long fits))

-- nothing is left to be read
pub read_all : (all out later : List ℕ) (from left done : ℕ) → all ≡ take done out ++ bytes_at later from left → left ≡ 0 → length out ≡ done → out ≡ all
read_all all out later from left done so_far none long = sym (so_far ∙ rw none (append-nil _) ∙ take_all done out (omega (arith, long)))
