-- How long a join is, and that it comes from what the disk holds and from the runs alone.
use Rattle.std.specs.Prelude.{◌≡◌, ℕ, ◌+◌, ◌*◌, ◌≤◌, List, [], ◌∷◌, length, All}
use Rattle.std.proofs.Common.{refl, ap, arith, length-append}
use Rattle.std.proofs.lemmas.List.Elements.{All-head, All-tail}
use Rattle.std.proofs.lemmas.List.Sums.{sum_by-cons}
use Rattle.disk_base.specs.Image.{bytes_at}
use Rattle.disk_base.specs.Run.{IsWithin, end_of}
use Rattle.disk_base.specs.declared.run.Run.{Run}
use Rattle.disk_base.proofs.Images.{length-bytes_at}
use Rattle.disk_view.specs.Join.{joined_runs, total}

pub total-cons : (run : Run) (later : List Run) → total (run ∷ later) ≡ run.count + total later
total-cons run later = sum_by-cons (λ (r : Run). r.count) run later

pub same_total : (runs later : List Run) → later ≡ runs → total later ≡ total runs
same_total runs later same = ap total same

pub same_join : (image after : List ℕ) (runs later : List Run) → after ≡ image → later ≡ runs
    → joined_runs after later ≡ joined_runs image runs
same_join image after runs later e f = rw (e, f) refl

pub whole_join : (image : List ℕ) (size : ℕ) (runs : List Run) → length image ≡ 512 * size → All (IsWithin size) runs
    → length (joined_runs image runs) ≡ 512 * total runs
whole_join image size [] long on = refl
whole_join image size (run ∷ later) long on =
    let fits : end_of run ≤ size = All-head (IsWithin size) run later on in
    let rest = whole_join image size later long (All-tail (IsWithin size) run later on) in
    let front : List ℕ = bytes_at image (512 * run.start) (512 * run.count) in
    let here : length front ≡ 512 * run.count =
    length-bytes_at image (512 * run.start) (512 * run.count) (omega (arith, fits, long)) in
    omega (arith, rest, here, total-cons run later, length-append front (joined_runs image later))
