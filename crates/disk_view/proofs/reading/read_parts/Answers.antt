-- One run more: it is skipped, or its part of the range stands behind what was read so far.
use Rattle.std.proofs.Common.{arith, ◌≡◌, ◌≤◌, ◌+◌, ◌*◌, ◌-◌, ◌/◌, ◌%◌, ◌++◌, ◌∷◌, length, take, drop, ap, ◌∙◌, ℕ, List, subst, min, slice_index_or, All}
use Rattle.std.proofs.lemmas.List.{drop_more}
use Rattle.std.proofs.lemmas.List.Elements.{All-head, All-tail}
use Rattle.disk_base.specs.Image.{bytes_at, with_bytes}
use Rattle.disk_base.specs.Run.{IsWithin, run_of, end_of}
use Rattle.disk_base.specs.declared.run.Run.{Run}
use Rattle.disk_base.proofs.Images.{length-bytes_at}
use Rattle.disk_view.specs.Join.{joined_runs, total}
use Rattle.disk_view.specs.inside.Lengths.{total-cons}
use Rattle.disk_view.proofs.Joins.{skip_run, over_run, reads_on, read_all}
use Rattle.disk_view.proofs.reading.read_parts.Goals as goal

pub loop-run-preserved-then-at-count : goal.loop-run-preserved-then-at-count
loop-run-preserved-then-at-count g c =
    let before = c.loop-run.invariant in
    let size : ℕ = g.B.Blocks.size c.args.disk.now in
    let image : List ℕ = g.B.Blocks.image c.args.disk.now in
    let i : ℕ = c.loop-run.run-index in
    let run : Run = slice_index_or c.args.runs.now i (run_of 0 0) in
    let later : List Run = drop (i + 1) c.args.runs.now in
    let n : ℕ = length c.args.out.now in
    let split : drop i c.args.runs.now ≡ run ∷ later = drop_more c.args.runs.now i (run_of 0 0) (omega arith) in
    let on : All (IsWithin size) (run ∷ later) = subst (All (IsWithin size)) split before.inside in
    let sum : total (drop i c.args.runs.now) ≡ run.count + total later = ap total split ∙ total-cons run later in
    record {
      same_length = before.same_length;
      whole = before.whole;
      within = before.within;
      reach = omega (arith, before.reach, sum, c.if-at-count.true);
      read = before.read;
      inside = All-tail (IsWithin size) run later on;
      spelled = λ told. before.spelled told ∙ ap (λ (rs : List Run). take c.loop-run.done c.loop-run.out ++ bytes_at (joined_runs image rs) (512 * c.loop-run.at) (n - c.loop-run.done)) split
          ∙ ap (λ (ys : List ℕ). take c.loop-run.done c.loop-run.out ++ ys)
          (skip_run image size run later c.loop-run.at (c.loop-run.at - run.count) (n - c.loop-run.done) (g.met.B.Blocks.whole c.args.disk.now told) (All-head (IsWithin size) run later on) (omega (arith, c.if-at-count.true)));
    }

pub loop-run-preserved : goal.loop-run-preserved
loop-run-preserved g c =
    let before = c.loop-run.invariant in
    let size : ℕ = g.B.Blocks.size c.args.disk.now in
    let image : List ℕ = g.B.Blocks.image c.args.disk.now in
    let i : ℕ = c.loop-run.run-index in
    let run : Run = slice_index_or c.args.runs.now i (run_of 0 0) in
    let later : List Run = drop (i + 1) c.args.runs.now in
    let n : ℕ = length c.args.out.now in
    let at : ℕ = c.loop-run.at in
    let done : ℕ = c.loop-run.done in
    let k : ℕ = c.min.result in
    let split : drop i c.args.runs.now ≡ run ∷ later = drop_more c.args.runs.now i (run_of 0 0) (omega arith) in
    let on : All (IsWithin size) (run ∷ later) = subst (All (IsWithin size)) split before.inside in
    let fits : end_of run ≤ size = All-head (IsWithin size) run later on in
    let rest_on : All (IsWithin size) later = All-tail (IsWithin size) run later on in
    let sum : total (drop i c.args.runs.now) ≡ run.count + total later = ap total split ∙ total-cons run later in
    let least : k ≡ min (run.count - at) ((n - done) / 512) = c.min.ensures ∙ ap (λ (m : ℕ). min (run.count - at) ((m - done) / 512)) before.same_length in
    let whole : (n - done) % 512 ≡ 0 = omega (arith, before.whole, c.requires.whole, before.within) in
    let room : done + 512 * k ≤ n = omega (arith, least, before.within) in
    let rest : n - done - 512 * k ≡ n - (done + 512 * k) = omega arith in
    record {
      same_length = c.read_into.ensures.long ∙ before.same_length;
      whole = omega (arith, before.whole);
      within = room;
      reach = omega (arith, before.reach, sum, least, c.if-at-count.false, whole);
      read = g.met.B.Blocks.read_on _ _ _ before.read c.read_into.ensures.read;
      inside = rest_on;
      spelled = λ told.
          let long = g.met.B.Blocks.whole c.args.disk.now told in
          let same : g.B.Blocks.image c.loop-run.disk ≡ image = g.met.B.Blocks.same_image _ _ before.read told in
          let part : List ℕ = bytes_at image (512 * (run.start + at)) (512 * k) in
          let written : c.read_into.new.out ≡ with_bytes c.loop-run.out done part =
          c.in_ok-read_into.ensures.bytes told ∙ ap (λ (im : List ℕ). with_bytes c.loop-run.out done (bytes_at im (512 * (run.start + at)) (512 * k))) same in
          let more = ap (λ (rs : List Run). bytes_at (joined_runs image rs) (512 * at) (n - done)) split
          ∙ over_run image size run later at k (n - done) long fits rest_on c.if-at-count.false whole least (omega (arith, before.reach, sum))
          ∙ ap (λ (m : ℕ). part ++ bytes_at (joined_runs image later) 0 m) rest in
          reads_on _ c.loop-run.out c.read_into.new.out part _ _ done (512 * k) (before.spelled told) more written
          (length-bytes_at image (512 * (run.start + at)) (512 * k) (omega (arith, long, fits, least, c.if-at-count.false)))
          (omega (arith, room, before.same_length));
    }

pub returns-then-left-eq0-clause-bytes : goal.returns-then-left-eq0-clause-bytes
returns-then-left-eq0-clause-bytes g c = λ told.
    let before = c.loop-run.invariant in
    let none : length c.args.out.now - c.loop-run.done ≡ 0 = omega (arith, before.whole, c.requires.whole, before.within, before.same_length, c.if-left-eq0.true) in
    let all : List ℕ = bytes_at (joined_runs (g.B.Blocks.image c.args.disk.now) c.args.runs.now) (512 * c.args.at) (length c.args.out.now) in
    read_all all c.loop-run.out (joined_runs (g.B.Blocks.image c.args.disk.now) (drop c.loop-run.run-index c.args.runs.now)) (512 * c.loop-run.at) (length c.args.out.now - c.loop-run.done) c.loop-run.done (before.spelled told) none (omega (arith, none, before.within, before.same_length))
