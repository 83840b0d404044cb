-- One more gap between runs, and the one behind the last: what was copied and written goes on by the lemmas of Gaps and Walking.
use Rattle.std.proofs.Common.{◌≡◌, ℕ, ◌-◌, ◌*◌, ◌<◌, List, length, replicate, arith, ◌∙◌, ap, subst}
use Rattle.disk_base.proofs.Uses.{used_here, used_on}
use Rattle.run_set.specs.declared.run.Run.{Run}
use Rattle.run_set.specs.Runs.{past_of}
use Rattle.run_copy.specs.Copies.{IsCopied, WritesAtMost, pieces_of, pieces_written}
use Rattle.sparse_copy.specs.Sparse.{between}
use Rattle.sparse_copy.proofs.Gaps.{copy_none, copy_more, copy_whole}
use Rattle.sparse_copy.proofs.Walking.{IsAhead, Writing, all_ahead, starts, ends, splits, gap_free, run_held, one_ahead, lie_within, none_free, writing_none, writing_more, writing_last}
use Rattle.sparse_copy.proofs.copying.copy_kept.Goals as goal

pub loop-index-init : goal.loop-index-init
loop-index-init g c =
    let size = g.S.Blocks.size c.args.source.now in
    let runs = c.args.runs.now in
    record {
      read = g.met.S.Blocks.read_nothing c.args.source.now;
      ahead = all_ahead size runs c.count-index-end.ensures.set c.requires.inside;
      copied = λ s t.
          copy_none size runs (g.S.Blocks.image c.args.source.now) (g.T.Blocks.image c.args.target.now) (g.met.S.Blocks.whole c.args.source.now s)
          (c.requires.blank t ∙ ap (λ n. replicate (512 * n) 0) c.requires.long);
      writes = λ s t. writing_none (g.S.Blocks.image c.args.source.now) size runs (g.T.Disk.log c.args.target.now);
      used = used_here g.T.Blocks g.T.Disk c.args.target.now;
    }

pub copy_between-requires-clause-rising : goal.copy_between-requires-clause-rising
copy_between-requires-clause-rising g c =
    let run : Run = record { start = c.get-start.result.0; count = c.get-start.result.1 } in
    starts c.loop-index.low c.loop-index.index (g.S.Blocks.size c.args.source.now) c.args.runs.now run c.loop-index.invariant.ahead (omega arith) c.get-start.ensures.run

pub copy_between-requires-clause-inside : goal.copy_between-requires-clause-inside
copy_between-requires-clause-inside g c =
    let run : Run = record { start = c.get-start.result.0; count = c.get-start.result.1 } in
    let same = g.met.S.Blocks.same_size _ _ c.loop-index.invariant.read in
    let past = ends c.loop-index.low c.loop-index.index (g.S.Blocks.size c.args.source.now) c.args.runs.now run c.loop-index.invariant.ahead (omega arith) c.get-start.ensures.run in
    omega (arith, same, past)

pub loop-index-preserved : goal.loop-index-preserved
loop-index-preserved g c =
    let before = c.loop-index.invariant in
    let now = c.in_ok-copy_between.ensures in
    let size = g.S.Blocks.size c.args.source.now in
    let start = g.S.Blocks.image c.args.source.now in
    let runs = c.args.runs.now in
    let low = c.loop-index.low in
    let index = c.loop-index.index in
    let run : Run = record { start = c.get-start.result.0; count = c.get-start.result.1 } in
    let within : index < length runs = omega arith in
    let is = c.get-start.ensures.run in
    let rising = starts low index size runs run before.ahead within is in
    let inside = ends low index size runs run before.ahead within is in
    record {
      read = g.met.S.Blocks.read_on _ _ _ before.read now.read;
      ahead = one_ahead low index size runs run before.ahead within is;
      copied = λ s t.
          let same = g.met.S.Blocks.same_image _ _ before.read s in
          let Copied : List ℕ → Type 0 = λ image. IsCopied (between low run.start) (run.start - low) image (g.T.Blocks.image c.loop-index.target) (g.T.Blocks.image c.copy_between.new.target) in
          copy_more low run.start (past_of run) size runs start (g.T.Blocks.image c.loop-index.target) (g.T.Blocks.image c.copy_between.new.target)
          (g.met.S.Blocks.whole c.args.source.now s) (before.copied s t) (subst Copied same (now.copied s t)) rising (omega arith) inside
          (gap_free low index size runs run before.ahead within is) (run_held low index size runs run before.ahead within is);
      writes = λ s t.
          let same = g.met.S.Blocks.same_image _ _ before.read s in
          let Writes : List ℕ → Type 0 = λ image. WritesAtMost (pieces_written image (between low run.start) (pieces_of (between low run.start))) (g.T.Disk.log c.loop-index.target) (g.T.Disk.log c.copy_between.new.target) in
          writing_more start low index size runs run (g.T.Disk.log c.args.target.now) (g.T.Disk.log c.loop-index.target) (g.T.Disk.log c.copy_between.new.target)
          (splits low index size runs run before.ahead within is) (before.writes s t) (subst Writes same (now.writes s t));
      used = used_on g.T.Blocks g.T.Disk _ _ _ before.used now.used;
    }

pub copy_between-requires-2-clause-rising : goal.copy_between-requires-2-clause-rising
copy_between-requires-2-clause-rising g c =
    let same = g.met.S.Blocks.same_size _ _ c.loop-index.invariant.read in
    let within = lie_within c.loop-index.low _ (g.S.Blocks.size c.args.source.now) c.loop-index.invariant.ahead.lie in
    omega (arith, same, within)

pub returns-clause-copied : goal.returns-clause-copied
returns-clause-copied g c = λ s t.
    let before = c.loop-index.invariant in
    let now = c.in_ok-copy_between-2.ensures in
    let size = g.S.Blocks.size c.args.source.now in
    let start = g.S.Blocks.image c.args.source.now in
    let runs = c.args.runs.now in
    let low = c.loop-index.low in
    let whole = g.met.S.Blocks.whole c.args.source.now s in
    let same = g.met.S.Blocks.same_image _ _ before.read s in
    let same_size = g.met.S.Blocks.same_size _ _ before.read in
    let end : c.sectors-end.result ≡ size = c.sectors-end.ensures ∙ same_size in
    let passed : c.loop-index.index ≡ length runs = let bound = before.ahead.bound in omega arith in
    let Ahead : ℕ → Type 0 = λ n. IsAhead low n size runs in
    let ahead = subst Ahead passed before.ahead in
    let Of : List ℕ → Type 0 = λ image. IsCopied (between low c.sectors-end.result) (c.sectors-end.result - low) image (g.T.Blocks.image c.loop-index.target) (g.T.Blocks.image c.copy_between-2.new.target) in
    let To : ℕ → Type 0 = λ n. IsCopied (between low n) (n - low) start (g.T.Blocks.image c.loop-index.target) (g.T.Blocks.image c.copy_between-2.new.target) in
    copy_whole size runs start (g.T.Blocks.image c.copy_between-2.new.target) whole c.requires.inside
    (copy_more low size size size runs start (g.T.Blocks.image c.loop-index.target) (g.T.Blocks.image c.copy_between-2.new.target)
    whole (before.copied s t) (subst To end (subst Of same (now.copied s t))) (lie_within low _ size before.ahead.lie) (omega arith) (omega arith)
    (λ k from below. none_free low size runs ahead k from) (λ k from below. absurd (omega arith)))

pub returns-clause-writes : goal.returns-clause-writes
returns-clause-writes g c = λ s t.
    let before = c.loop-index.invariant in
    let now = c.in_ok-copy_between-2.ensures in
    let size = g.S.Blocks.size c.args.source.now in
    let start = g.S.Blocks.image c.args.source.now in
    let runs = c.args.runs.now in
    let low = c.loop-index.low in
    let same = g.met.S.Blocks.same_image _ _ before.read s in
    let same_size = g.met.S.Blocks.same_size _ _ before.read in
    let end : c.sectors-end.result ≡ size = c.sectors-end.ensures ∙ same_size in
    let passed : c.loop-index.index ≡ length runs = let bound = before.ahead.bound in omega arith in
    let old = g.T.Disk.log c.args.target.now in
    let mid = g.T.Disk.log c.loop-index.target in
    let new = g.T.Disk.log c.copy_between-2.new.target in
    let So_far : ℕ → Type 0 = λ n. Writing start low n runs size old mid in
    let Of : List ℕ → Type 0 = λ image. WritesAtMost (pieces_written image (between low c.sectors-end.result) (pieces_of (between low c.sectors-end.result))) mid new in
    let To : ℕ → Type 0 = λ n. WritesAtMost (pieces_written start (between low n) (pieces_of (between low n))) mid new in
    writing_last start low size runs old mid new (subst So_far passed (before.writes s t)) (subst To end (subst Of same (now.writes s t)))
