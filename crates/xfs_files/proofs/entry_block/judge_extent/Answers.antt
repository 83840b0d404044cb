use Rattle.std.proofs.Common.{◌≡◌, ℕ, ◌+◌, ◌∙◌, List, ap, subst, below_more, arith}
use Rattle.std.proofs.lemmas.Result.{err_from_is_err_and}
use Rattle.block_claims.specs.Agreement.{block}
use Rattle.xfs_super.specs.Super.{geometry_of}
use Rattle.xfs_inode.specs.Extents.{block_named}
use Rattle.xfs_files.specs.Directory.{IsSoundEntryBlock, DirectoryBlock}
use Rattle.xfs_files.specs.inside.Judging.{held_block}
use Rattle.xfs_files.proofs.Runs.{nth_block, all_blocks, one_block}
use Rattle.xfs_files.proofs.Verdicts.{fault_of_one}
use Rattle.xfs_files.proofs.entry_block.judge_extent.Goals as goal

-- a block on the disk as it is now is that on the disk as it was
same_block : (now old : List ℕ) (file at first k : ℕ) → now ≡ old → first ≡ at → held_block file (first + k) (block now (first + k)) ≡ held_block file (at + k) (block old (at + k))
same_block now old file at first k image place = ap (λ (i : List ℕ). held_block file (first + k) (block i (first + k))) image ∙ ap (λ (n : ℕ). held_block file (n + k) (block old (n + k))) place

pub returns-in_err-judge_block-clause-fault : goal.returns-in_err-judge_block-clause-fault
returns-in_err-judge_block-clause-fault g c =
    λ told.
    let p = err_from_is_err_and c.from_residual.result c.from_residual.ensures.1 in
    let geo = geometry_of c.args.geo.now in
    let e = c.args.extent.now in
    let k : ℕ = c.loop-k.k in
    let old : List ℕ = g.B.Blocks.image c.args.disk.now in
    let now : List ℕ = g.B.Blocks.image c.loop-k.disk in
    let same = same_block now old (e.file + k) (block_named geo e.block) c.first_block-first.result k (g.met.B.Blocks.same_image _ _ c.loop-k.invariant.read told) c.first_block-first.ensures.first in
    rw (p.1, p.2) (fault_of_one geo c.args.ino _ (held_block (e.file + k) (c.first_block-first.result + k) (block now (c.first_block-first.result + k))) (nth_block (block old) geo e k) _ same (one_block (block old) geo e k (omega arith)) (c.in_err-judge_block.ensures.fault told))

pub loop-k-preserved : goal.loop-k-preserved
loop-k-preserved g c =
    let geo = geometry_of c.args.geo.now in
    let e = c.args.extent.now in
    let k : ℕ = c.loop-k.k in
    let old : List ℕ = g.B.Blocks.image c.args.disk.now in
    let now : List ℕ = g.B.Blocks.image c.loop-k.disk in
    record {
      read = g.met.B.Blocks.read_on _ _ _ c.loop-k.invariant.read c.in_ok-judge_block.ensures.read;
      sound = λ told.
          let same = same_block now old (e.file + k) (block_named geo e.block) c.first_block-first.result k (g.met.B.Blocks.same_image _ _ c.loop-k.invariant.read told) c.first_block-first.ensures.first in
          below_more (λ (j : ℕ). IsSoundEntryBlock geo c.args.ino (nth_block (block old) geo e j)) k (c.loop-k.invariant.sound told)
          (subst (λ (b : DirectoryBlock). IsSoundEntryBlock geo c.args.ino b) same (c.in_ok-judge_block.ensures.sound told));
    }

pub returns-clause-sound : goal.returns-clause-sound
returns-clause-sound g c =
    λ told.
    let geo = geometry_of c.args.geo.now in
    all_blocks (block (g.B.Blocks.image c.args.disk.now)) geo c.args.extent.now (IsSoundEntryBlock geo c.args.ino)
    (λ k lt. c.loop-k.invariant.sound told k (omega (arith, lt, c.loop-k-test.false, c.loop-k.auto.k-end)))
