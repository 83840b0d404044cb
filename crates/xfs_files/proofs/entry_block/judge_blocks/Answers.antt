use Rattle.std.proofs.Common.{List, ℕ, subst, map, get_or, false, arith}
use Rattle.std.specs.List.{All, Contains}
use Rattle.std.proofs.lemmas.List.{take_all}
use Rattle.std.proofs.lemmas.Result.{err_from_is_err_and}
use Rattle.block_claims.specs.Agreement.{block}
use Rattle.xfs_super.specs.Super.{geometry_of}
use Rattle.xfs_tree.specs.declared.extent.Extent.{Extent}
use Rattle.xfs_inode.specs.Seen.{extent_seen}
use Rattle.xfs_files.specs.Directory.{IsSoundEntryBlock, entry_blocks, entry_blocks_of}
use Rattle.xfs_files.proofs.Runs.{all_none, all_more, one_of_all}
use Rattle.xfs_files.proofs.Verdicts.{fault_of_more}
use Rattle.xfs_files.proofs.entry_block.judge_blocks.Goals as goal

abbrev none : Extent
none = record { unwritten = false; file = 0; block = 0; count = 0 }

pub loop-extent-init : goal.loop-extent-init
loop-extent-init g c = record {
  read = g.met.B.Blocks.read_nothing _;
  sound = λ told. all_none (IsSoundEntryBlock (geometry_of c.args.geo.now) c.args.ino);
}

pub returns-in_err-judge_extent-clause-fault : goal.returns-in_err-judge_extent-clause-fault
returns-in_err-judge_extent-clause-fault g c =
    λ told.
    let p = err_from_is_err_and c.from_residual.result c.from_residual.ensures.1 in
    let geo = geometry_of c.args.geo.now in
    let old : List ℕ = g.B.Blocks.image c.args.disk.now in
    let now : List ℕ = g.B.Blocks.image c.loop-extent.disk in
    let i : ℕ = c.loop-extent.extent-index in
    let e : Extent = get_or c.args.extents.now i none in
    let same = g.met.B.Blocks.same_image _ _ c.loop-extent.invariant.read told in
    rw (p.1, p.2) (fault_of_more geo c.args.ino (entry_blocks_of (extent_seen (block now) geo e)) _ _
    (λ b here. one_of_all (block old) geo c.args.extents.now i none b (omega arith) (subst (λ (l : List ℕ). Contains (entry_blocks_of (extent_seen (block l) geo e)) b) same here)) (c.in_err-judge_extent.ensures.fault told))

pub loop-extent-preserved : goal.loop-extent-preserved
loop-extent-preserved g c =
    let geo = geometry_of c.args.geo.now in
    let old : List ℕ = g.B.Blocks.image c.args.disk.now in
    let i : ℕ = c.loop-extent.extent-index in
    let e : Extent = get_or c.args.extents.now i none in
    record {
      read = g.met.B.Blocks.read_on _ _ _ c.loop-extent.invariant.read c.in_ok-judge_extent.ensures.read;
      sound = λ told.
          let same = g.met.B.Blocks.same_image _ _ c.loop-extent.invariant.read told in
          all_more (block old) geo (IsSoundEntryBlock geo c.args.ino) c.args.extents.now i none (omega arith) (c.loop-extent.invariant.sound told)
          (subst (λ (l : List ℕ). All (IsSoundEntryBlock geo c.args.ino) (entry_blocks_of (extent_seen (block l) geo e))) same (c.in_ok-judge_extent.ensures.sound told));
    }

pub returns-clause-sound : goal.returns-clause-sound
returns-clause-sound g c =
    λ told.
    let geo = geometry_of c.args.geo.now in
    let old : List ℕ = g.B.Blocks.image c.args.disk.now in
    let es : List Extent = c.args.extents.now in
    subst (λ (l : List Extent). All (IsSoundEntryBlock geo c.args.ino) (entry_blocks (map (extent_seen (block old) geo) l)))
    (take_all c.loop-extent.extent-index es (omega arith)) (c.loop-extent.invariant.sound told)
