use Rattle.xfs_log.proofs.Finds.{found_more}
use Rattle.xfs_log.proofs.finding.find_newest.Goals as goal

pub loop-at-preserved : goal.loop-at-preserved
loop-at-preserved g c = record {
  read = g.met.B.Blocks.read_on _ _ _ c.loop-at.invariant.read c.in_ok-read_block.ensures.read;
  inside = c.with_block-newest.ensures.inside c.loop-at.invariant.inside;
  newest = λ told.
      found_more c.args.geo.now (g.B.Blocks.image c.args.disk.now) (g.B.Blocks.image c.loop-at.disk) (g.B.Blocks.size c.args.disk.now) c.loop-at.at c.read_block.new.out c.loop-at.newest c.with_block-newest.result
      (g.met.B.Blocks.whole _ told) c.requires.volume c.loop-at-test.true (g.met.B.Blocks.same_image _ _ c.loop-at.invariant.read told) (c.in_ok-read_block.ensures.bytes told) c.with_block-newest.ensures.newest (c.loop-at.invariant.newest told);
}
