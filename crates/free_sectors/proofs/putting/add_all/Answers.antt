use Rattle.std.proofs.Common.{arith}
use Rattle.free_sectors.proofs.Sets.{add_more, has_more, next_free}
use Rattle.free_sectors.proofs.putting.add_all.Goals as goal

pub loop-index-preserved : goal.loop-index-preserved
loop-index-preserved c =
    add_more c.args.set.now c.loop-index.set c.add_new.new.set c.args.other.now c.loop-index.index _ _
    (has_more c.args.other.now c.loop-index.index _ (omega arith) c.get-start.ensures.run) c.loop-index.invariant c.in_ok-add_new.ensures

pub add_new-requires-clause-free : goal.add_new-requires-clause-free
add_new-requires-clause-free c =
    next_free c.args.set.now c.loop-index.set c.args.other.now c.loop-index.index _ c.count-index-end.ensures.rising (omega arith) c.get-start.ensures.run c.loop-index.invariant c.requires
