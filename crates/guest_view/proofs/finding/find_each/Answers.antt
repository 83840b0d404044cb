use Rattle.std.proofs.Common.{◌≡◌, List, ℕ, subst, slice_index_or}
use Rattle.guest_view.specs.Partitions.{no_partition}
use Rattle.guest_view.specs.Contents.{IsFoundPartition}
use Rattle.guest_view.specs.inside.Sound.{StandsFor}
use Rattle.guest_view.proofs.Merging.{zip_more}
use Rattle.guest_view.proofs.finding.find_each.Goals as goal

pub loop-partition-preserved : goal.loop-partition-preserved
loop-partition-preserved g c = record {
  read = g.met.B.Blocks.read_on _ _ _ c.loop-partition.invariant.read c.in_ok-one.ensures.read;
  found = λ t.
      let image : g.B.Blocks.image c.loop-partition.disk ≡ g.B.Blocks.image c.args.disk.now = g.met.B.Blocks.same_image _ _ c.loop-partition.invariant.read t in
      zip_more (IsFoundPartition (g.B.Blocks.image c.args.disk.now)) c.args.partitions.now c.loop-partition.found.items c.in_ok-found.found.items c.loop-partition.partition-index
      c.in_ok-one.one no_partition c.loop-partition-test.true c.in_ok-found.ensures.added (c.loop-partition.invariant.found t)
      (subst (λ (i : List ℕ). IsFoundPartition i (slice_index_or c.args.partitions.now c.loop-partition.partition-index no_partition) c.in_ok-one.one) image (c.in_ok-one.ensures.found t));
  stand = zip_more StandsFor c.args.partitions.now c.loop-partition.found.items c.in_ok-found.found.items c.loop-partition.partition-index c.in_ok-one.one no_partition
      c.loop-partition-test.true c.in_ok-found.ensures.added c.loop-partition.invariant.stand c.in_ok-one.ensures.stands;
}
