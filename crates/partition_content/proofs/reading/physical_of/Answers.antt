use Rattle.std.proofs.Common.{arith}
use Rattle.partition_content.specs.inside.Stops.{IsSecondStop}
use Rattle.partition_content.proofs.Finding.{of_same_disk, second_stop}
use Rattle.partition_content.proofs.reading.physical_of.Goals as goal

pub returns-in-Err-second_ring-clause-stop : goal.returns-in-Err-second_ring-clause-stop
returns-in-Err-second_ring-clause-stop g c = λ t.
    second_stop (g.B.Blocks.size c.args.disk.now) (g.B.Blocks.image c.args.disk.now) c.args.label c.in-Ok.ring c.in-Err-second_ring.stop
    (omega (arith, c.if-label-eq0.false), omega (arith, c.if-label-gt2.false)) (c.in-Ok.ensures.ring t)
    (of_same_disk (λ n image. IsSecondStop n image c.args.label c.in-Ok.ring c.in-Err-second_ring.stop) _ _ _ _
    (g.met.B.Blocks.same_size _ _ c.in-Ok.ensures.read) (g.met.B.Blocks.same_image _ _ c.in-Ok.ensures.read t) (c.in-Err-second_ring.ensures.stop t))
