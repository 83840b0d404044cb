use Rattle.std.proofs.Common.{arith}
use Rattle.partition_content.proofs.Finding.{label_found}
use Rattle.partition_content.proofs.reading.label_of.Goals as goal

pub returns-clause-label : goal.returns-clause-label
returns-clause-label g c = λ t.
    label_found (g.B.Blocks.size c.args.disk.now) (g.B.Blocks.image c.args.disk.now) _ c.in_ok-found.found
    (omega (arith, c.if-sectors-lt4.false, c.sectors.ensures)) (c.in_ok-found.ensures.bytes t) c.in_ok-found.ensures.label
