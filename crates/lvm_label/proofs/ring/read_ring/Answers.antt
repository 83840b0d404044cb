use Rattle.std.proofs.Common.{ℕ, subst, IfErr}
use Rattle.lvm_label.specs.Ring.{HasRingFault}
use Rattle.lvm_label.proofs.ring.read_ring.Goals as goal

pub returns-clause-fault : goal.returns-clause-fault
returns-clause-fault g c =
    λ t.
    subst (λ (p : ℕ × ℕ). IfErr c.read_ring_at.result (λ fault. HasRingFault (g.B.Blocks.size c.args.disk.now) (g.B.Blocks.image c.args.disk.now) p.0 p.1 fault)) c.place_in-place.ensures (c.read_ring_at.ensures.fault t)
