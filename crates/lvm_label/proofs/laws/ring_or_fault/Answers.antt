use Rattle.lvm_label.proofs.Rings.{ring_or_fault}
use Rattle.lvm_label.proofs.laws.ring_or_fault.Goals as goal

pub returns : goal.returns
returns c = ring_or_fault
