use Rattle.lvm_label.proofs.Labels.{one_label}
use Rattle.lvm_label.proofs.laws.one_label.Goals as goal

pub returns : goal.returns
returns c = one_label
