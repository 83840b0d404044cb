use Rattle.mbr_table.proofs.Tables.{one_fault_at_most}
use Rattle.mbr_table.proofs.mbr.one_fault.Goals as goal

pub returns : goal.returns
returns c = λ sectors image one other. one_fault_at_most sectors image one other
