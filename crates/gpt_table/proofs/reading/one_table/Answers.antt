use Rattle.gpt_table.proofs.Tables.{one_table_at_most, no_fault}
use Rattle.gpt_table.proofs.reading.one_table.Goals as goal

pub returns : goal.returns
returns c = λ sectors image one is.
    (λ other other-is. one_table_at_most sectors image other one other-is is, λ fault. no_fault sectors image one fault is)
