use Rattle.std.proofs.Common.{rules}
use Rattle.gpt_table.specs.Entry.{guid_at}
use Rattle.gpt_table.proofs.entry.guid_in.Goals as goal

pub returns : goal.returns
unfolding guid_at
returns c = search rules
