use Rattle.std.proofs.Common.{ap, sym}
use Rattle.gpt_table.specs.Entry.{slot_bytes, kept_entry, guid_at}
use Rattle.gpt_table.proofs.writing.slot_bytes.Goals as goal

pub returns-in-None-clause-bytes : goal.returns-in-None-clause-bytes
unfolding slot_bytes
returns-in-None-clause-bytes c = ap slot_bytes (sym c.in-None.is)

pub returns-in-None-clause-read_back : goal.returns-in-None-clause-read_back
unfolding guid_at
returns-in-None-clause-read_back c = ap kept_entry (sym c.in-None.is)
