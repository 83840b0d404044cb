use Rattle.std.proofs.Common.{◌≡◌, take, false}
use Rattle.std.specs.List.{list_any}
use Rattle.target_table.specs.Entries.{has_id}
use Rattle.target_table.proofs.gpt.has_id.Given as goal

abbrev pub invariant-loop-index : goal.invariant-loop-index
invariant-loop-index l = list_any (has_id l.id) (take l.index l.gpt.entries) ≡ false
