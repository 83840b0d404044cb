use Rattle.std.proofs.Common.{◌≡◌, ◌-◌}
use Rattle.target_table.specs.Entries.{extra_in, fresh_id}
use Rattle.target_table.proofs.gpt.fresh_id.Given as goal

abbrev pub invariant-loop : goal.invariant-loop
invariant-loop l = fresh_id (128 - l.counter) l.gpt.entries l.id ≡ fresh_id 128 l.gpt.entries (extra_in l.gpt.disk)
