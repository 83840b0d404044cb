use Rattle.std.proofs.Common.{arith}
use Rattle.guest_view.proofs.Entries.{entry_lies}
use Rattle.guest_view.proofs.partitions.of_number.Goals as goal

pub of_entry-requires-clause-order : goal.of_entry-requires-clause-order
of_entry-requires-clause-order c = (entry_lies _ _ c.args.gpt.now c.in-Some.entry.now c.requires.inside c.in-Some.ensures).in_order

pub of_entry-requires-clause-few : goal.of_entry-requires-clause-few
of_entry-requires-clause-few c = omega (arith, c.requires.few, (entry_lies _ _ c.args.gpt.now c.in-Some.entry.now c.requires.inside c.in-Some.ensures).within)
