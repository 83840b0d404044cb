use Rattle.target_table.proofs.Records.{AreRecordsSoFar}
use Rattle.target_table.proofs.chain.records.Given as goal

abbrev pub invariant-loop-i : goal.invariant-loop-i
invariant-loop-i l = AreRecordsSoFar l.base l.logicals l.i l.writes.items
