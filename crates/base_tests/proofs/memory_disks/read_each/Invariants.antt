use Rattle.base_tests.proofs.memory_disks.read_each.Given as goal

abbrev pub invariant-loop-at : goal.invariant-loop-at
invariant-loop-at g l = g.B.Blocks.only_read l.initial.disk l.disk
