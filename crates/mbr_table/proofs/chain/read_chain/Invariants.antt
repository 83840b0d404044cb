-- The records so far are the beginning of the chain.
use Rattle.std.proofs.Common.{◌-◌, IsTrue, length}
use Rattle.mbr_table.specs.inside.Walk.{IsWalk, IsWalkWithin}
use Rattle.mbr_table.proofs.chain.read_chain.Given as goal

abbrev pub invariant-loop-walk : goal.invariant-loop-walk
invariant-loop-walk g l = record {
  read : g.B.Blocks.only_read l.initial.disk l.disk;
  within : IsWalkWithin l.extended l.walk;
  so_far : IsTrue g.B.Blocks.tells → IsWalk (g.B.Blocks.image l.initial.disk) l.extended l.walk;
}

abbrev pub decreases-loop-walk : goal.decreases-loop-walk
decreases-loop-walk g l = 61 - length l.walk.places.items
