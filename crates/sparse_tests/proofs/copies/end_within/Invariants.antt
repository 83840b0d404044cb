-- The runs so far end within the sectors.
use Rattle.std.specs.Prelude.{take}
use Rattle.sparse_copy.specs.Sparse.{EndWithin}
use Rattle.sparse_tests.proofs.copies.end_within.Given as goal

abbrev pub invariant-loop-index : goal.invariant-loop-index
invariant-loop-index l = EndWithin l.sectors (take l.index l.runs)
