use Rattle.std.proofs.Common.{ℕ, ◌⊎◌, ◌↔◌, take}
use Rattle.run_set.specs.Runs.{Holds}
use Rattle.free_sectors.proofs.putting.add_all.Given as goal

abbrev pub invariant-loop-index : goal.invariant-loop-index
invariant-loop-index l = (x : ℕ) → Holds l.set x ↔ (Holds l.initial.set x ⊎ Holds (take l.index l.other) x)
