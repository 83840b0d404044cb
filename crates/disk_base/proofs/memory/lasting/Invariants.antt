-- What is lasting of the calls so far.
use Rattle.std.proofs.Common.{◌≤◌, ℕ, List, length}
use Rattle.disk_base.specs.Past.{events_of}
use Rattle.disk_base.specs.Stopped.{IsLasting}
use Rattle.disk_base.proofs.Stoppings.{Lasts}
use Rattle.disk_base.proofs.memory.lasting.Given as goal

abbrev pub invariant-loop-i : goal.invariant-loop-i
invariant-loop-i l = Lasts (l.i ≤ length l.history) (l.lasting ≤ l.i) ((written : List ℕ) → IsLasting (events_of written l.history) l.i l.lasting)
