-- What the calls so far leave.
use Rattle.std.proofs.Common.{◌≡◌, ◌≤◌, length, take}
use Rattle.disk_base.specs.Past.{events_of, image_after}
use Rattle.disk_base.proofs.Stoppings.{Goes}
use Rattle.disk_base.proofs.memory.replay_all.Given as goal

abbrev pub invariant-loop-effect : goal.invariant-loop-effect
invariant-loop-effect l = Goes (l.effect-index ≤ length l.history) (l.image.items ≡ image_after (take l.effect-index (events_of l.written l.history)) l.first)
