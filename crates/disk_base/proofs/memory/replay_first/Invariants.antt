-- What the first sectors of the calls so far leave.
use Rattle.std.proofs.Common.{◌≡◌, ◌≤◌, length, take}
use Rattle.disk_base.specs.Past.{events_of, image_after}
use Rattle.disk_base.specs.Stopped.{kept_calls}
use Rattle.disk_base.proofs.Stoppings.{Keeps, still}
use Rattle.disk_base.proofs.memory.replay_first.Given as goal

abbrev pub invariant-loop-effect : goal.invariant-loop-effect
invariant-loop-effect l =
    Keeps (l.effect-index ≤ length l.history)
    (l.image.items ≡ kept_calls (take l.effect-index (events_of l.written l.history)) l.keep l.byte l.initial.image.items)
    (l.left ≡ still (take l.effect-index (events_of l.written l.history)) l.keep)
    (length l.image.items ≡ length (image_after (take l.effect-index (events_of l.written l.history)) l.initial.image.items))
