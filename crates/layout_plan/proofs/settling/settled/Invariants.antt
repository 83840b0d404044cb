use Rattle.std.proofs.Common.{◌≡◌, map, take}
use Rattle.layout_plan.specs.Wishes.{settle}
use Rattle.layout_plan.proofs.settling.settled.Given as goal

abbrev pub invariant-loop-wish : goal.invariant-loop-wish
invariant-loop-wish l = l.all.items ≡ map (settle l.sectors) (take l.wish-index l.wishes)
