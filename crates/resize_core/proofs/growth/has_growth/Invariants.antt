use Rattle.std.proofs.Common.{◌≡◌, drop}
use Rattle.std.specs.List.{list_any}
use Rattle.resize_core.specs.Growth.{grows, has_growth}
use Rattle.resize_core.proofs.growth.has_growth.Given as goal

abbrev pub invariant-loop-part : goal.invariant-loop-part
invariant-loop-part l = list_any (grows l.grow l.planned l.parts) (drop l.part-index l.parts) ≡ has_growth l.grow l.planned l.parts
