use Rattle.std.proofs.Common.{◌≡◌, drop}
use Rattle.std.specs.List.{list_any}
use Rattle.resize_core.specs.Growth.{has_lost, is_lost}
use Rattle.resize_core.proofs.growth.has_lost.Given as goal

abbrev pub invariant-loop-part : goal.invariant-loop-part
invariant-loop-part l = list_any (is_lost l.planned l.holder) (drop l.part-index l.parts) ≡ has_lost l.planned l.parts l.holder
