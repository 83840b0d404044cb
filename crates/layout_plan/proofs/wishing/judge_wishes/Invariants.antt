use Rattle.std.proofs.Common.{◌≡◌, ℕ, ◌<◌, take, slice_index_or, None}
use Rattle.layout_plan.specs.declared.wish.Wish.{Wish}
use Rattle.layout_plan.specs.Faults.{wish_fault}
use Rattle.layout_plan.proofs.wishing.judge_wishes.Given as goal

abbrev pub invariant-loop-place : goal.invariant-loop-place
invariant-loop-place l = (k : ℕ) (d : Wish) → k < l.place → wish_fault l.parts (take k l.wishes) (slice_index_or l.wishes k d) ≡ None
