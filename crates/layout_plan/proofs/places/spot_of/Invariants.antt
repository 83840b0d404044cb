use Rattle.std.proofs.Common.{◌≢◌, ℕ, ◌<◌, slice_index_or}
use Rattle.layout_plan.specs.declared.part.Part.{Part}
use Rattle.layout_plan.proofs.places.spot_of.Given as goal

abbrev pub invariant-loop-place : goal.invariant-loop-place
invariant-loop-place l = (k : ℕ) (d : Part) → k < l.place → (slice_index_or l.laid k d).number ≢ l.part.number
