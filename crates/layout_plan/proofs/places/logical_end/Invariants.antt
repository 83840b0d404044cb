use Rattle.std.proofs.Common.{◌≡◌, ◌⊎◌, ℕ, ◌<◌, false, slice_index_or}
use Rattle.layout_plan.specs.declared.part.Part.{Part}
use Rattle.layout_plan.specs.Roles.{is_logical}
use Rattle.layout_plan.proofs.Placing.{IsLogicalSoFar}
use Rattle.layout_plan.proofs.places.logical_end.Given as goal

abbrev pub invariant-loop-place : goal.invariant-loop-place
invariant-loop-place l =
    ((k : ℕ) (d : Part) → k < l.place → is_logical (slice_index_or l.laid k d).role ≡ false) ⊎ IsLogicalSoFar l.laid l.spots l.place l.last
