-- What a table leaves of a disk.
use Rattle.std.proofs.Common.{ℕ, ◌≤◌, arith}
use Rattle.layout_plan.specs.declared.part.Kind.{Kind}
use Rattle.layout_plan.specs.declared.part.Kind.TheVariants.{Mbr, Gpt}
use Rattle.layout_plan.specs.Tables.{limit_of}

pub limit_inside : (kind : Kind) (sectors : ℕ) → limit_of kind sectors ≤ sectors
limit_inside Mbr sectors = omega arith
limit_inside Gpt sectors = omega arith
