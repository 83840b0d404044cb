-- A header that is refused speaks against the headers.
use Rattle.std.proofs.Common.{◌≡◌, ℕ, List, ◌++◌, length, take, inl, inr, ap, sym, ◌∙◌}
use Rattle.std.proofs.Math.Seq.{take-append_seam}
use Rattle.xfs_check.specs.Seen.{GroupHead}
use Rattle.xfs_check.specs.inside.Reading.{HasAgflFault, HasAgiFault, HasHeadFault}
use Rattle.xfs_super.specs.Geometry.{Geometry}
use Rattle.xfs_super.specs.declared.reason.CheckFault.{CheckFault}
use Rattle.xfs_super.specs.declared.reason.CheckFault.TheVariants as check

pub agi_refused : (geo : Geometry) (group : ℕ) (seen : GroupHead) (fault : CheckFault) → HasAgiFault geo group seen fault → HasHeadFault geo group seen fault
agi_refused geo group seen (check.Bad reason) due = inr (inl due)
agi_refused geo group seen check.Device due = tt
agi_refused geo group seen check.Memory due = absurd due

pub agfl_refused : (geo : Geometry) (group : ℕ) (seen : GroupHead) (fault : CheckFault) → HasAgflFault geo group seen fault → HasHeadFault geo group seen fault
agfl_refused geo group seen (check.Bad reason) due = inr (inr due)
agfl_refused geo group seen check.Device due = tt
agfl_refused geo group seen check.Memory due = absurd due

-- the front of a list
pub front_of : (n : ℕ) (xs ys : List ℕ) → length xs ≡ n → take n (xs ++ ys) ≡ xs
front_of n xs ys long = ap (λ (m : ℕ). take m (xs ++ ys)) (sym long) ∙ take-append_seam xs ys
