-- Claims on blocks of a volume. How often a block is claimed is a number, 0 or 1.
use Rattle.std.specs.Prelude.{ℕ, ◌+◌, ◌*◌, ◌/◌, ◌%◌, ◌<◌, ◌≤◌, Bool, if◌then◌else◌, IsTrue, List}
use Rattle.block_claims.specs.Agreement.{times_in, Claimed, IsTwice}
use Rattle.xfs_super.specs.declared.geometry.Super.{Super}
use Rattle.xfs_tree.specs.declared.fault.TreeFault.{TreeFault}
use Rattle.xfs_tree.specs.declared.fault.TreeFault.TheVariants.{Checksum, Header, Level, Order, Range, Marked, Device, Memory}

-- what is claimed, or can be: group and block
abbrev pub Claims : Type 0
Claims = ℕ → ℕ → Bool

-- how often a block of the volume is claimed, where groups have that many blocks
abbrev pub marked : ℕ → Claims → ℕ → ℕ
marked agblocks claimed n = if claimed (n / agblocks) (n % agblocks) then 1 else 0

-- none of the blocks was claimed before, and none stands twice in the list
abbrev pub AreFree : (ℕ → ℕ) → List ℕ → Type 0
AreFree old blocks = (n : ℕ) → old n + times_in n blocks ≤ 1

-- of a volume these blocks were claimed, each once, and none of them before
abbrev pub AreClaimed : Super → Claims → List ℕ → Claims → Type 0
AreClaimed geo old blocks new = Claimed (marked geo.agblocks old) blocks (marked geo.agblocks new)

-- each block of a volume can be claimed
abbrev pub AdmitsVolume : Super → Claims → Type 0
AdmitsVolume geo admits = (n : ℕ) → n < geo.dblocks → IsTrue (admits (n / geo.agblocks) (n % geo.agblocks))

-- why blocks aren't claimed, where groups have that many blocks: one was claimed before, or memory was refused
abbrev pub IsClaimFault : ℕ → (ℕ → ℕ) → List ℕ → TreeFault → Type 0
IsClaimFault agblocks claimed blocks (Checksum g b) = ⊥
IsClaimFault agblocks claimed blocks (Header g b) = ⊥
IsClaimFault agblocks claimed blocks (Level g b) = ⊥
IsClaimFault agblocks claimed blocks (Order g b) = ⊥
IsClaimFault agblocks claimed blocks (Range g b) = ⊥
IsClaimFault agblocks claimed blocks (Marked g b) = IsTwice claimed blocks (g * agblocks + b)
IsClaimFault agblocks claimed blocks Device = ⊥
IsClaimFault agblocks claimed blocks Memory = Unit {0}
