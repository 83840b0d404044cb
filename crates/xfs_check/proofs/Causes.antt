-- A device's fault, as a check names it, has its cause.
use Rattle.std.proofs.Common.{◌≡◌, ℕ, ◌≤◌, Bool, true, false, refl, sym, ap, ◌∙◌, arith, Result}
use Rattle.std.proofs.lemmas.Bool.{false≢true}
use Rattle.std.proofs.lemmas.Result.{IfErr-at_err}
use Rattle.std.specs.Prelude.{IfErr, IsErrOf}
use Rattle.disk_base.specs.Faults.{Rose}
use Rattle.xfs_inode.specs.TreeFaults.{told_of_tree}
use Rattle.xfs_super.specs.declared.reason.CheckFault.{CheckFault}
use Rattle.xfs_super.specs.declared.reason.CheckFault.TheVariants as check
use Rattle.xfs_super.specs.declared.reason.Reason.{Reason}
use Rattle.xfs_tree.specs.declared.fault.TreeFault.{TreeFault}
use Rattle.xfs_tree.specs.declared.fault.TreeFault.TheVariants as tree

abbrev is_device : CheckFault → Bool
is_device (check.Bad reason) = false
is_device check.Device = true
is_device check.Memory = false

pub not_device : (reason : Reason) → check.Bad reason ≡ check.Device → ⊥
not_device reason h = false≢true (ap is_device h)

memory_is_not : check.Memory ≡ check.Device → ⊥
memory_is_not h = false≢true (ap is_device h)

device_told : (a : ℕ) (fault : TreeFault) → told_of_tree a fault ≡ check.Device → fault ≡ tree.Device
device_told a (tree.Checksum g b) h = absurd (not_device _ h)
device_told a (tree.Header g b) h = absurd (not_device _ h)
device_told a (tree.Level g b) h = absurd (not_device _ h)
device_told a (tree.Order g b) h = absurd (not_device _ h)
device_told a (tree.Range g b) h = absurd (not_device _ h)
device_told a (tree.Marked g b) h = absurd (not_device _ h)
device_told a tree.Device h = refl
device_told a tree.Memory h = absurd (memory_is_not h)

-- what was told of a fault of a tree is a device's where that fault is
pub told_device : {T : Type 0} (a : ℕ) (fault : TreeFault) (answer : CheckFault) (result : Result T CheckFault) → answer ≡ told_of_tree a fault → IfErr result (λ e. answer ≡ e) → IsErrOf result check.Device → fault ≡ tree.Device
told_device a fault answer result is same h = device_told a fault (sym is ∙ IfErr-at_err (λ (e : CheckFault). answer ≡ e) h same)

-- a count that rose later rose since before
pub rose_since : (old mid new : ℕ) → old ≤ mid → Rose mid new → Rose old new
rose_since old mid new less rose = omega (arith, less, rose)

-- an error that is answered as it came
pub error_is : {T : Type 0} (result : Result T CheckFault) (fault : CheckFault) → IfErr result (λ e. fault ≡ e) → IsErrOf result check.Device → fault ≡ check.Device
error_is result fault same h = IfErr-at_err (λ (e : CheckFault). fault ≡ e) h same
