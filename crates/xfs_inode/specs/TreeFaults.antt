-- A fault of a tree, as a check names it: each that speaks of a block itself is `Tree`, and a block that was claimed before is
-- `ClaimedTwice`.
use Rattle.std.specs.Prelude.{ℕ, ◌+◌, ◌*◌}
use Rattle.xfs_super.specs.declared.reason.CheckFault.{CheckFault}
use Rattle.xfs_super.specs.declared.reason.CheckFault.TheVariants as check
use Rattle.xfs_super.specs.declared.reason.Reason.TheVariants as why
use Rattle.xfs_tree.specs.declared.fault.TreeFault.{TreeFault}
use Rattle.xfs_tree.specs.declared.fault.TreeFault.TheVariants as tree

-- where groups have that many blocks
abbrev pub told_of_tree : ℕ → TreeFault → CheckFault
told_of_tree agblocks (tree.Checksum g b) = check.Bad (why.Tree g b)
told_of_tree agblocks (tree.Header g b) = check.Bad (why.Tree g b)
told_of_tree agblocks (tree.Level g b) = check.Bad (why.Tree g b)
told_of_tree agblocks (tree.Order g b) = check.Bad (why.Tree g b)
told_of_tree agblocks (tree.Range g b) = check.Bad (why.Tree g b)
told_of_tree agblocks (tree.Marked g b) = check.Bad (why.ClaimedTwice (g * agblocks + b))
told_of_tree agblocks tree.Device = check.Device
told_of_tree agblocks tree.Memory = check.Memory
