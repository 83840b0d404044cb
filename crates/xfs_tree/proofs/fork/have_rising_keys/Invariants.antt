use Rattle.std.proofs.Common.{◌≡◌, ℕ, ◌+◌, ◌<◌, true}
use Rattle.xfs_tree.specs.Fork.{fork_key}
use Rattle.xfs_tree.specs.Records.{by_file}
use Rattle.xfs_tree.proofs.fork.have_rising_keys.Given as goal

abbrev pub invariant-loop-i : goal.invariant-loop-i
invariant-loop-i l =
    (k : ℕ) → k + 1 < l.i → by_file.key_before (fork_key l.fork k) (fork_key l.fork (k + 1)) ≡ true
