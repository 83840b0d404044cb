use Rattle.std.proofs.Common.{◌≡◌, ℕ, ◌<◌, ◌≤◌, length, map}
use Rattle.std.specs.Prelude.{if◌then◌else◌, nat_lt, slice_index}
use Rattle.xfs_alloc.specs.FreeSpace.{level_up}
use Rattle.xfs_alloc.proofs.free.counts_of.Given as goal

abbrev pub invariant-loop-i : goal.invariant-loop-i
invariant-loop-i l =
    let levels = map (λ v. v.items) l.levels in
    record {
      nine : length l.counts ≡ 9;
      done : (k : ℕ) → k < l.i → slice_index l.counts k ≡ (if nat_lt k (length levels) then length (level_up levels k) else 0);
      left : (k : ℕ) → l.i ≤ k → slice_index l.counts k ≡ 0;
    }
