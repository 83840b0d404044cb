use Rattle.std.proofs.Common.{◌≡◌, ℕ, ◌+◌, ◌*◌, ◌<◌, List, IfSome}
use Rattle.disk_base.specs.Image.{bytes_at}
use Rattle.xfs_log.specs.inside.Finding.{FindsNewest}
use Rattle.xfs_log.proofs.finding.with_block.Given as goal

abbrev pub invariant-loop-k : goal.invariant-loop-k
invariant-loop-k l = record {
  inside : IfSome l.fn.best (λ b. b.place < 8 * l.at) → IfSome l.newest (λ b. b.place < 8 * l.at + l.k);
  newest : (sectors : ℕ → List ℕ) → ((k : ℕ) → k < 8 → sectors (8 * l.at + k) ≡ bytes_at l.bytes (512 * k) 512)
      → FindsNewest sectors (8 * l.at) l.fn.best → FindsNewest sectors (8 * l.at + l.k) l.newest;
}
