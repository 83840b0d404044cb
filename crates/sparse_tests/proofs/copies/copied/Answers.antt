use Rattle.std.proofs.Common.{ℕ, ◌≡◌, ◌*◌, replicate, subst, sym}
use Rattle.sparse_tests.proofs.copies.copied.Goals as goal

pub copy_out-requires-clause-blank : goal.copy_out-requires-clause-blank
copy_out-requires-clause-blank g c =
    λ t. subst (λ (n : ℕ). g.T.Blocks.image c.attach.new.self ≡ replicate {A = ℕ} (512 * n) 0) (sym c.in-Ok.ensures.created) (c.in-Ok.ensures.blank t)
