use Rattle.std.proofs.Common.{ℕ, eq-eqb, eqb-true, subst}
use Rattle.disk_base.specs.Checksum.{IsCrc32}
use Rattle.disk_base.proofs.Checksums.{one_crc32}
use Rattle.gpt_table.proofs.header.Header.has_right_checksum.Goals as goal

pub returns : goal.returns
returns c = (
  λ same. subst (λ (n : ℕ). IsCrc32 c.args.self.now.covered n) (eqb-true _ _ same) c.crc32.ensures.sum,
  λ is. eq-eqb _ _ (one_crc32 c.args.self.now.covered _ _ c.crc32.ensures.sum is),
)
