use Rattle.std.proofs.Common.{◌≡◌, List, ℕ, subst, sym, ap, ◌∙◌}
use Rattle.byteorder.specs.Endian.{little_bytes}
use Rattle.disk_base.specs.Image.{with_bytes}
use Rattle.disk_fixtures.specs.Sums.{IsSummed}
use Rattle.disk_fixtures.proofs.Sums.{summed}
use Rattle.disk_fixtures.proofs.xfs.resum.Goals as goal

pub returns-clause-summed : goal.returns-clause-summed
returns-clause-summed c =
    let written : c.put.new.out ≡ with_bytes c.args.bytes.now c.args.at (little_bytes 4 c.crc32c_without-sum.result) =
    c.put.ensures.written ∙ ap (λ (l : List ℕ). with_bytes c.args.bytes.now c.args.at l) c.to_le_bytes.ensures in
    subst (λ (l : List ℕ). IsSummed c.args.at l) (sym written)
    (summed c.args.bytes.now c.args.at c.crc32c_without-sum.result c.requires c.crc32c_without-sum.type_inv c.crc32c_without-sum.ensures)
