use Rattle.std.proofs.Common.{◌≡◌, ℕ, ◌*◌, ap, ◌∙◌, arith}
use Rattle.disk_base.specs.Image.{bytes_at}
use Rattle.xfs_files.proofs.place.read_block.Goals as goal

pub returns-clause-bytes : goal.returns-clause-bytes
returns-clause-bytes g c =
    λ t.
    let from : 512 * c.sector_of.result ≡ 4096 * c.args.at = omega (arith, c.sector_of.ensures) in
    c.in_ok-read.ensures.bytes t
    ∙ ap (λ (n : ℕ). bytes_at (g.B.Blocks.image c.args.disk.now) (512 * c.sector_of.result) n) c.told-out
    ∙ ap (λ (n : ℕ). bytes_at (g.B.Blocks.image c.args.disk.now) n 4096) from
