use Rattle.std.proofs.Common.{◌≡◌, ℕ, ◌+◌, ◌*◌, ap, ◌∙◌, arith}
use Rattle.disk_base.specs.Image.{bytes_at}
use Rattle.xfs_log.specs.Log.{log_first}
use Rattle.xfs_super.specs.Super.{geometry_of}
use Rattle.xfs_log.proofs.place.read_block.Goals as goal

pub returns-clause-bytes : goal.returns-clause-bytes
returns-clause-bytes g c =
    λ t.
    let from : 512 * (8 * (c.log_first.result + c.args.at)) ≡ 4096 * (log_first (geometry_of c.args.geo.now) + c.args.at) = omega (arith, c.log_first.ensures.first) in
    c.in_ok-read.ensures.bytes t
    ∙ ap (λ (n : ℕ). bytes_at (g.B.Blocks.image c.args.disk.now) (512 * (8 * (c.log_first.result + c.args.at))) n) c.told-out
    ∙ ap (λ (n : ℕ). bytes_at (g.B.Blocks.image c.args.disk.now) n 4096) from
