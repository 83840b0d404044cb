use Rattle.std.proofs.Common.{◌≡◌, ℕ, ◌*◌, List, take, length, ap, ◌∙◌, arith}
use Rattle.std.proofs.lemmas.List.{length-take-le}
use Rattle.disk_base.specs.Image.{bytes_at}
use Rattle.disk_base.proofs.Images.{length-range}
use Rattle.xfs_super.proofs.Placed.{header_stands}
use Rattle.xfs_super.specs.Geometry.{header_sector}
use Rattle.xfs_super.specs.Super.{geometry_of}
use Rattle.xfs_check.proofs.Heads.{front_of}
use Rattle.xfs_check.proofs.head.read_header.Goals as goal

pub returns-clause-bytes : goal.returns-clause-bytes
returns-clause-bytes g c = λ told.
    let s = c.args.geo.now in
    let n : ℕ = s.sectsize in
    let image = g.B.Blocks.image c.args.disk.now in
    let at : ℕ = header_sector (geometry_of s) c.args.group c.args.k in
    let part : length (take n c.args.out.now) ≡ n = length-take-le n c.args.out.now (omega (arith, s.sizes.sector_most, c.fits-out)) in
    let out : c.read.new.out ≡ bytes_at image (512 * at) n =
    c.in_ok-read.ensures.bytes told ∙ ap (λ (m : ℕ). bytes_at image (512 * c.header_sector.result) m) part ∙ ap (λ (m : ℕ). bytes_at image (512 * m) n) c.header_sector.ensures.sector in
    let whole : length image ≡ 512 * g.B.Blocks.size c.args.disk.now = g.met.B.Blocks.whole c.args.disk.now told in
    let long : length c.read.new.out ≡ n =
    ap (λ (l : List ℕ). length l) out ∙ length-range image (512 * at) n
    ∙ omega (arith, whole, c.header_sector.ensures.inside, c.header_sector.ensures.sector, c.requires.volume) in
    front_of n c.read.new.out _ long ∙ out ∙ header_stands image (geometry_of s) c.args.group c.args.k s.sizes.sector c.requires.few
