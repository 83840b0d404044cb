use Rattle.std.proofs.Common.{◌≡◌, ◌*◌, ◌==◌, ℕ, length, sym, ap, ◌∙◌, arith}
use Rattle.volume_content.proofs.Firsts.{magic_read, no_magic}
use Rattle.volume_content.proofs.reading.has_xfs_magic.Goals as goal

pub returns-then-sectors-eq0-clause-magic : goal.returns-then-sectors-eq0-clause-magic
returns-then-sectors-eq0-clause-magic g c = λ told.
    let d = c.args.disk.now in
    let whole : length (g.B.Blocks.image d) ≡ 512 * g.B.Blocks.size d = g.met.B.Blocks.whole d told in
    sym (no_magic (g.B.Blocks.image d) (omega (arith, whole, c.sectors.ensures, c.if-sectors-eq0.true)))

pub returns-clause-magic : goal.returns-clause-magic
returns-clause-magic g c = λ told.
    ap (λ (n : ℕ). n == 0x58465342) c.big_u32.ensures ∙ magic_read (g.B.Blocks.image c.args.disk.now) c.read.new.out (c.in_ok-read.ensures.bytes told)
