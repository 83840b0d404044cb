use Rattle.std.proofs.Common.{false, ◌≡◌, ℕ, ◌*◌, List, sym, subst}
use Rattle.std.proofs.lemmas.Bool.{false≢true}
use Rattle.block_claims.specs.Agreement.{block}
use Rattle.xfs_super.specs.Super.{geometry_of}
use Rattle.xfs_log.specs.Log.{log_seen}
use Rattle.xfs_log.specs.inside.Finding.{sector_of_log}
use Rattle.xfs_log.specs.inside.Judging.{fits_unmount, IsUnmountIn, HaveDue}
use Rattle.xfs_log.proofs.Sectors.{seen_at}
use Rattle.xfs_log.proofs.Wholes.{no_unmount, whole_is, whole_due}
use Rattle.xfs_log.proofs.judging.is_unmount.Goals as goal

pub returns-in_default-clause-whole : goal.returns-in_default-clause-whole
returns-in_default-clause-whole g c =
    λ told.
    let geo = geometry_of c.args.geo.now in
    let image = g.B.Blocks.image c.args.disk.now in
    let are = seen_at c.args.geo.now image (g.B.Blocks.size c.args.disk.now) (g.met.B.Blocks.whole _ told) c.requires.volume in
    let unfit = subst (λ (n : ℕ). fits_unmount c.read_sector.new.out n ≡ false) c.log_len.ensures c.in_default.ensures in (
      λ e. absurd (false≢true e),
      λ whole. absurd (no_unmount (log_seen geo (block image)) (8 * c.args.geo.now.logblocks) (sector_of_log geo image) are c.args.place c.requires.place c.read_sector.new.out (c.in_ok-read_sector.ensures.bytes told) unfit whole),
    )

pub returns-clause-whole : goal.returns-clause-whole
returns-clause-whole g c =
    λ told.
    let geo = geometry_of c.args.geo.now in
    let image = g.B.Blocks.image c.args.disk.now in
    let u = c.in-Some.unmount in
    let are = seen_at c.args.geo.now image (g.B.Blocks.size c.args.disk.now) (g.met.B.Blocks.whole _ told) c.requires.volume in
    let found = subst (λ (n : ℕ). IsUnmountIn c.read_sector.new.out c.args.place n u) c.log_len.ensures c.in-Some.ensures in
    let same = g.met.B.Blocks.same_image _ _ c.in_ok-read_sector.ensures.read told in
    let here = c.in_ok-read_sector.ensures.bytes told in
    let answer = c.in_ok-whole.ensures.whole told in (
      λ e. whole_is (log_seen geo (block image)) (8 * c.args.geo.now.logblocks) (sector_of_log geo image) are c.args.place c.requires.place c.read_sector.new.out here u found
          (subst (λ (i : List ℕ). HaveDue (sector_of_log geo i) u u.sectors) same (answer.0 e)),
      λ whole. answer.1
          (subst (λ (i : List ℕ). HaveDue (sector_of_log geo i) u u.sectors) (sym same)
          (whole_due (log_seen geo (block image)) (8 * c.args.geo.now.logblocks) (sector_of_log geo image) are c.args.place c.requires.place c.read_sector.new.out here u found whole)),
    )
