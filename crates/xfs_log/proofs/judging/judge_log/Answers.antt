use Rattle.std.proofs.Common.{ℕ, ◌*◌, List, Option, sym, subst}
use Rattle.std.proofs.lemmas.Bool.{both_ways}
use Rattle.block_claims.specs.Agreement.{block}
use Rattle.xfs_super.specs.Super.{geometry_of}
use Rattle.xfs_log.specs.Log.{log_seen, IsWholeUnmount}
use Rattle.xfs_log.specs.declared.finding.Newest.{Newest}
use Rattle.xfs_log.specs.inside.Finding.{sector_of_log, FindsNewest}
use Rattle.xfs_log.proofs.Sectors.{seen_at}
use Rattle.xfs_log.proofs.Finds.{none_begins, newest_is}
use Rattle.xfs_log.proofs.judging.judge_log.Goals as goal

pub returns-in_default-clause-fault : goal.returns-in_default-clause-fault
returns-in_default-clause-fault g c =
    λ told.
    let geo = geometry_of c.args.geo.now in
    let image = g.B.Blocks.image c.args.disk.now in
    let n : ℕ = 8 * c.args.geo.now.logblocks in
    let are = seen_at c.args.geo.now image (g.B.Blocks.size c.args.disk.now) (g.met.B.Blocks.whole _ told) c.requires.volume in
    none_begins (log_seen geo (block image)) n (sector_of_log geo image) are
    (subst (λ (o : Option Newest). FindsNewest (sector_of_log geo image) n o) c.in_default.is (c.in_ok-found.ensures.newest told))

pub returns-then-not-branch-clause-fault : goal.returns-then-not-branch-clause-fault
returns-then-not-branch-clause-fault g c =
    λ told.
    let geo = geometry_of c.args.geo.now in
    let image = g.B.Blocks.image c.args.disk.now in
    let n : ℕ = 8 * c.args.geo.now.logblocks in
    let are = seen_at c.args.geo.now image (g.B.Blocks.size c.args.disk.now) (g.met.B.Blocks.whole _ told) c.requires.volume in
    let found = subst (λ (o : Option Newest). FindsNewest (sector_of_log geo image) n o) c.in-Some.is (c.in_ok-found.ensures.newest told) in
    let same = g.met.B.Blocks.same_image _ _ c.in_ok-found.ensures.read told in
    record {
      newest = c.in-Some.newest.place;
      is_newest = newest_is (log_seen geo (block image)) n (sector_of_log geo image) are c.in-Some.newest found;
      other = λ whole.
          both_ways _ c.if-not-branch.true
          ((c.in_ok-is_unmount.ensures.whole told).1 (subst (λ (i : List ℕ). IsWholeUnmount (log_seen geo (block i)) c.in-Some.newest.place) (sym same) whole));
    }

pub returns-clause-clean : goal.returns-clause-clean
returns-clause-clean g c =
    λ told.
    let geo = geometry_of c.args.geo.now in
    let image = g.B.Blocks.image c.args.disk.now in
    let n : ℕ = 8 * c.args.geo.now.logblocks in
    let are = seen_at c.args.geo.now image (g.B.Blocks.size c.args.disk.now) (g.met.B.Blocks.whole _ told) c.requires.volume in
    let found = subst (λ (o : Option Newest). FindsNewest (sector_of_log geo image) n o) c.in-Some.is (c.in_ok-found.ensures.newest told) in
    let same = g.met.B.Blocks.same_image _ _ c.in_ok-found.ensures.read told in
    record {
      newest = c.in-Some.newest.place;
      is_newest = newest_is (log_seen geo (block image)) n (sector_of_log geo image) are c.in-Some.newest found;
      unmounted = subst (λ (i : List ℕ). IsWholeUnmount (log_seen geo (block i)) c.in-Some.newest.place) same ((c.in_ok-is_unmount.ensures.whole told).0 c.if-not-branch.false);
    }
