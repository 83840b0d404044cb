use Rattle.std.proofs.Common.{◌<◌, subst, sym, arith}
use Rattle.std.proofs.lemmas.List.{get_or_default}
use Rattle.xfs_tree.specs.declared.extent.Extent.{Extent}
use Rattle.xfs_inode.proofs.Searches.{covering_none, covering_there}
use Rattle.xfs_inode.proofs.search.covering_by_halves.Goals as goal

pub returns-then-at-extents : goal.returns-then-at-extents
returns-then-at-extents c = sym (covering_none c.args.block c.args.extents.now c.parted_at-at.result c.requires.apart c.parted_at-at.ensures (λ d l. absurd (omega (arith, l, c.if-at-extents.true))))

pub returns-then-block-extent : goal.returns-then-block-extent
returns-then-block-extent c =
    sym (covering_none c.args.block c.args.extents.now c.parted_at-at.result c.requires.apart c.parted_at-at.ensures
    (λ d l. subst (λ (x : Extent). c.args.block < x.file) (get_or_default c.args.extents.now c.parted_at-at.result _ d l) c.if-block-extent.true))

pub returns : goal.returns
returns c =
    let p = c.parted_at-at.ensures in
    sym (covering_there c.args.block c.args.extents.now c.parted_at-at.result _ c.requires.apart p (omega (arith, p.within, c.if-at-extents.false)) c.if-block-extent.false)
