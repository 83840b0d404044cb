use Rattle.std.proofs.Common.{ℕ, ◌*◌, ◌<◌, ap, sym, subst, ◌∙◌}
use Rattle.xfs_super.proofs.Lying.{block_has_group}
use Rattle.xfs_tree.proofs.Claims.{place_number}
use Rattle.xfs_tree.proofs.row.sector_of.Goals as goal

pub sector_of-requires : goal.sector_of-requires
sector_of-requires c =
    subst (λ (n : ℕ). n < c.args.geo.now.agcount) (sym c.place_of-place.ensures.group)
    (block_has_group c.args.geo.now.dblocks c.args.geo.now.agblocks c.args.geo.now.agcount c.args.geo.now.agblklog c.args.at c.args.geo.now.groups c.requires).0

pub returns : goal.returns
returns c =
    c.sector_of.ensures ∙ ap (λ (n : ℕ). 8 * n) (place_number c.args.geo.now.agblocks c.place_of-place.result.group c.place_of-place.result.block c.args.at c.place_of-place.ensures.group c.place_of-place.ensures.block)
