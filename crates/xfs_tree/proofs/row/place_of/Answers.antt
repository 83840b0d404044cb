use Rattle.xfs_super.proofs.Lying.{block_has_group}
use Rattle.xfs_tree.proofs.row.place_of.Goals as goal

pub parted-requires-clause-inside : goal.parted-requires-clause-inside
parted-requires-clause-inside c =
    (block_has_group c.args.geo.now.dblocks c.args.geo.now.agblocks c.args.geo.now.agcount c.args.geo.now.agblklog c.args.at c.args.geo.now.groups c.requires).0
