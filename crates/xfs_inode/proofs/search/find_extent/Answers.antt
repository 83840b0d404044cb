use Rattle.std.proofs.Common.{IsTrue}
use Rattle.xfs_super.specs.Super.{geometry_of}
use Rattle.xfs_tree.specs.Records.{by_file}
use Rattle.xfs_inode.proofs.Searches.{apart_in_order, found_covers, found_has}
use Rattle.xfs_inode.proofs.search.find_extent.Goals as goal

pub covering_by_halves-requires : goal.covering_by_halves-requires
covering_by_halves-requires c = record { apart = apart_in_order c.args.extents.now c.requires.order }

pub returns-clause-covers : goal.returns-clause-covers
returns-clause-covers c = found_covers c.args.block c.args.extents.now c.covering_by_halves.result c.covering_by_halves.ensures

pub returns-clause-inside : goal.returns-clause-inside
returns-clause-inside c = found_has c.args.block (λ e. IsTrue (by_file.inside (geometry_of c.args.geo.now) 0 e)) c.args.extents.now c.covering_by_halves.result c.requires.inside c.covering_by_halves.ensures
