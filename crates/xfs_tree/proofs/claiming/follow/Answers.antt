use Rattle.std.proofs.Common.{arith}
use Rattle.xfs_super.specs.Super.{geometry_of}
use Rattle.xfs_tree.specs.inside.Rows.{setting_of_row}
use Rattle.xfs_tree.proofs.Blocks.{home_outside}
use Rattle.xfs_tree.proofs.claiming.follow.Goals as goal

pub returns-then-home-from-clause-outside : goal.returns-then-home-from-clause-outside
returns-then-home-from-clause-outside g c =
    λ none.
    home_outside (setting_of_row g.R.Record.form c.args.row.now) (geometry_of c.args.row.now.geo) c.args.pointer c.target-home.result.0 c.args.row.now.geo.agcount c.args.row.now.geo.groups.all c.target-home.ensures.group (omega arith)
