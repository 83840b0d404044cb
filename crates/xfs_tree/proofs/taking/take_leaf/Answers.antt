use Rattle.std.proofs.Common.{List, ◌++◌, sym, ap, ◌∙◌}
use Rattle.xfs_super.specs.Super.{geometry_of}
use Rattle.xfs_tree.specs.inside.Rows.{setting_of_row}
use Rattle.xfs_tree.specs.Form.{Setting}
use Rattle.xfs_tree.specs.Block.{Sight, block_seen}
use Rattle.xfs_tree.proofs.Blocks.{sound_leaf, records_are, spells_judged}
use Rattle.xfs_tree.proofs.taking.take_leaf.Goals as goal

pub returns-clause-leaf : goal.returns-clause-leaf
returns-clause-leaf g c =
    let t : Setting g.row.R.Denot = setting_of_row g.R.Record.form c.args.row.now in
    let s : Sight = block_seen c.args.row.now.height c.args.row.now.least c.args.at c.args.bytes.now in
    record {
      sound = sound_leaf t (geometry_of c.args.row.now.geo) c.args.row.now.height c.args.row.now.least c.args.at c.args.bytes.now c.in_ok-count.count c.requires.leaf c.in_ok-count.ensures.judged c.in_ok-take_records.ensures.inside;
      records_are = c.in_ok-take_records.ensures.records ∙ ap (λ (l : List g.row.R.Denot). c.args.records.now ++ l) (sym (records_are t s (spells_judged t s c.in_ok-count.count c.in_ok-count.ensures.judged)));
    }
