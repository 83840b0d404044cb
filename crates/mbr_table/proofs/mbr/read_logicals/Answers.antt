use Rattle.std.proofs.Common.{sym, ◌∙◌}
use Rattle.mbr_table.proofs.Tables.{found_bounds}
use Rattle.mbr_table.proofs.mbr.read_logicals.Goals as goal

pub read_chain-requires-clause-on_disk : goal.read_chain-requires-clause-on_disk
read_chain-requires-clause-on_disk g c =
    (found_bounds (g.B.Blocks.size c.args.disk.now) c.args.slots.now c.in-Some.extended (sym c.extended_in.ensures ∙ c.in-Some.is) c.requires.sound).1
