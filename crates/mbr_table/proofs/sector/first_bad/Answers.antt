use Rattle.std.proofs.Common.{arith, below_more, ◌∙◌, sym, length, ◌<◌}
use Rattle.mbr_table.proofs.Steps.{seen_more, not_bad}
use Rattle.mbr_table.proofs.sector.first_bad.Goals as goal

pub loop-i-preserved : goal.loop-i-preserved
loop-i-preserved c =
    let lt : c.loop-i.i < length c.args.slots.now = omega arith in
    record {
      seen = seen_more c.args.slots.now c.loop-i.i _ _ _ lt c.loop-i.invariant.seen c.holds_extended-extended.ensures;
      none_bad = below_more _ _ c.loop-i.invariant.none_bad
          (not_bad c.args.sectors c.args.slots.now c.loop-i.i _ c.loop-i.extended lt c.loop-i.invariant.seen (sym c.is_bad.ensures ∙ c.if-is_bad.false));
    }
