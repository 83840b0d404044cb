use Rattle.std.proofs.Common.{◌≡◌, ◌+◌, ◌-◌, ◌*◌, ◌∙◌, ap, sym, arith, below_more, get_or, None, refl}
use Rattle.gpt_table.specs.Entry.{slot_at, is_bad}
use Rattle.gpt_table.proofs.Readings.{first_bad, slot_here}
use Rattle.gpt_table.proofs.reading.list.Goals as goal

pub returns-then-is_bad-clause-fault : goal.returns-then-is_bad-clause-fault
returns-then-is_bad-clause-fault c =
    first_bad c.args.header.now c.args.array.now c.loop-number.number c.slot_in-slot.result (omega arith)
    (c.slot_in-slot.ensures ∙ slot_here c.args.array.now c.loop-number.number (c.loop-number.number * 128) (c.loop-number.number * 128 + 128 - c.loop-number.number * 128) (omega arith) (omega arith))
    (sym c.is_bad.ensures ∙ c.if-is_bad.true)
    c.loop-number.invariant.none_bad

pub loop-number-preserved : goal.loop-number-preserved
loop-number-preserved c =
    let here : c.slot_in-slot.result ≡ slot_at c.args.array.now c.loop-number.number =
    c.slot_in-slot.ensures ∙ slot_here c.args.array.now c.loop-number.number (c.loop-number.number * 128) (c.loop-number.number * 128 + 128 - c.loop-number.number * 128) (omega arith) (omega arith) in
    let last : get_or c.push.new.self.items c.loop-number.number None ≡ c.slot_in-slot.result =
    ap (λ k. get_or c.push.new.self.items k None) (sym c.loop-number.invariant.count) ∙ c.in_ok-push.ensures.by_index.1 None refl in
    record {
      count = omega (arith, c.in_ok-push.ensures.len, c.loop-number.invariant.count);
      each = below_more _ _ (λ k lt. c.in_ok-push.ensures.by_index.0 k None (omega (arith, c.loop-number.invariant.count)) ∙ c.loop-number.invariant.each k lt) (last ∙ here);
      none_bad = below_more _ _ c.loop-number.invariant.none_bad (ap (is_bad c.args.header.now.first c.args.header.now.last) (sym here) ∙ sym c.is_bad.ensures ∙ c.if-is_bad.false);
    }
