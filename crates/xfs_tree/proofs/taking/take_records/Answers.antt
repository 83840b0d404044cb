use Rattle.std.proofs.Common.{◌≡◌, ℕ, ◌+◌, ◌-◌, ◌<◌, true, false, List, [], ◌∷◌, ◌++◌, length, get_or, map, IsTrue, sym, ap, subst, ◌∙◌, arith, append_assoc}
use Rattle.std.specs.List.{All, range_with_len}
use Rattle.std.proofs.lemmas.List.Elements.{All-push}
use Rattle.std.proofs.lemmas.List.FromFn.{map-range_with_len_more}
use Rattle.xfs_super.specs.Super.{geometry_of}
use Rattle.xfs_tree.specs.inside.Rows.{setting_of_row}
use Rattle.xfs_tree.specs.Form.{Setting}
use Rattle.xfs_tree.specs.Block.{Sight, block_seen, record_at}
use Rattle.xfs_tree.specs.inside.Reading.{IsOutBehind}
use Rattle.xfs_tree.specs.Tree.{AreInOrder}
use Rattle.xfs_tree.proofs.Blocks.{record_outside, records_are, spells_judged}
use Rattle.xfs_tree.proofs.Orders.{in_order_more, out_behind}
use Rattle.xfs_tree.proofs.taking.take_records.Goals as goal

pub returns-then-not-inside-clause-fault : goal.returns-then-not-inside-clause-fault
returns-then-not-inside-clause-fault g c =
    let t : Setting g.row.R.Denot = setting_of_row g.R.Record.form c.args.row.now in
    let lt : c.loop-i.i < c.args.count = omega arith in (
      (c.place_of-place.ensures.group, c.place_of-place.ensures.block),
      record_outside t (geometry_of c.args.row.now.geo) c.args.row.now.height c.args.row.now.least c.args.at c.args.bytes.now c.loop-i.i c.record_in-record.result c.requires.leaf (omega (arith, lt, c.requires.judged.count_is)) c.record_in-record.ensures.record_is (sym c.inside.ensures ∙ c.if-not-inside.true),
    )

pub returns-then-not-follows-clause-fault : goal.returns-then-not-follows-clause-fault
returns-then-not-follows-clause-fault g c =
    let t : Setting g.row.R.Denot = setting_of_row g.R.Record.form c.args.row.now in
    let s : Sight = block_seen c.args.row.now.height c.args.row.now.least c.args.at c.args.bytes.now in
    let lt : c.loop-i.i < c.args.count = omega arith in
    let behind : (0 < length c.items.result.now) × ((d : g.row.R.Denot) → g.R.Record.form.before (get_or c.items.result.now (length c.items.result.now - 1) d) c.record_in-record.result ≡ false) = c.follows.ensures.no c.if-not-follows.true in (
      (c.place_of-place.ensures.group, c.place_of-place.ensures.block),
      subst (λ (l : List g.row.R.Denot). IsOutBehind g.R.Record.form c.args.records.now (c.args.records.now ++ l)) (sym (records_are t s (spells_judged t s c.args.count c.requires.judged)))
          (out_behind g.R.Record.form c.args.records.now c.items.result.now c.args.bytes.now c.loop-i.i c.record_in-record.result (omega (arith, lt, c.requires.judged.count_is)) c.record_in-record.ensures.record_is (c.items.ensures ∙ c.loop-i.invariant.records) behind.0 behind.1),
    )

pub loop-i-preserved : goal.loop-i-preserved
loop-i-preserved g c =
    let f : ℕ → g.row.R.Denot = record_at g.R.Record.form c.args.bytes.now in
    let so_far : List g.row.R.Denot = map f (range_with_len 0 c.loop-i.i) in
    let step : so_far ++ c.record_in-record.result ∷ [] ≡ map f (range_with_len 0 (c.loop-i.i + 1)) =
    ap (λ r. so_far ++ r ∷ []) c.record_in-record.ensures.record_is ∙ sym (map-range_with_len_more f 0 c.loop-i.i c.loop-i.i (omega arith)) in
    let last : 0 < length c.loop-i.records → (d : g.row.R.Denot) → g.R.Record.form.before (get_or c.loop-i.records (length c.loop-i.records - 1) d) c.record_in-record.result ≡ true =
    subst (λ (l : List g.row.R.Denot). 0 < length l → (d : g.row.R.Denot) → g.R.Record.form.before (get_or l (length l - 1) d) c.record_in-record.result ≡ true) c.items.ensures (c.follows.ensures.yes c.if-not-follows.false) in
    record {
      records = c.in_ok-push.ensures.ok ∙ ap (λ l. l ++ c.record_in-record.result ∷ []) c.loop-i.invariant.records ∙ append_assoc c.args.records.now so_far (c.record_in-record.result ∷ []) ∙ ap (λ l. c.args.records.now ++ l) step;
      inside = subst (λ l. All (λ r. IsTrue (g.R.Record.form.inside (geometry_of c.args.row.now.geo) c.args.row.now.group r)) l) step (All-push (λ r. IsTrue (g.R.Record.form.inside (geometry_of c.args.row.now.geo) c.args.row.now.group r)) so_far c.record_in-record.result c.loop-i.invariant.inside (sym c.inside.ensures ∙ c.if-not-inside.false));
      order = subst (λ l. AreInOrder g.R.Record.form l) (sym c.in_ok-push.ensures.ok) (in_order_more g.R.Record.form c.loop-i.records c.record_in-record.result c.loop-i.invariant.order last);
      lie = subst (λ l. All (λ r. IsTrue (g.R.Record.form.inside (geometry_of c.args.row.now.geo) c.args.row.now.group r)) l) (sym c.in_ok-push.ensures.ok) (All-push (λ r. IsTrue (g.R.Record.form.inside (geometry_of c.args.row.now.geo) c.args.row.now.group r)) c.loop-i.records c.record_in-record.result c.loop-i.invariant.lie (sym c.inside.ensures ∙ c.if-not-inside.false));
      fits = subst (λ l. All (λ r. IsTrue (g.R.Record.form.fits r)) l) (sym c.in_ok-push.ensures.ok) (All-push (λ r. IsTrue (g.R.Record.form.fits r)) c.loop-i.records c.record_in-record.result c.loop-i.invariant.fits c.record_in-record.ensures.fits);
    }
