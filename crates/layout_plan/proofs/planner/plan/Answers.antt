use Rattle.std.proofs.Common.{◌≡◌, ◌≤◌, ℕ, List, arith, subst, sym, ◌∙◌}
use Rattle.std.proofs.lemmas.Result.{err_from_is_err_and}
use Rattle.layout_plan.specs.declared.wish.Wish.{Wish}
use Rattle.layout_plan.specs.Faults.{PassesRules}
use Rattle.layout_plan.specs.Layouts.{last_end}
use Rattle.layout_plan.specs.Plans.{ArePlaced, IsExtra, IsRight}
use Rattle.layout_plan.specs.Tables.{HasRoom, floor_of, limit_of}
use Rattle.layout_plan.specs.Wishes.{flexible_part, settled}
use Rattle.layout_plan.proofs.Inside.{limit_inside}
use Rattle.layout_plan.proofs.Lengths.{some_wanted}
use Rattle.layout_plan.proofs.Refused.{refused_length, refused_wish}
use Rattle.layout_plan.proofs.Same.{in_same_order}
use Rattle.layout_plan.proofs.Sound.{all_inside, all_keep_apart, are_from, are_numbered, extra_behind}
use Rattle.layout_plan.proofs.planner.plan.Goals as goal

pub returns-in_err-judge_wishes-clause-none : goal.returns-in_err-judge_wishes-clause-none
returns-in_err-judge_wishes-clause-none c =
    let p = err_from_is_err_and c.from_residual.result c.from_residual.ensures.1 in
    let room : HasRoom c.args.kind c.args.sectors = record { enough = omega (arith, c.least_sectors.ensures); not_too_many = omega arith } in
    rw (p.1, p.2)
    (refused_wish c.args.kind c.args.parts.now c.args.wishes.now c.args.layout.now c.args.sectors room c.in_err-judge_wishes.field-0.0 c.in_err-judge_wishes.ensures.fault)

pub returns-in_err-judge_lengths-clause-none : goal.returns-in_err-judge_lengths-clause-none
returns-in_err-judge_lengths-clause-none c =
    let p = err_from_is_err_and c.from_residual-in_err-judge_lengths.result c.from_residual-in_err-judge_lengths.ensures.1 in
    let room : HasRoom c.args.kind c.args.sectors = record { enough = omega (arith, c.least_sectors.ensures); not_too_many = omega arith } in
    rw (p.1, p.2)
    (refused_length c.args.kind c.args.parts.now c.args.wishes.now c.args.layout.now c.args.sectors room c.in_ok-judge_wishes.ensures.fine
    c.in_err-judge_lengths.field-0.0 c.in_err-judge_lengths.ensures.fault)

pub returns : goal.returns
returns c =
    let kind = c.args.kind in
    let parts = c.args.parts.now in
    let wishes = c.args.wishes.now in
    let layout = c.args.layout.now in
    let source = c.requires.source in
    let out = c.in_ok-laid.ensures.flexed in
    let sectors = c.in_ok-laid.laid.sectors in
    let laid = c.in_ok-laid.laid.parts.items in
    let spots = c.in_ok-laid.laid.spots.items in
    let last = c.in_ok-laid.laid.last in
    let placed = c.in_ok-placed.placed.items in
    let fine = c.in_ok-judge_wishes.ensures.fine in
    let order = out.laid_out.order in
    let is_last : last ≡ last_end (floor_of kind) spots = out.laid_out.is_last in
    let is_limit : c.limit.result ≡ limit_of kind c.args.sectors = c.limit.ensures in
    let new_limit : c.new.result.limit ≡ limit_of kind c.args.sectors = c.new.ensures.limit ∙ is_limit in
    let fits : last_end (floor_of kind) spots ≤ limit_of kind c.args.sectors = omega (arith, is_last, is_limit, out.fits) in
    let room : HasRoom kind c.args.sectors = record { enough = omega (arith, c.least_sectors.ensures); not_too_many = omega arith } in
    let due : PassesRules kind parts wishes c.args.sectors = record { room = room; asked = fine; lengths = c.in_ok-judge_lengths.ensures.fine } in
    let Right : ℕ → Type 0 = λ limit. IsRight kind parts wishes layout limit sectors (flexible_part wishes parts) in
    let right = subst Right is_limit out.right in
    let Are : List Wish → Type 0 = λ all. ArePlaced all parts laid spots placed in
    let are : ArePlaced (settled sectors wishes) parts laid spots placed = subst Are out.laid_out.same_wishes c.in_ok-placed.ensures in
    let some = some_wanted kind parts wishes layout c.args.sectors (limit_of kind c.args.sectors) sectors due right in
    let Extra : ℕ → Type 0 = λ limit. IsExtra kind layout (last_end (floor_of kind) spots) placed limit c.new.result.extra in
    let extra : IsExtra kind layout (last_end (floor_of kind) spots) placed (limit_of kind c.args.sectors) c.new.result.extra =
    subst Extra is_limit (rw (is_last, c.deref.ensures.value, sym c.new.ensures.extra) at c.extra_part-extra.ensures) in
    record {
      plan = record {
        due = due;
        sectors = sectors;
        right = right;
        laid = laid;
        spots = spots;
        order = order;
        fits = fits;
        placed = rw c.new.ensures.parts are;
        is_limit = new_limit;
        is_extra = rw (c.new.ensures.parts, new_limit) extra;
      };
      none = tt;
      froms = rw c.new.ensures.parts (are_from kind parts source wishes fine layout sectors laid spots order some placed are);
      numbers = rw c.new.ensures.parts (are_numbered kind parts source wishes fine layout sectors laid spots order some placed are);
      same_order = λ unwished plain.
          let Unwished : List Wish → Type 0 = λ ws. ArePlaced (settled sectors ws) parts laid spots placed in
          rw c.new.ensures.parts (in_same_order parts laid spots placed plain (subst Unwished unwished are));
      apart = rw c.new.ensures.parts (all_keep_apart kind parts source wishes fine layout sectors laid spots order some placed are);
      inside = rw (c.new.ensures.parts, new_limit) (all_inside kind parts source wishes fine layout sectors laid spots order some placed are (limit_of kind c.args.sectors) fits);
      behind = rw (c.new.ensures.parts, new_limit)
          (extra_behind kind parts source wishes fine layout sectors laid spots order some placed are (limit_of kind c.args.sectors) c.new.result.extra extra);
      limit = omega (arith, new_limit, limit_inside kind c.args.sectors);
    }
