use Rattle.std.proofs.Common.{◌≡◌, IsTrue, sym, ap, ◌∙◌, subst, rules}
use Rattle.std.proofs.lemmas.Bool.{false≢true}
use Rattle.mbr_table.specs.declared.slot.Slot.{Slot}
use Rattle.mbr_table.specs.Signature.{HasSignature}
use Rattle.mbr_table.specs.Slot.{is_used}
use Rattle.mbr_table.specs.Chain.{own_of, own_logical, LiesBehind}
use Rattle.mbr_table.proofs.chain.judge_record.Goals as goal
use Rattle.mbr_table.proofs.chain.judge_record.Goals.{else-is_used-via-then-is_used+else-not-lies_behind, else-is_used-via-else-is_used}

pub returns-then-not-lies_behind : goal.returns-then-not-lies_behind
returns-then-not-lies_behind c = λ good.
    let own-is : c.own_in-own.result ≡ own_of c.args.sector.now = c.own_in-own.ensures in
    let used : IsTrue (is_used (own_of c.args.sector.now)) = ap is_used (sym own-is) ∙ sym c.is_used.ensures ∙ c.if-is_used.true in
    let lies : LiesBehind c.args.extended.now c.args.at c.own_in-own.result = subst (λ (s : Slot). LiesBehind c.args.extended.now c.args.at s) (sym own-is) (good.own used) in
    let yes : IsTrue c.lies_behind.result = c.lies_behind.ensures.1 lies in
    search rules

pub returns : goal.returns
returns c =
    let own-is : c.own_in-own.result ≡ own_of c.args.sector.now = c.own_in-own.ensures in
    let signed : HasSignature c.args.sector.now = c.has_signature.ensures.0 (search rules) in
    let lies : IsTrue (is_used (own_of c.args.sector.now)) → LiesBehind c.args.extended.now c.args.at (own_of c.args.sector.now) =
    elim c.else-is_used.branch [
      | else-is_used-via-then-is_used+else-not-lies_behind w ↦ λ used.
          subst (λ (s : Slot). LiesBehind c.args.extended.now c.args.at s) own-is (w.lies_behind.ensures.0 (search rules))
      | else-is_used-via-else-is_used w ↦ λ used.
          absurd (false≢true (sym w.if-is_used.false ∙ c.is_used.ensures ∙ ap is_used own-is ∙ used))
    ] in
    record {
      good = record { inside = c.requires.inside; signature = signed; own = lies };
      logical = c.logical_in.ensures ∙ ap (own_logical c.args.at) own-is;
      next = c.next_in.ensures;
    }
