use Rattle.std.proofs.Common.{rules, ◌≡◌, None, inl, inr, arith, sym, ◌∙◌, ap}
use Rattle.std.proofs.lemmas.Bool.{cases_lt}
use Rattle.std.proofs.lemmas.List.{get_or_default}
use Rattle.layout_plan.specs.declared.part.Part.{Part}
use Rattle.layout_plan.specs.Faults.{length_fault}
use Rattle.layout_plan.proofs.wishing.judge_lengths.Goals as goal

pub loop-part-preserved : goal.loop-part-preserved
loop-part-preserved c = λ k d within.
    elim (cases_lt k c.loop-part.part-index) [
      | inl before ↦ c.loop-part.invariant k d before
      | inr here ↦
          let place : k ≡ c.loop-part.part-index = omega arith in
          let none : c.length_fault.result ≡ None = search rules in
          let same = get_or_default c.args.parts.now c.loop-part.part-index d _ c.loop-part-test.true in
          rw place (ap (λ (part : Part). length_fault c.args.wishes.now part) same ∙ sym c.length_fault.ensures ∙ none)
    ]
