use Rattle.std.proofs.Common.{◌≡◌, ℕ, ◌-◌, List, length, take, drop, sym, subst, ◌∙◌, arith}
use Rattle.std.proofs.lemmas.Bool.{false≢true}
use Rattle.std.proofs.lemmas.List.{take_all, length-drop}
use Rattle.std.proofs.lemmas.List.Elements.{All-drop}
use Rattle.run_set.proofs.Masked.{AreZero, zero_on, zero_in, zero_whole}
use Rattle.run_set.proofs.zero.all_zero.Goals as goal

pub loop-at-preserved : goal.loop-at-preserved
loop-at-preserved c =
    let xs : List ℕ = c.args.bytes.now in
    (omega arith, zero_on c.loop-at.at 64 xs c.loop-at.invariant.1 (c.vector_is_zero.ensures.0 c.if-not-vector_is_zero.false))

pub returns-then-not-vector_is_zero : goal.returns-then-not-vector_is_zero
returns-then-not-vector_is_zero c =
    (λ f. absurd (false≢true f), λ all. sym c.if-not-vector_is_zero.true ∙ c.vector_is_zero.ensures.1 (zero_in c.loop-at.at 64 c.args.bytes.now all))

pub returns : goal.returns
returns c =
    let xs : List ℕ = c.args.bytes.now in
    let at : ℕ = c.loop-at.at in
    let rest : take (length xs - at) (drop at xs) ≡ drop at xs = take_all (length xs - at) (drop at xs) (omega (arith, length-drop at xs)) in
    (λ zero. zero_whole at xs c.loop-at.invariant.1 (subst AreZero rest (c.is_zero.ensures.0 zero)), λ all. c.is_zero.ensures.1 (subst AreZero (sym rest) (All-drop (λ x. x ≡ 0) at xs all)))
