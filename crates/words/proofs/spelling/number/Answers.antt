use Rattle.std.proofs.Common.{◌≡◌, ◌<◌, ◌*◌, ◌+◌, ◌-◌, take, get_or, arith, ap, ◌∙◌, sym}
use Rattle.std.proofs.lemmas.Grind.{common_steps}
use Rattle.std.proofs.lemmas.List.Sums.{fold_more}
use Rattle.words.proofs.Powers.{next_power, power_fits}
use Rattle.words.specs.Numbers.{spelled_number, with_digit}
use Rattle.words.proofs.spelling.number.Goals as goal

pub overflow_mul-number : goal.overflow_mul-number
overflow_mul-number c = omega (arith, power_fits c.loop-byte.byte-index (omega arith))

pub overflow_add-number : goal.overflow_add-number
overflow_add-number c = omega (arith, power_fits c.loop-byte.byte-index (omega arith))

pub loop-byte-preserved : goal.loop-byte-preserved
loop-byte-preserved c =
    let i = c.loop-byte.byte-index in
    let ds = c.args.digits.now in
    let more = fold_more with_digit 0 ds i 0 c.loop-byte-test.true in
    let is : c.from.result ≡ get_or ds i 0 - 48 = c.from.ensures ∙ c.saturating_sub.ensures in
    let byte : get_or ds i 0 < 256 = omega (arith, c.type_inv.digits i) in
    record {
      value = ap (λ n. 10 * n + c.from.result) c.loop-byte.invariant.value ∙ ap (λ d. 10 * spelled_number (take i ds) + d) is ∙ sym more;
      small = omega (arith, next_power c.loop-byte.number (get_or ds i 0) i c.loop-byte.invariant.small byte);
    }

pub returns-clause-value : goal.returns-clause-value
returns-clause-value c = grind (arith, common_steps)
