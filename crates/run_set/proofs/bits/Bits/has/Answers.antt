use Rattle.std.proofs.Common.{◌≡◌, ℕ, ◌/◌, ◌%◌, ◌<◌, false, eqb, length, get_or, sym, ap, ◌∙◌, arith}
use Rattle.std.specs.Int.{bit_at}
use Rattle.std.proofs.lemmas.Nat.Bits.{shr_and_one}
use Rattle.std.proofs.lemmas.List.{get_or_read}
use Rattle.run_set.proofs.Marked.{length-tests, test-at}
use Rattle.run_set.proofs.bits.Bits.has.Goals as goal

pub index-requires : goal.index-requires
index-requires c =
    let s = c.self.inside in
    omega (arith, c.self.invariant, length-tests s.bound s.words.items, ap length c.self.view_is, s.words.ok.0)

pub returns : goal.returns
returns c =
    let s = c.self.inside in
    let x : ℕ = c.args.number in
    let below : x < s.bound = omega (arith, length-tests s.bound s.words.items, ap length c.self.view_is) in
    let word : c.index.result.now ≡ get_or s.words.items (x / 64) 0 = get_or_read s.words.items (x / 64) _ (omega (arith, c.self.invariant)) c.index.ensures 0 in
    ap (λ b. eqb b 1) (shr_and_one c.index.result.now (x % 64))
    ∙ ap (λ w. eqb (bit_at w (x % 64)) 1) word
    ∙ sym (test-at s.bound s.words.items x false below)
    ∙ ap (λ tests. get_or tests x false) c.self.view_is
