use Rattle.std.proofs.Common.{◌≡◌, ℕ, ◌/◌, ◌%◌, ◌<◌, true, length, get_or, set, ap, ◌∙◌, arith}
use Rattle.std.proofs.lemmas.List.{get_or_read}
use Rattle.run_set.specs.inside.Words.{tests_of}
use Rattle.run_set.proofs.Marked.{length-tests, with_bit, tests_more}
use Rattle.run_set.proofs.bits.Bits.take.Goals as goal

pub index_mut-requires : goal.index_mut-requires
index_mut-requires c =
    let s = c.self.inside in
    omega (arith, c.self.invariant, length-tests s.bound s.words.items, ap length c.self.view_is, s.words.ok.0)

pub returns-clause-added : goal.returns-clause-added
returns-clause-added c =
    let s = c.self.inside in
    let x : ℕ = c.args.number in
    let below : x < s.bound = omega (arith, length-tests s.bound s.words.items, ap length c.self.view_is) in
    let word : c.index_mut.result.now ≡ get_or s.words.items (x / 64) 0 = get_or_read s.words.items (x / 64) _ (omega (arith, c.self.invariant)) c.index_mut.ensures.value 0 in
    ap (λ w. tests_of s.bound (set s.words.items (x / 64) (with_bit w (x % 64)))) word
    ∙ tests_more s.bound s.words.items x below c.self.invariant
    ∙ ap (λ tests. set tests x true) c.self.view_is
