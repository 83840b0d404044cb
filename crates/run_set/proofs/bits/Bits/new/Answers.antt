use Rattle.std.proofs.Common.{◌≡◌, ℕ, ◌+◌, ◌/◌, List, replicate, ap, ◌∙◌, arith}
use Rattle.run_set.specs.inside.Words.{tests_of}
use Rattle.run_set.proofs.Marked.{tests_empty}
use Rattle.run_set.proofs.bits.Bits.new.Goals as goal

pub returns : goal.returns
returns c =
    let words : List ℕ = c.in_ok-words.words.items in
    let zeros : words ≡ replicate (c.args.bound / 64 + 1) 0 = c.in_ok-words.ensures in
    ap (tests_of c.args.bound) zeros ∙ tests_empty c.args.bound (c.args.bound / 64 + 1) (omega arith)
