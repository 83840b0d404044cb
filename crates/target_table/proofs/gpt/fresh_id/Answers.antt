use Rattle.std.proofs.Common.{rules, ◌≡◌, ◌+◌, ◌-◌, ◌∙◌, ap, arith, suc, sym, true, false, ℕ, List}
use Rattle.std.specs.List.{list_any}
use Rattle.target_table.specs.Entries.{fresh_id, has_id}
use Rattle.target_table.proofs.Entering.{fresh_end, fresh_free, fresh_taken}
use Rattle.target_table.proofs.gpt.fresh_id.Goals as goal

pub returns-then-not-has_id : goal.returns-then-not-has_id
returns-then-not-has_id c =
    let free : list_any (has_id c.loop.id) c.args.gpt.now.entries ≡ false = search rules in
    sym (fresh_free (128 - c.loop.counter) c.args.gpt.now.entries c.loop.id free) ∙ c.loop.invariant

pub loop-preserved : goal.loop-preserved
loop-preserved c =
    let entries = c.args.gpt.now.entries in
    let taken : list_any (has_id c.loop.id) entries ≡ true = search rules in
    let left : 128 - c.loop.counter ≡ suc (128 - (c.loop.counter + 1)) = omega arith in
    ap (λ (id : List ℕ). fresh_id (128 - (c.loop.counter + 1)) entries id) c.extra_in-id-in-loop.ensures
    ∙ sym (fresh_taken (128 - (c.loop.counter + 1)) entries c.loop.id taken)
    ∙ ap (λ (n : ℕ). fresh_id n entries c.loop.id) (sym left)
    ∙ c.loop.invariant

pub returns : goal.returns
returns c =
    let none_left : 128 - c.loop.counter ≡ 0 = omega arith in
    sym (fresh_end c.args.gpt.now.entries c.loop.id) ∙ ap (λ (n : ℕ). fresh_id n c.args.gpt.now.entries c.loop.id) (sym none_left) ∙ c.loop.invariant
