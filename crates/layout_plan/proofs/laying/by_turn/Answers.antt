use Rattle.std.proofs.Common.{◌≡◌, ℕ, ◌<◌, if◌then◌else◌, subst, rules}
use Rattle.std.specs.List.Sorted.{IsNonDecreasingBy, IsStableByKey}
use Rattle.std.specs.Ordering.{nat_cmp}
use Rattle.std.proofs.lemmas.Fn.{always_returns_same}
use Rattle.std.proofs.lemmas.List.Sorted.{IsNonDecreasingBy-from_sort_by_key}
use Rattle.layout_plan.specs.declared.part.Part.{Part}
use Rattle.layout_plan.specs.Plans.{extended_start}
use Rattle.layout_plan.specs.Roles.{is_logical}
use Rattle.layout_plan.proofs.Remains.{keeps_pairs}
use Rattle.layout_plan.proofs.Turns.{ByNumber, in_turn}
use Rattle.layout_plan.proofs.laying.by_turn.Goals as goal

-- the turn of a part, where that of the logical ones is at outer
abbrev turn_at : ℕ → Part → ℕ
turn_at outer part = if is_logical part.role then outer else part.start

pub returns-clause-in_turn : goal.returns-clause-in_turn
returns-clause-in_turn c =
    let task = c.args.task.now in
    let parts = task.parts.now in
    let laid = c.in_ok-laid.laid.items in
    let rest : ByNumber laid = rw c.in_ok-laid.ensures (keeps_pairs (λ (before after : Part). before.number < after.number) task.wishes.now parts task.source.by_number) in
    let outer = c.extended_start-outer.result in
    let is_outer : outer ≡ extended_start parts = c.extended_start-outer.ensures in
    let stable : IsStableByKey (turn_at outer) nat_cmp laid c.sort_by_key.new.self.items =
    c.in_ok-sort_by_key.ensures.stable (turn_at outer) (always_returns_same _ (λ a r. r ≡ turn_at outer a.0.now) _ (λ a r q k. search rules)) in
    let order : IsNonDecreasingBy (turn_at outer) c.sort_by_key.new.self.items =
    IsNonDecreasingBy-from_sort_by_key (turn_at outer) c.sort_by_key.new.self.items c.in_ok-sort_by_key.ensures.sorted (λ a r q k. search rules) in
    let Stable : ℕ → Type 0 = λ outer. IsStableByKey (turn_at outer) nat_cmp laid c.sort_by_key.new.self.items in
    let Order : ℕ → Type 0 = λ outer. IsNonDecreasingBy (turn_at outer) c.sort_by_key.new.self.items in
    in_turn parts laid c.sort_by_key.new.self.items rest c.in_ok-sort_by_key.ensures.permutation (subst Stable is_outer stable) (subst Order is_outer order)
