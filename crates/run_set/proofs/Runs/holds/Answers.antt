use Rattle.std.proofs.Common.{◌≡◌, arith, get_or}
use Rattle.std.proofs.lemmas.Bool.{le-ltb}
use Rattle.run_set.specs.Runs.{AreRuns}
use Rattle.run_set.proofs.Rising.{has_at_place, none_at_end}
use Rattle.run_set.proofs.Runs.holds.Goals as goal

pub returns-then-at-len : goal.returns-then-at-len
returns-then-at-len c =
    let set : AreRuns c.deref.result.now = rw c.deref.ensures.value c.self.invariant in
    let read : c.index.result.now ≡ get_or c.deref.result.now c.place-at.result c.index.result.now = rw c.deref.ensures.value c.index.ensures in
    rw (← c.self.view_is, ← c.deref.ensures.value)
    (has_at_place c.deref.result.now c.index.result.now c.place-at.result c.args.number c.has.result set (omega (arith, c.deref.ensures.len)) read c.place-at.ensures.below c.place-at.ensures.rest c.has.ensures)

pub returns-else-at-len : goal.returns-else-at-len
returns-else-at-len c =
    rw (← c.self.view_is, ← c.deref.ensures.value, le-ltb c.place-at.result c.len.result c.if-at-len.false)
    (λ yes. absurd (cc), λ holds. absurd (none_at_end c.deref.result.now c.place-at.result c.args.number (omega (arith, c.deref.ensures.len)) c.place-at.ensures.below holds))
