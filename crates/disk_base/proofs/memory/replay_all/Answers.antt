-- One more call is inside what the ones before it left.
use Rattle.std.proofs.Common.{◌<◌, ℕ, List, length, slice_index_or, arith, sym, ap, subst, ◌∙◌}
use Rattle.std.proofs.lemmas.List.{length-map}
use Rattle.disk_base.specs.Past.{Event, Idle, event_of, events_of, replayed}
use Rattle.disk_base.specs.inside.Calls.{IsCallInside}
use Rattle.disk_base.proofs.Stoppings.{event_of_at, inside_at, image_step}
use Rattle.disk_base.proofs.memory.replay_all.Goals as goal

pub replay-requires-clause-inside : goal.replay-requires-clause-inside
replay-requires-clause-inside c =
    let events = events_of c.args.written.now c.args.history.now in
    let i = c.loop-effect.effect-index in
    let small : i < length events = omega (arith, length-map c.args.history.now (event_of c.args.written.now)) in
    let Event' : Event → Type 0 = λ e. IsCallInside c.loop-effect.image.items e in
    let Image : List ℕ → Type 0 = λ image. IsCallInside image (slice_index_or events i Idle) in
    subst Event' (event_of_at c.args.written.now c.args.history.now i)
    (subst Image (sym c.loop-effect.invariant.holds) (inside_at events c.args.first.now i Idle small c.requires.inside))

pub loop-effect-preserved : goal.loop-effect-preserved
loop-effect-preserved c =
    let events = events_of c.args.written.now c.args.history.now in
    let i = c.loop-effect.effect-index in
    let small : i < length events = omega (arith, length-map c.args.history.now (event_of c.args.written.now)) in
    record {
      bound = omega arith;
      holds = c.in_ok-replay.ensures
          ∙ ap (replayed c.loop-effect.image.items) (sym (event_of_at c.args.written.now c.args.history.now i))
          ∙ ap (λ (image : List ℕ). replayed image (slice_index_or events i Idle)) c.loop-effect.invariant.holds
          ∙ sym (image_step events c.args.first.now i Idle small);
    }
