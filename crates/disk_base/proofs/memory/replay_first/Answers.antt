-- One more call, as far as its first sectors.
use Rattle.std.proofs.Common.{◌≡◌, ◌<◌, ◌-◌, ℕ, List, length, take, slice_index_or, arith, sym, ap, subst, ◌∙◌}
use Rattle.std.proofs.lemmas.List.{length-map}
use Rattle.disk_base.specs.Past.{Event, Idle, event_of, events_of, image_after}
use Rattle.disk_base.specs.inside.Calls.{IsCallInside}
use Rattle.disk_base.specs.Stopped.{cut_short, touched}
use Rattle.disk_base.proofs.Stoppings.{event_of_at, inside_at, inside_same, image_step, kept_step, still, still_step, length_cut, length_replayed}
use Rattle.disk_base.proofs.memory.replay_first.Goals as goal

pub replay_part-left-requires-clause-inside : goal.replay_part-left-requires-clause-inside
replay_part-left-requires-clause-inside c =
    let events = events_of c.args.written.now c.args.history.now in
    let i = c.loop-effect.effect-index in
    let small : i < length events = omega (arith, length-map c.args.history.now (event_of c.args.written.now)) in
    let Inside : Event → Type 0 = λ e. IsCallInside c.loop-effect.image.items e in
    subst Inside (event_of_at c.args.written.now c.args.history.now i)
    (inside_same _ _ (slice_index_or events i Idle) c.loop-effect.invariant.long (inside_at events c.args.image.now.items i Idle small c.requires.inside))

pub loop-effect-preserved : goal.loop-effect-preserved
loop-effect-preserved c =
    let events = events_of c.args.written.now c.args.history.now in
    let i = c.loop-effect.effect-index in
    let before = c.loop-effect.invariant in
    let small : i < length events = omega (arith, length-map c.args.history.now (event_of c.args.written.now)) in
    let event = slice_index_or events i Idle in
    let is = sym (event_of_at c.args.written.now c.args.history.now i) in
    let here = inside_at events c.args.image.now.items i Idle small c.requires.inside in
    let here_too = inside_same _ _ event before.long here in
    let cut : c.replay_part-left.new.image.items ≡ cut_short c.loop-effect.left c.args.byte c.loop-effect.image.items event =
    c.replay_part-left.ensures.image ∙ ap (cut_short c.loop-effect.left c.args.byte c.loop-effect.image.items) is in
    record {
      bound = omega arith;
      holds = cut
          ∙ ap (λ (n : ℕ). cut_short n c.args.byte c.loop-effect.image.items event) before.rest
          ∙ ap (λ (image : List ℕ). cut_short (still (take i events) c.args.keep) c.args.byte image event) before.holds
          ∙ sym (kept_step events i Idle c.args.keep c.args.byte c.args.image.now.items small);
      rest = c.replay_part-left.ensures.left
          ∙ ap (λ (e : Event). c.loop-effect.left - touched e) is
          ∙ ap (λ (n : ℕ). n - touched event) before.rest
          ∙ sym (still_step events i Idle c.args.keep small);
      long = ap length cut
          ∙ length_cut c.loop-effect.left c.args.byte c.loop-effect.image.items event here_too
          ∙ before.long
          ∙ sym (length_replayed (image_after (take i events) c.args.image.now.items) event (c.requires.none_created i Idle small) here)
          ∙ ap length (sym (image_step events c.args.image.now.items i Idle small));
    }
