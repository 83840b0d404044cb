-- By what the call did.
use Rattle.std.proofs.Common.{rules, ◌≡◌, true, false, ap, ◌∙◌, slice_index_or}
use Rattle.disk_base.specs.declared.memory.Effect.TheVariants.{Nothing}
use Rattle.disk_base.specs.Past.{event_of, events_of}
use Rattle.disk_base.specs.Stopped.{settles}
use Rattle.disk_base.proofs.Stoppings.{event_of_at, settles_lasting, still_lasting}
use Rattle.disk_base.proofs.memory.lasting_with.Goals as goal

pub returns-then-is_lasting-clause-lasting : goal.returns-then-is_lasting-clause-lasting
returns-then-is_lasting-clause-lasting c = λ written so_far.
    let ends : settles (event_of written (slice_index_or c.args.history.now c.args.i Nothing)) ≡ true = search rules in
    settles_lasting (events_of written c.args.history.now) c.args.i (ap settles (event_of_at written c.args.history.now c.args.i) ∙ ends)

pub returns-clause-lasting : goal.returns-clause-lasting
returns-clause-lasting c = λ written so_far.
    let goes : settles (event_of written (slice_index_or c.args.history.now c.args.i Nothing)) ≡ false = search rules in
    still_lasting (events_of written c.args.history.now) c.args.i c.args.lasting (ap settles (event_of_at written c.args.history.now c.args.i) ∙ goes) so_far
