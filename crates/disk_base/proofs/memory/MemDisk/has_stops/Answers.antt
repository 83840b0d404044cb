-- The disk's own record.
use Rattle.std.proofs.Common.{◌≡◌, not, ap, ◌∙◌, inr}
use Rattle.std.proofs.lemmas.Bool.{OnFalse_from}
use Rattle.disk_base.specs.Past.{events_of, is_created}
use Rattle.disk_base.specs.Stopped.{event_at}
use Rattle.disk_base.proofs.memory.MemDisk.has_stops.Goals as goal

-- what the record says of the call
said : (c : goal.After-none_created)
    → is_created (event_at (events_of c.args.self.now.written.items c.args.self.now.history.items) c.args.call) ≡ not c.none_created.result
said c = rw (← c.deref.ensures.value) (c.none_created.ensures c.args.self.now.written.items)

pub returns-clause-not_created : goal.returns-clause-not_created
returns-clause-not_created c = λ kept. said c ∙ ap not kept

pub returns-clause-otherwise : goal.returns-clause-otherwise
returns-clause-otherwise c = OnFalse_from c.none_created.result _ (λ made. inr (said c ∙ ap not made))
