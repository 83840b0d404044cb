-- One more call in the record.
use Rattle.std.proofs.Common.{rules, ◌≡◌, ◌++◌, ◌∷◌, [], ◌+◌, ap, refl, arith, ◌∙◌}
use Rattle.disk_base.specs.declared.memory.Effect.TheVariants.{Nothing}
use Rattle.std.proofs.lemmas.List.{length-map}
use Rattle.disk_base.specs.Memory.{stops_are}
use Rattle.disk_base.specs.Past.{Idle, event_of, events_of}
use Rattle.disk_base.proofs.Replaying.{one_more, idled, fits_push, inside_then, replays_then}
use Rattle.disk_base.proofs.memory.MemDisk.note.Goals as goal

pub invariant_of-self-clause-fits : goal.invariant_of-self-clause-fits
invariant_of-self-clause-fits c =
    let push : c.push.new.self.items ≡ c.args.self.now.history.items ++ Nothing ∷ [] = search rules in
    fits_push _ _ _ Nothing push (omega arith) c.args.self.now.fits

pub invariant_of-self-clause-inside : goal.invariant_of-self-clause-inside
invariant_of-self-clause-inside c =
    let push : c.push.new.self.items ≡ c.args.self.now.history.items ++ Nothing ∷ [] = search rules in
    let d = c.args.self.now in
    let events = events_of d.written.items in
    inside_then (events d.history.items) (events c.push.new.self.items) Idle d.first.items d.bytes.items
    (ap events push ∙ one_more d.written.items d.history.items Nothing) d.inside d.replays refl

pub invariant_of-self-clause-replays : goal.invariant_of-self-clause-replays
invariant_of-self-clause-replays c =
    let push : c.push.new.self.items ≡ c.args.self.now.history.items ++ Nothing ∷ [] = search rules in
    let d = c.args.self.now in
    let events = events_of d.written.items in
    replays_then (events d.history.items) (events c.push.new.self.items) Idle d.first.items d.bytes.items
    (ap events push ∙ one_more d.written.items d.history.items Nothing) d.replays

pub returns-clause-waits : goal.returns-clause-waits
returns-clause-waits c =
    let push : c.push.new.self.items ≡ c.args.self.now.history.items ++ Nothing ∷ [] = search rules in
    let d = c.args.self.now in
    let events = events_of d.written.items in
    idled d.first.items d.bytes.items (events d.history.items) (events c.push.new.self.items) d.calls (d.calls + 1)
    (ap events push ∙ one_more d.written.items d.history.items Nothing) refl
    (omega (arith, d.in_step, d.recorded, length-map d.history.items (event_of d.written.items))) (stops_are d)
