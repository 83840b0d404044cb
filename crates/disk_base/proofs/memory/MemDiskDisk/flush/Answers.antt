-- A flush in the record: a stop leaves what is held.
use Rattle.std.proofs.Common.{rules, ◌≡◌, ◌<◌, ◌++◌, ◌∷◌, [], ◌+◌, ap, refl, arith, ◌∙◌}
use Rattle.std.proofs.lemmas.List.{length-map}
use Rattle.disk_base.specs.declared.memory.Effect.TheVariants.{Flush}
use Rattle.disk_base.specs.Memory.{stops_are}
use Rattle.disk_base.specs.Past.{Flushed, event_of, events_of}
use Rattle.disk_base.proofs.Replaying.{one_more, fits_push, inside_then, replays_then, now, flushed, remembers}
use Rattle.disk_base.proofs.memory.MemDiskDisk.flush.Goals as goal

pub invariant_of-self-clause-fits : goal.invariant_of-self-clause-fits
invariant_of-self-clause-fits c =
    let push : c.push.new.self.items ≡ c.args.self.now.history.items ++ Flush ∷ [] = search rules in
    fits_push _ _ _ Flush push (omega arith) c.args.self.now.fits

pub invariant_of-self-clause-inside : goal.invariant_of-self-clause-inside
invariant_of-self-clause-inside c =
    let push : c.push.new.self.items ≡ c.args.self.now.history.items ++ Flush ∷ [] = search rules in
    let d = c.args.self.now in
    let events = events_of d.written.items in
    inside_then (events d.history.items) (events c.push.new.self.items) Flushed d.first.items d.bytes.items
    (ap events push ∙ one_more d.written.items d.history.items Flush) d.inside d.replays refl

pub invariant_of-self-clause-replays : goal.invariant_of-self-clause-replays
invariant_of-self-clause-replays c =
    let push : c.push.new.self.items ≡ c.args.self.now.history.items ++ Flush ∷ [] = search rules in
    let d = c.args.self.now in
    let events = events_of d.written.items in
    replays_then (events d.history.items) (events c.push.new.self.items) Flushed d.first.items d.bytes.items
    (ap events push ∙ one_more d.written.items d.history.items Flush) d.replays

pub returns-clause-settled : goal.returns-clause-settled
returns-clause-settled c = λ image left.
    let push : c.push.new.self.items ≡ c.args.self.now.history.items ++ Flush ∷ [] = search rules in
    let room : c.args.self.now.calls < c.args.self.now.limits.calls = search rules in
    let d = c.args.self.now in
    let events = events_of d.written.items in
    now d.first.items d.bytes.items (events d.history.items) (events c.push.new.self.items) Flushed d.calls (d.calls + 1)
    (ap events push ∙ one_more d.written.items d.history.items Flush) refl
    (omega (arith, room, d.in_step, d.recorded, length-map d.history.items (event_of d.written.items))) (stops_are d) image left
    ∙ d.replays

pub returns-clause-stops : goal.returns-clause-stops
returns-clause-stops c =
    let push : c.push.new.self.items ≡ c.args.self.now.history.items ++ Flush ∷ [] = search rules in
    let room : c.args.self.now.calls < c.args.self.now.limits.calls = search rules in
    let d = c.args.self.now in
    let events = events_of d.written.items in
    flushed d.first.items d.bytes.items (events d.history.items) (events c.push.new.self.items) d.calls (d.calls + 1)
    (ap events push ∙ one_more d.written.items d.history.items Flush) refl
    (omega (arith, room, d.in_step, d.recorded, length-map d.history.items (event_of d.written.items))) (stops_are d) d.replays

pub returns-clause-remembers : goal.returns-clause-remembers
returns-clause-remembers c =
    let push : c.push.new.self.items ≡ c.args.self.now.history.items ++ Flush ∷ [] = search rules in
    let room : c.args.self.now.calls < c.args.self.now.limits.calls = search rules in
    let d = c.args.self.now in
    let events = events_of d.written.items in
    remembers d.first.items d.bytes.items (events d.history.items) (events c.push.new.self.items) Flushed d.calls (d.calls + 1)
    (ap events push ∙ one_more d.written.items d.history.items Flush) refl
    (omega (arith, room, d.in_step, d.recorded, length-map d.history.items (event_of d.written.items))) (stops_are d)
