-- A creation in the record.
use Rattle.std.proofs.Common.{rules, ◌≡◌, ◌++◌, ◌∷◌, [], ◌+◌, ◌*◌, replicate, ap, refl, sym, arith, ◌∙◌}
use Rattle.std.proofs.lemmas.List.{length-map}
use Rattle.disk_base.specs.declared.memory.Effect.TheVariants.{Create}
use Rattle.disk_base.specs.Memory.{stops_are}
use Rattle.disk_base.specs.Past.{Created, event_of, events_of}
use Rattle.disk_base.proofs.Replaying.{one_more, fits_push, inside_then, replays_then, created_inside, now}
use Rattle.disk_base.proofs.memory.MemDisk.create.Goals as goal

pub invariant_of-self-clause-fits : goal.invariant_of-self-clause-fits
invariant_of-self-clause-fits c =
    let d = c.args.self.now in
    let push : c.push.new.self.items ≡ d.history.items ++ Create c.args.n ∷ [] = search rules in
    fits_push _ _ _ (Create c.args.n) push (omega arith) d.fits

pub invariant_of-self-clause-inside : goal.invariant_of-self-clause-inside
invariant_of-self-clause-inside c =
    let d = c.args.self.now in
    let push : c.push.new.self.items ≡ d.history.items ++ Create c.args.n ∷ [] = search rules in
    let past = ap (events_of d.written.items) push ∙ one_more d.written.items d.history.items (Create c.args.n) in
    inside_then (events_of d.written.items d.history.items) (events_of d.written.items c.push.new.self.items)
    (Created c.args.n) d.first.items d.bytes.items past d.inside d.replays (created_inside d.bytes.items c.args.n (omega (arith, c.requires.fits, d.room_fits)))

pub invariant_of-self-clause-replays : goal.invariant_of-self-clause-replays
invariant_of-self-clause-replays c =
    let d = c.args.self.now in
    let push : c.push.new.self.items ≡ d.history.items ++ Create c.args.n ∷ [] = search rules in
    let past = ap (events_of d.written.items) push ∙ one_more d.written.items d.history.items (Create c.args.n) in
    let blank : c.resize.new.self.items ≡ replicate (512 * c.args.n) 0 = search rules in
    replays_then (events_of d.written.items d.history.items) (events_of d.written.items c.push.new.self.items)
    (Created c.args.n) d.first.items d.bytes.items past d.replays ∙ sym blank

pub returns-clause-settled : goal.returns-clause-settled
returns-clause-settled c = λ image left.
    let d = c.args.self.now in
    let push : c.push.new.self.items ≡ d.history.items ++ Create c.args.n ∷ [] = search rules in
    let past = ap (events_of d.written.items) push ∙ one_more d.written.items d.history.items (Create c.args.n) in
    let blank : c.resize.new.self.items ≡ replicate (512 * c.args.n) 0 = search rules in
    now d.first.items d.bytes.items (events_of d.written.items d.history.items) (events_of d.written.items c.push.new.self.items)
    (Created c.args.n) d.calls (d.calls + 1) past refl
    (omega (arith, c.requires.room, d.in_step, d.recorded, length-map d.history.items (event_of d.written.items))) (stops_are d) image left
    ∙ sym blank
