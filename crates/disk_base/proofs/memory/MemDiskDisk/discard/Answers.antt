-- A discard in the record.
use Rattle.std.proofs.Common.{rules, ◌≡◌, ◌++◌, ◌∷◌, [], ◌+◌, ◌*◌, ◌<◌, ℕ, length, replicate, ap, refl, sym, arith, ◌∙◌}
use Rattle.std.proofs.lemmas.List.{length-map, length-replicate}
use Rattle.disk_base.specs.declared.memory.Effect.TheVariants.{Discard}
use Rattle.disk_base.specs.Image.{with_bytes}
use Rattle.disk_base.specs.Memory.{stops_are}
use Rattle.disk_base.specs.Past.{GaveUp, event_of, events_of}
use Rattle.disk_base.proofs.Images.{length-with_bytes}
use Rattle.disk_base.proofs.Replaying.{one_more, fits_push, inside_then, replays_then, gave_up_inside, adds, remembers}
use Rattle.disk_base.proofs.memory.MemDiskDisk.discard.Goals as goal

pub invariant_of-self-clause-fits : goal.invariant_of-self-clause-fits
invariant_of-self-clause-fits c =
    let d = c.args.self.now in
    let push : c.push-2.new.self.items ≡ d.history.items ++ Discard c.args.at c.args.n ∷ [] = search rules in
    let past = ap (events_of d.written.items) push ∙ one_more d.written.items d.history.items (Discard c.args.at c.args.n) in
    fits_push _ _ _ (Discard c.args.at c.args.n) push (omega arith) d.fits

pub invariant_of-self-clause-whole : goal.invariant_of-self-clause-whole
invariant_of-self-clause-whole c =
    let d = c.args.self.now in
    let fill : c.fill.new.bytes.items ≡ with_bytes d.bytes.items (512 * c.args.at) (replicate (512 * c.args.n) 0xA5) = search rules in
    let long = length-replicate {A = ℕ} (512 * c.args.n) 0xA5 in
    omega (arith, long, d.whole, ap length fill, length-with_bytes d.bytes.items (512 * c.args.at) (replicate (512 * c.args.n) 0xA5) (omega (arith, long)))

pub invariant_of-self-clause-in_room : goal.invariant_of-self-clause-in_room
invariant_of-self-clause-in_room c =
    let d = c.args.self.now in
    let fill : c.fill.new.bytes.items ≡ with_bytes d.bytes.items (512 * c.args.at) (replicate (512 * c.args.n) 0xA5) = search rules in
    let long = length-replicate {A = ℕ} (512 * c.args.n) 0xA5 in
    omega (arith, long, d.in_room, ap length fill, length-with_bytes d.bytes.items (512 * c.args.at) (replicate (512 * c.args.n) 0xA5) (omega (arith, long)))

pub invariant_of-self-clause-inside : goal.invariant_of-self-clause-inside
invariant_of-self-clause-inside c =
    let d = c.args.self.now in
    let push : c.push-2.new.self.items ≡ d.history.items ++ Discard c.args.at c.args.n ∷ [] = search rules in
    let past = ap (events_of d.written.items) push ∙ one_more d.written.items d.history.items (Discard c.args.at c.args.n) in
    inside_then (events_of d.written.items d.history.items) (events_of d.written.items c.push-2.new.self.items)
    (GaveUp c.args.at c.args.n) d.first.items d.bytes.items past d.inside d.replays (gave_up_inside d.bytes.items c.args.at c.args.n (omega arith))

pub invariant_of-self-clause-replays : goal.invariant_of-self-clause-replays
invariant_of-self-clause-replays c =
    let d = c.args.self.now in
    let push : c.push-2.new.self.items ≡ d.history.items ++ Discard c.args.at c.args.n ∷ [] = search rules in
    let past = ap (events_of d.written.items) push ∙ one_more d.written.items d.history.items (Discard c.args.at c.args.n) in
    let fill : c.fill.new.bytes.items ≡ with_bytes d.bytes.items (512 * c.args.at) (replicate (512 * c.args.n) 0xA5) = search rules in
    replays_then (events_of d.written.items d.history.items) (events_of d.written.items c.push-2.new.self.items)
    (GaveUp c.args.at c.args.n) d.first.items d.bytes.items past d.replays ∙ sym fill

pub returns-clause-stops : goal.returns-clause-stops
returns-clause-stops c =
    let d = c.args.self.now in
    let push : c.push-2.new.self.items ≡ d.history.items ++ Discard c.args.at c.args.n ∷ [] = search rules in
    let past = ap (events_of d.written.items) push ∙ one_more d.written.items d.history.items (Discard c.args.at c.args.n) in
    let room : d.calls < d.limits.calls = search rules in
    adds d.first.items d.bytes.items (events_of d.written.items d.history.items) (events_of d.written.items c.push-2.new.self.items)
    (GaveUp c.args.at c.args.n) d.calls (d.calls + 1) past refl
    (omega (arith, room, d.in_step, d.recorded, length-map d.history.items (event_of d.written.items))) (stops_are d)

pub returns-clause-remembers : goal.returns-clause-remembers
returns-clause-remembers c =
    let d = c.args.self.now in
    let push : c.push-2.new.self.items ≡ d.history.items ++ Discard c.args.at c.args.n ∷ [] = search rules in
    let past = ap (events_of d.written.items) push ∙ one_more d.written.items d.history.items (Discard c.args.at c.args.n) in
    let room : d.calls < d.limits.calls = search rules in
    remembers d.first.items d.bytes.items (events_of d.written.items d.history.items) (events_of d.written.items c.push-2.new.self.items)
    (GaveUp c.args.at c.args.n) d.calls (d.calls + 1) past refl
    (omega (arith, room, d.in_step, d.recorded, length-map d.history.items (event_of d.written.items))) (stops_are d)
