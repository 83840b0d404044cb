-- A write in the record, with its bytes.
use Rattle.std.proofs.Common.{rules, ◌≡◌, ◌++◌, ◌∷◌, [], ◌+◌, ◌*◌, ◌<◌, length, ap, refl, sym, arith, ◌∙◌, length-append}
use Rattle.std.proofs.lemmas.List.{length-map}
use Rattle.disk_base.specs.declared.memory.Effect.TheVariants.{Write}
use Rattle.disk_base.specs.Faults.{counted}
use Rattle.disk_base.specs.Image.{with_bytes}
use Rattle.disk_base.specs.Memory.{stops_are}
use Rattle.disk_base.specs.Past.{Wrote, event_of, events_of}
use Rattle.disk_base.proofs.Images.{length-with_bytes}
use Rattle.disk_base.proofs.Replaying.{one_more_write, fits_more, inside_then, replays_then, wrote_inside, adds, remembers}
use Rattle.disk_base.proofs.memory.MemDiskDisk.write.Goals as goal

pub invariant_of-self-2-clause-fits : goal.invariant_of-self-2-clause-fits
invariant_of-self-2-clause-fits c =
    let d = c.args.self.now in
    let push : c.push.new.self.items ≡ d.history.items ++ Write c.args.at (length d.written.items) (length c.args.bytes.now) ∷ [] = search rules in
    let wrote : c.extend_from_slice.new.self.items ≡ d.written.items ++ c.args.bytes.now = search rules in
    rw (push, wrote) (fits_more d.written.items c.args.bytes.now d.history.items (Write c.args.at (length d.written.items) (length c.args.bytes.now)) (omega arith) d.fits)

pub invariant_of-self-2-clause-in_room : goal.invariant_of-self-2-clause-in_room
invariant_of-self-2-clause-in_room c =
    let d = c.args.self.now in
    let put : c.put.new.bytes.items ≡ with_bytes d.bytes.items (512 * c.args.at) c.args.bytes.now = search rules in
    omega (arith, d.in_room, ap length put, length-with_bytes d.bytes.items (512 * c.args.at) c.args.bytes.now (omega arith))

pub invariant_of-self-2-clause-replays : goal.invariant_of-self-2-clause-replays
invariant_of-self-2-clause-replays c =
    let d = c.args.self.now in
    let push : c.push.new.self.items ≡ d.history.items ++ Write c.args.at (length d.written.items) (length c.args.bytes.now) ∷ [] = search rules in
    let wrote : c.extend_from_slice.new.self.items ≡ d.written.items ++ c.args.bytes.now = search rules in
    let past : events_of c.extend_from_slice.new.self.items c.push.new.self.items ≡ events_of d.written.items d.history.items ++ Wrote c.args.at c.args.bytes.now ∷ [] =
    rw (push, wrote) (one_more_write d.written.items c.args.bytes.now d.history.items c.args.at d.fits) in
    let put : c.put.new.bytes.items ≡ with_bytes d.bytes.items (512 * c.args.at) c.args.bytes.now = search rules in
    replays_then (events_of d.written.items d.history.items) (events_of c.extend_from_slice.new.self.items c.push.new.self.items)
    (Wrote c.args.at c.args.bytes.now) d.first.items d.bytes.items past d.replays ∙ sym put

pub invariant_of-self-2-clause-inside : goal.invariant_of-self-2-clause-inside
invariant_of-self-2-clause-inside c =
    let d = c.args.self.now in
    let push : c.push.new.self.items ≡ d.history.items ++ Write c.args.at (length d.written.items) (length c.args.bytes.now) ∷ [] = search rules in
    let wrote : c.extend_from_slice.new.self.items ≡ d.written.items ++ c.args.bytes.now = search rules in
    let past : events_of c.extend_from_slice.new.self.items c.push.new.self.items ≡ events_of d.written.items d.history.items ++ Wrote c.args.at c.args.bytes.now ∷ [] =
    rw (push, wrote) (one_more_write d.written.items c.args.bytes.now d.history.items c.args.at d.fits) in
    inside_then (events_of d.written.items d.history.items) (events_of c.extend_from_slice.new.self.items c.push.new.self.items)
    (Wrote c.args.at c.args.bytes.now) d.first.items d.bytes.items past d.inside d.replays (wrote_inside d.bytes.items c.args.at c.args.bytes.now (omega arith) c.requires.whole)

pub returns-clause-wrote : goal.returns-clause-wrote
returns-clause-wrote c =
    let d = c.args.self.now in
    let push : c.push.new.self.items ≡ d.history.items ++ Write c.args.at (length d.written.items) (length c.args.bytes.now) ∷ [] = search rules in
    let wrote : c.extend_from_slice.new.self.items ≡ d.written.items ++ c.args.bytes.now = search rules in
    let past : events_of c.extend_from_slice.new.self.items c.push.new.self.items ≡ events_of d.written.items d.history.items ++ Wrote c.args.at c.args.bytes.now ∷ [] =
    rw (push, wrote) (one_more_write d.written.items c.args.bytes.now d.history.items c.args.at d.fits) in
    let put : c.put.new.bytes.items ≡ with_bytes d.bytes.items (512 * c.args.at) c.args.bytes.now = search rules in
    let kept = ap length wrote ∙ length-append d.written.items c.args.bytes.now in
    let room : d.calls < d.limits.calls = search rules in
    let one : counted d.calls ≡ d.calls + 1 = search rules in
    let writes : c.saturating_add-self.result ≡ counted d.writes = search rules in
    rw (put, past, kept, one, writes) refl

pub returns-clause-stops : goal.returns-clause-stops
returns-clause-stops c =
    let d = c.args.self.now in
    let push : c.push.new.self.items ≡ d.history.items ++ Write c.args.at (length d.written.items) (length c.args.bytes.now) ∷ [] = search rules in
    let wrote : c.extend_from_slice.new.self.items ≡ d.written.items ++ c.args.bytes.now = search rules in
    let past : events_of c.extend_from_slice.new.self.items c.push.new.self.items ≡ events_of d.written.items d.history.items ++ Wrote c.args.at c.args.bytes.now ∷ [] =
    rw (push, wrote) (one_more_write d.written.items c.args.bytes.now d.history.items c.args.at d.fits) in
    let room : d.calls < d.limits.calls = search rules in
    adds d.first.items d.bytes.items (events_of d.written.items d.history.items) (events_of c.extend_from_slice.new.self.items c.push.new.self.items)
    (Wrote c.args.at c.args.bytes.now) d.calls (d.calls + 1) past refl
    (omega (arith, room, d.in_step, d.recorded, length-map d.history.items (event_of d.written.items))) (stops_are d)

pub returns-clause-remembers : goal.returns-clause-remembers
returns-clause-remembers c =
    let d = c.args.self.now in
    let push : c.push.new.self.items ≡ d.history.items ++ Write c.args.at (length d.written.items) (length c.args.bytes.now) ∷ [] = search rules in
    let wrote : c.extend_from_slice.new.self.items ≡ d.written.items ++ c.args.bytes.now = search rules in
    let past : events_of c.extend_from_slice.new.self.items c.push.new.self.items ≡ events_of d.written.items d.history.items ++ Wrote c.args.at c.args.bytes.now ∷ [] =
    rw (push, wrote) (one_more_write d.written.items c.args.bytes.now d.history.items c.args.at d.fits) in
    let room : d.calls < d.limits.calls = search rules in
    remembers d.first.items d.bytes.items (events_of d.written.items d.history.items) (events_of c.extend_from_slice.new.self.items c.push.new.self.items)
    (Wrote c.args.at c.args.bytes.now) d.calls (d.calls + 1) past refl
    (omega (arith, room, d.in_step, d.recorded, length-map d.history.items (event_of d.written.items))) (stops_are d)
