-- What was prepared is what is due, and the attached disks hold what they held.
use Rattle.std.proofs.Common.{◌≡◌, ℕ, List, ap, inl, ◌∙◌, string_bytes, refl, true, false, not, arith}
use Rattle.disk_base.specs.Devices.{held}
use Rattle.disk_base.specs.Stops.{adds_on}
use Rattle.disk_base.proofs.Moments.{adds_nothing, adds_weaker, leaves_only}
use Rattle.disk_base.proofs.Uses.{untouched_since}
use Rattle.run_end.specs.Ending.{MayPass}
use Rattle.target_work.specs.Works.{IsAtGate}
use Rattle.resize_core.specs.Resizing.{resize_on}
use Rattle.resize_core.proofs.WorkLemmas.{cause_since, failure_due, has_work, left_after, left_done, left_dry, lines_of_work, passes, prepared_before, prints_part, settled_done, settled_dry, settled_waiting, shows_part, stops_waiting, whole_of}
use Rattle.resize_core.proofs.job.resize.Goals as goal

pub returns-in-Err-Refused-clause-source : goal.returns-in-Err-Refused-clause-source
returns-in-Err-Refused-clause-source g c = λ s.
    untouched_since _ _ _ _ (c.in_default.ensures.source s) (g.met.S.Blocks.same_image _ _ c.in-Err-Refused.ensures.read s) (g.met.S.Disk.same_log _ _ c.in-Err-Refused.ensures.read s)

pub returns-in-Err-Refused-clause-moments : goal.returns-in-Err-Refused-clause-moments
returns-in-Err-Refused-clause-moments g c = λ s t stops settled.
    stops_waiting (resize_on c.args.job.now g.S.Blocks c.args.source.now g.T.Blocks c.args.target.now) _ _ _ (g.met.T.Disk.stops_are c.args.target.now stops) (c.in_default.ensures.waits stops) settled

pub returns-in-Err-Device-clause-moments : goal.returns-in-Err-Device-clause-moments
returns-in-Err-Device-clause-moments g c = λ s t stops settled.
    stops_waiting (resize_on c.args.job.now g.S.Blocks c.args.source.now g.T.Blocks c.args.target.now) _ _ _ (g.met.T.Disk.stops_are c.args.target.now stops) (c.in_default.ensures.waits stops) settled

pub returns-in-Ok-write-clause-due : goal.returns-in-Ok-write-clause-due
returns-in-Ok-write-clause-due g c = λ s t.
    let was = c.in_default.ensures.source s in
    let kept = c.in_default.ensures.target t in
    let prepared = prepared_before c.args.job.now (g.S.Blocks.image c.args.source.now) _ (g.T.Blocks.image c.args.target.now) _ _ _ c.in-Ok.prepared.writing (string_bytes c.in-Ok.prepared.lines.summary) (string_bytes c.in-Ok.prepared.lines.last)
    was.image kept.image (g.met.T.Blocks.whole c.attach_both.new.target t) c.sectors.ensures (c.in-Ok.ensures.work s) in
    has_work _ _ _ _ _ _ prepared

pub returns-in-Ok-write-clause-left : goal.returns-in-Ok-write-clause-left
returns-in-Ok-write-clause-left g c = λ s t.
    let was = c.in_default.ensures.source s in
    let kept = c.in_default.ensures.target t in
    let prepared = prepared_before c.args.job.now (g.S.Blocks.image c.args.source.now) _ (g.T.Blocks.image c.args.target.now) _ _ _ c.in-Ok.prepared.writing (string_bytes c.in-Ok.prepared.lines.summary) (string_bytes c.in-Ok.prepared.lines.last)
    was.image kept.image (g.met.T.Blocks.whole c.attach_both.new.target t) c.sectors.ensures (c.in-Ok.ensures.work s) in
    let same = g.met.S.Blocks.same_image _ _ c.in-Ok.ensures.read s ∙ was.image in
    let whole = whole_of _ _ (g.met.T.Blocks.whole c.args.target.now t) in
    let writes : not c.args.job.now.dry ≡ true = ap not c.if-job.false in
    left_done c.args.job.now (g.S.Blocks.image c.args.source.now) (g.S.Blocks.image c.prepare_on.new.source) (held g.T.Blocks g.T.Disk c.args.target.now) (held g.T.Blocks g.T.Disk c.attach_both.new.target) (held g.T.Blocks g.T.Disk c.write.new.target) c.in-Ok.prepared.writing (string_bytes c.in-Ok.prepared.lines.summary) (string_bytes c.in-Ok.prepared.lines.last) same kept whole prepared writes (c.in-Ok-write.ensures.done s t)

pub returns-in-Ok-write-clause-printed : goal.returns-in-Ok-write-clause-printed
returns-in-Ok-write-clause-printed g c = λ s t o.
    let was = c.in_default.ensures.source s in
    let kept = c.in_default.ensures.target t in
    let prepared = prepared_before c.args.job.now (g.S.Blocks.image c.args.source.now) _ (g.T.Blocks.image c.args.target.now) _ _ _ c.in-Ok.prepared.writing (string_bytes c.in-Ok.prepared.lines.summary) (string_bytes c.in-Ok.prepared.lines.last)
    was.image kept.image (g.met.T.Blocks.whole c.attach_both.new.target t) c.sectors.ensures (c.in-Ok.ensures.work s) in
    record { before = (string_bytes c.in-Ok.prepared.lines.summary); after = (string_bytes c.in-Ok.prepared.lines.last); lines = lines_of_work _ _ _ _ _ _ prepared; gained = c.in-Ok-write.ensures.printed o }

pub returns-in-Ok-write-clause-settled : goal.returns-in-Ok-write-clause-settled
returns-in-Ok-write-clause-settled g c = λ stops.
    let writes : not c.args.job.now.dry ≡ true = ap not c.if-job.false in
    settled_done (not c.args.job.now.dry) (held g.T.Blocks g.T.Disk c.args.target.now) (held g.T.Blocks g.T.Disk c.write.new.target) writes (c.in-Ok-write.ensures.settled stops)

pub returns-in-Ok-write-clause-source : goal.returns-in-Ok-write-clause-source
returns-in-Ok-write-clause-source g c = λ s.
    let image = g.met.S.Blocks.same_image _ _ c.in-Ok-write.ensures.read s ∙ g.met.S.Blocks.same_image _ _ c.in-Ok.ensures.read s in
    let log = g.met.S.Disk.same_log _ _ c.in-Ok-write.ensures.read s ∙ g.met.S.Disk.same_log _ _ c.in-Ok.ensures.read s in
    untouched_since _ _ _ _ (c.in_default.ensures.source s) image log

pub returns-in-Ok-write-clause-moments : goal.returns-in-Ok-write-clause-moments
returns-in-Ok-write-clause-moments g c = λ s t stops settled.
    let was = c.in_default.ensures.source s in
    let kept = c.in_default.ensures.target t in
    let prepared = prepared_before c.args.job.now (g.S.Blocks.image c.args.source.now) _ (g.T.Blocks.image c.args.target.now) _ _ _ c.in-Ok.prepared.writing (string_bytes c.in-Ok.prepared.lines.summary) (string_bytes c.in-Ok.prepared.lines.last)
    was.image kept.image (g.met.T.Blocks.whole c.attach_both.new.target t) c.sectors.ensures (c.in-Ok.ensures.work s) in
    let same = g.met.S.Blocks.same_image _ _ c.in-Ok.ensures.read s ∙ was.image in
    let whole = whole_of _ _ (g.met.T.Blocks.whole c.args.target.now t) in
    let old = g.T.Blocks.image c.args.target.now in
    let waits = c.in_default.ensures.waits stops in
    let later = c.in-Ok-write.ensures.moments s stops (settled_waiting old _ _ _ waits kept.image settled) in
    let May : List ℕ → Type 0 = MayPass (resize_on c.args.job.now g.S.Blocks c.args.source.now g.T.Blocks c.args.target.now) old in
    let Gate : List ℕ → Type 0 = IsAtGate c.in-Ok.prepared.writing (g.S.Blocks.image c.prepare_on.new.source) (g.T.Blocks.image c.attach_both.new.target) in
    let passing : (image : List ℕ) → Gate image → May image =
    passes c.args.job.now (g.S.Blocks.image c.args.source.now) (g.S.Blocks.image c.prepare_on.new.source) (held g.T.Blocks g.T.Disk c.args.target.now) (held g.T.Blocks g.T.Disk c.attach_both.new.target) (held g.T.Blocks g.T.Disk c.write.new.target) c.in-Ok.prepared.writing (string_bytes c.in-Ok.prepared.lines.summary) (string_bytes c.in-Ok.prepared.lines.last) same kept whole prepared in
    leaves_only old _ _ May (g.met.T.Disk.stops_are c.args.target.now stops) settled (inl refl)
    (adds_on _ _ _ May (adds_nothing _ _ May waits.adds) (adds_weaker _ _ Gate May passing later.adds))

pub returns-clause-due : goal.returns-clause-due
returns-clause-due g c = λ s t.
    let was = c.in_default.ensures.source s in
    let kept = c.in_default.ensures.target t in
    let prepared = prepared_before c.args.job.now (g.S.Blocks.image c.args.source.now) _ (g.T.Blocks.image c.args.target.now) _ _ _ c.in-Ok.prepared.writing (string_bytes c.in-Ok.prepared.lines.summary) (string_bytes c.in-Ok.prepared.lines.last)
    was.image kept.image (g.met.T.Blocks.whole c.attach_both.new.target t) c.sectors.ensures (c.in-Ok.ensures.work s) in
    failure_due c.args.job.now _ _ c.in-Ok.prepared.writing (string_bytes c.in-Ok.prepared.lines.summary) (string_bytes c.in-Ok.prepared.lines.last) c.in-Err-write.failing prepared

pub returns-clause-left : goal.returns-clause-left
returns-clause-left g c = λ s t.
    let was = c.in_default.ensures.source s in
    let kept = c.in_default.ensures.target t in
    let prepared = prepared_before c.args.job.now (g.S.Blocks.image c.args.source.now) _ (g.T.Blocks.image c.args.target.now) _ _ _ c.in-Ok.prepared.writing (string_bytes c.in-Ok.prepared.lines.summary) (string_bytes c.in-Ok.prepared.lines.last)
    was.image kept.image (g.met.T.Blocks.whole c.attach_both.new.target t) c.sectors.ensures (c.in-Ok.ensures.work s) in
    let same = g.met.S.Blocks.same_image _ _ c.in-Ok.ensures.read s ∙ was.image in
    let whole = whole_of _ _ (g.met.T.Blocks.whole c.args.target.now t) in
    let writes : not c.args.job.now.dry ≡ true = ap not c.if-job.false in
    left_after c.args.job.now (g.S.Blocks.image c.args.source.now) (g.S.Blocks.image c.prepare_on.new.source) (held g.T.Blocks g.T.Disk c.args.target.now) (held g.T.Blocks g.T.Disk c.attach_both.new.target) (held g.T.Blocks g.T.Disk c.write.new.target) c.in-Ok.prepared.writing (string_bytes c.in-Ok.prepared.lines.summary) (string_bytes c.in-Ok.prepared.lines.last) same kept whole prepared c.in-Err-write.failing writes (c.in-Err-write.ensures.left s t)

pub returns-clause-printed : goal.returns-clause-printed
returns-clause-printed g c = λ s t o.
    let was = c.in_default.ensures.source s in
    let kept = c.in_default.ensures.target t in
    let prepared = prepared_before c.args.job.now (g.S.Blocks.image c.args.source.now) _ (g.T.Blocks.image c.args.target.now) _ _ _ c.in-Ok.prepared.writing (string_bytes c.in-Ok.prepared.lines.summary) (string_bytes c.in-Ok.prepared.lines.last)
    was.image kept.image (g.met.T.Blocks.whole c.attach_both.new.target t) c.sectors.ensures (c.in-Ok.ensures.work s) in
    let same = g.met.S.Blocks.same_image _ _ c.in-Ok.ensures.read s ∙ was.image in
    let whole = whole_of _ _ (g.met.T.Blocks.whole c.args.target.now t) in
    let writes : not c.args.job.now.dry ≡ true = ap not c.if-job.false in
    prints_part c.args.job.now (g.S.Blocks.image c.args.source.now) (g.S.Blocks.image c.prepare_on.new.source) (held g.T.Blocks g.T.Disk c.args.target.now) (held g.T.Blocks g.T.Disk c.attach_both.new.target) (held g.T.Blocks g.T.Disk c.write.new.target) c.in-Ok.prepared.writing (string_bytes c.in-Ok.prepared.lines.summary) (string_bytes c.in-Ok.prepared.lines.last) same kept whole prepared c.in-Err-write.failing _ _ writes (c.in-Err-write.ensures.part s t o)

pub returns-clause-source : goal.returns-clause-source
returns-clause-source g c = λ s.
    let image = g.met.S.Blocks.same_image _ _ c.in-Err-write.ensures.read s ∙ g.met.S.Blocks.same_image _ _ c.in-Ok.ensures.read s in
    let log = g.met.S.Disk.same_log _ _ c.in-Err-write.ensures.read s ∙ g.met.S.Disk.same_log _ _ c.in-Ok.ensures.read s in
    untouched_since _ _ _ _ (c.in_default.ensures.source s) image log

pub returns-clause-moments : goal.returns-clause-moments
returns-clause-moments g c = λ s t stops settled.
    let was = c.in_default.ensures.source s in
    let kept = c.in_default.ensures.target t in
    let prepared = prepared_before c.args.job.now (g.S.Blocks.image c.args.source.now) _ (g.T.Blocks.image c.args.target.now) _ _ _ c.in-Ok.prepared.writing (string_bytes c.in-Ok.prepared.lines.summary) (string_bytes c.in-Ok.prepared.lines.last)
    was.image kept.image (g.met.T.Blocks.whole c.attach_both.new.target t) c.sectors.ensures (c.in-Ok.ensures.work s) in
    let same = g.met.S.Blocks.same_image _ _ c.in-Ok.ensures.read s ∙ was.image in
    let whole = whole_of _ _ (g.met.T.Blocks.whole c.args.target.now t) in
    let old = g.T.Blocks.image c.args.target.now in
    let waits = c.in_default.ensures.waits stops in
    let later = c.in-Err-write.ensures.moments s stops (settled_waiting old _ _ _ waits kept.image settled) in
    let May : List ℕ → Type 0 = MayPass (resize_on c.args.job.now g.S.Blocks c.args.source.now g.T.Blocks c.args.target.now) old in
    let Gate : List ℕ → Type 0 = IsAtGate c.in-Ok.prepared.writing (g.S.Blocks.image c.prepare_on.new.source) (g.T.Blocks.image c.attach_both.new.target) in
    let passing : (image : List ℕ) → Gate image → May image =
    passes c.args.job.now (g.S.Blocks.image c.args.source.now) (g.S.Blocks.image c.prepare_on.new.source) (held g.T.Blocks g.T.Disk c.args.target.now) (held g.T.Blocks g.T.Disk c.attach_both.new.target) (held g.T.Blocks g.T.Disk c.write.new.target) c.in-Ok.prepared.writing (string_bytes c.in-Ok.prepared.lines.summary) (string_bytes c.in-Ok.prepared.lines.last) same kept whole prepared in
    leaves_only old _ _ May (g.met.T.Disk.stops_are c.args.target.now stops) settled (inl refl)
    (adds_on _ _ _ May (adds_nothing _ _ May waits.adds) (adds_weaker _ _ Gate May passing later.adds))

pub returns-clause-cause : goal.returns-clause-cause
returns-clause-cause g c =
    cause_since g.S.Blocks g.T.Blocks g.O.Sink c.args.job.now (string_bytes c.in-Ok.prepared.lines.summary) (string_bytes c.in-Ok.prepared.lines.last) c.args.source.now c.prepare_on.new.source c.write.new.source c.args.target.now c.attach_both.new.target c.write.new.target
    c.args.out.now c.write.new.out c.in-Err-write.failing (omega (arith, c.in_default.ensures.later, g.met.S.Blocks.no_fewer _ _ c.in-Ok.ensures.read)) c.in_default.ensures.target_later
    c.in-Ok.ensures.shown c.in-Err-write.ensures.cause

pub returns-in-Ok-show-clause-due : goal.returns-in-Ok-show-clause-due
returns-in-Ok-show-clause-due g c = λ s t.
    let was = c.in_default.ensures.source s in
    let kept = c.in_default.ensures.target t in
    let prepared = prepared_before c.args.job.now (g.S.Blocks.image c.args.source.now) _ (g.T.Blocks.image c.args.target.now) _ _ _ c.in-Ok.prepared.writing (string_bytes c.in-Ok.prepared.lines.summary) (string_bytes c.in-Ok.prepared.lines.last)
    was.image kept.image (g.met.T.Blocks.whole c.attach_both.new.target t) c.sectors.ensures (c.in-Ok.ensures.work s) in
    has_work _ _ _ _ _ _ prepared

pub returns-in-Ok-show-clause-left : goal.returns-in-Ok-show-clause-left
returns-in-Ok-show-clause-left g c = λ s t.
    let was = c.in_default.ensures.source s in
    let kept = c.in_default.ensures.target t in
    let prepared = prepared_before c.args.job.now (g.S.Blocks.image c.args.source.now) _ (g.T.Blocks.image c.args.target.now) _ _ _ c.in-Ok.prepared.writing (string_bytes c.in-Ok.prepared.lines.summary) (string_bytes c.in-Ok.prepared.lines.last)
    was.image kept.image (g.met.T.Blocks.whole c.attach_both.new.target t) c.sectors.ensures (c.in-Ok.ensures.work s) in
    let dry : not c.args.job.now.dry ≡ false = ap not c.if-job.true in
    left_dry c.args.job.now (g.S.Blocks.image c.args.source.now) (held g.T.Blocks g.T.Disk c.args.target.now) (held g.T.Blocks g.T.Disk c.attach_both.new.target) c.in-Ok.prepared.writing (string_bytes c.in-Ok.prepared.lines.summary) (string_bytes c.in-Ok.prepared.lines.last) kept prepared dry

pub returns-in-Ok-show-clause-printed : goal.returns-in-Ok-show-clause-printed
returns-in-Ok-show-clause-printed g c = λ s t o.
    let was = c.in_default.ensures.source s in
    let kept = c.in_default.ensures.target t in
    let prepared = prepared_before c.args.job.now (g.S.Blocks.image c.args.source.now) _ (g.T.Blocks.image c.args.target.now) _ _ _ c.in-Ok.prepared.writing (string_bytes c.in-Ok.prepared.lines.summary) (string_bytes c.in-Ok.prepared.lines.last)
    was.image kept.image (g.met.T.Blocks.whole c.attach_both.new.target t) c.sectors.ensures (c.in-Ok.ensures.work s) in
    record { before = (string_bytes c.in-Ok.prepared.lines.summary); after = (string_bytes c.in-Ok.prepared.lines.last); lines = lines_of_work _ _ _ _ _ _ prepared; gained = c.in-Ok-show.ensures.printed o }

pub returns-in-Err-show-clause-cause : goal.returns-in-Err-show-clause-cause
returns-in-Err-show-clause-cause g c = (c.in-Ok.ensures.shown c.in-Err-show.ensures.some, c.in-Err-show.ensures.cause)

pub returns-in-Err-show-clause-due : goal.returns-in-Err-show-clause-due
returns-in-Err-show-clause-due g c = λ s t.
    let was = c.in_default.ensures.source s in
    let kept = c.in_default.ensures.target t in
    let prepared = prepared_before c.args.job.now (g.S.Blocks.image c.args.source.now) _ (g.T.Blocks.image c.args.target.now) _ _ _ c.in-Ok.prepared.writing (string_bytes c.in-Ok.prepared.lines.summary) (string_bytes c.in-Ok.prepared.lines.last)
    was.image kept.image (g.met.T.Blocks.whole c.attach_both.new.target t) c.sectors.ensures (c.in-Ok.ensures.work s) in
    has_work _ _ _ _ _ _ prepared

pub returns-in-Err-show-clause-printed : goal.returns-in-Err-show-clause-printed
returns-in-Err-show-clause-printed g c = λ s t o.
    let was = c.in_default.ensures.source s in
    let kept = c.in_default.ensures.target t in
    let prepared = prepared_before c.args.job.now (g.S.Blocks.image c.args.source.now) _ (g.T.Blocks.image c.args.target.now) _ _ _ c.in-Ok.prepared.writing (string_bytes c.in-Ok.prepared.lines.summary) (string_bytes c.in-Ok.prepared.lines.last)
    was.image kept.image (g.met.T.Blocks.whole c.attach_both.new.target t) c.sectors.ensures (c.in-Ok.ensures.work s) in
    let dry : not c.args.job.now.dry ≡ false = ap not c.if-job.true in
    shows_part c.args.job.now (g.S.Blocks.image c.args.source.now) (held g.T.Blocks g.T.Disk c.args.target.now) (held g.T.Blocks g.T.Disk c.attach_both.new.target) c.in-Ok.prepared.writing (string_bytes c.in-Ok.prepared.lines.summary) (string_bytes c.in-Ok.prepared.lines.last) kept prepared _ _ dry (c.in-Err-show.ensures.part o)

pub returns-in-Ok-show-clause-moments : goal.returns-in-Ok-show-clause-moments
returns-in-Ok-show-clause-moments g c = λ s t stops settled.
    stops_waiting (resize_on c.args.job.now g.S.Blocks c.args.source.now g.T.Blocks c.args.target.now) _ _ _ (g.met.T.Disk.stops_are c.args.target.now stops) (c.in_default.ensures.waits stops) settled

pub returns-in-Ok-show-clause-source : goal.returns-in-Ok-show-clause-source
returns-in-Ok-show-clause-source g c = λ s.
    untouched_since _ _ _ _ (c.in_default.ensures.source s) (g.met.S.Blocks.same_image _ _ c.in-Ok.ensures.read s) (g.met.S.Disk.same_log _ _ c.in-Ok.ensures.read s)

pub returns-in-Err-show-clause-moments : goal.returns-in-Err-show-clause-moments
returns-in-Err-show-clause-moments g c = λ s t stops settled.
    stops_waiting (resize_on c.args.job.now g.S.Blocks c.args.source.now g.T.Blocks c.args.target.now) _ _ _ (g.met.T.Disk.stops_are c.args.target.now stops) (c.in_default.ensures.waits stops) settled

pub returns-in-Err-show-clause-source : goal.returns-in-Err-show-clause-source
returns-in-Err-show-clause-source g c = λ s.
    untouched_since _ _ _ _ (c.in_default.ensures.source s) (g.met.S.Blocks.same_image _ _ c.in-Ok.ensures.read s) (g.met.S.Disk.same_log _ _ c.in-Ok.ensures.read s)

pub returns-in-Ok-show-clause-settled : goal.returns-in-Ok-show-clause-settled
returns-in-Ok-show-clause-settled g c = λ stops.
    let dry : not c.args.job.now.dry ≡ false = ap not c.if-job.true in
    let kept = c.in_default.ensures.target (g.met.T.Disk.stops_told stops) in
    settled_dry (not c.args.job.now.dry) (held g.T.Blocks g.T.Disk c.args.target.now) (held g.T.Blocks g.T.Disk c.attach_both.new.target) dry (settled_waiting _ _ _ _ (c.in_default.ensures.waits stops) kept.image)
