use Rattle.std.proofs.Common.{arith, refl}
use Rattle.std.proofs.lemmas.Option.{slice_get_read}
use Rattle.free_sectors.specs.Free.{PartKeeps, SomePart}
use Rattle.free_sectors.specs.inside.Adding.{DoesItem, SomeBelow}
use Rattle.free_sectors.proofs.Adding.{Gathers-as, Gathers-item, Gathers-start}
use Rattle.free_sectors.proofs.Free.{part_some, some_part}
use Rattle.free_sectors.proofs.part.keep_parts.Goals as goal

pub loop-part-init : goal.loop-part-init
loop-part-init c = Gathers-start c.args.out.now (DoesItem c.args.parts.now (PartKeeps c.args.choices.now c.args.parts.now))

pub loop-part-preserved : goal.loop-part-preserved
loop-part-preserved c =
    let parts = c.args.parts.now in
    Gathers-item c.args.out.now c.loop-part.out c.keep_part.new.out parts (PartKeeps c.args.choices.now parts) c.loop-part.part-index c.part-item.result c.loop-part.invariant
    (slice_get_read parts _ c.loop-part.part-index c.part-item.result refl (omega arith) c.part-item.is) c.in_ok-keep_part.ensures

pub returns : goal.returns
returns c =
    let parts = c.args.parts.now in
    let does = PartKeeps c.args.choices.now parts in
    let n = c.loop-part.part-index in
    Gathers-as c.args.out.now c.loop-part.out (SomeBelow n (DoesItem parts does)) (λ x. SomePart (λ part. does part x) parts) c.loop-part.invariant
    (λ x on some. some_part parts does n x some)
    (λ x on some. part_some parts does n x (omega arith) some)
