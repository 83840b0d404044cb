use Rattle.std.proofs.Common.{◌≡◌, ℕ, ◌<◌, List, subst, Contains}
use Rattle.std.proofs.lemmas.List.Elements.{All-contains}
use Rattle.layout_plan.specs.declared.part.Part.{Part}
use Rattle.layout_plan.specs.declared.wish.Wish.{Wish}
use Rattle.layout_plan.specs.Source.{IsPart}
use Rattle.layout_plan.specs.Wishes.{remaining, settled}
use Rattle.layout_plan.proofs.Named.{was_there}
use Rattle.layout_plan.proofs.Remains.{few_parts, keeps_pairs, small_part}
use Rattle.layout_plan.proofs.Settled.{remaining_stays}
use Rattle.layout_plan.proofs.Standing.{is_laid, is_remaining, outer_around, some_inner}
use Rattle.layout_plan.proofs.Turns.{other_numbers}
use Rattle.layout_plan.proofs.places.placed.Goals as goal

-- the part is one of those that remain
remains : (sectors : ℕ) (wishes settled_wishes : List Wish) (parts : List Part) (part : Part) → settled_wishes ≡ settled sectors wishes → Contains (remaining settled_wishes parts) part
    → Contains (remaining wishes parts) part
remains sectors wishes settled_wishes parts part same there =
    let Of : List Wish → Type 0 = λ all. Contains (remaining all parts) part in
    let In : List Part → Type 0 = λ rest. Contains rest part in
    subst In (remaining_stays sectors wishes parts) (subst Of same there)

pub spot_of-spot-requires-clause-other_numbers : goal.spot_of-spot-requires-clause-other_numbers
spot_of-spot-requires-clause-other_numbers c =
    let task = c.args.task.now in
    let laid = c.args.laid.now in
    let parts = task.parts.now in
    let wishes = task.wishes.now in
    rw c.deref.ensures.value
    (other_numbers (remaining wishes parts) laid.parts.items
    (is_remaining task.kind parts task.source wishes task.due.asked task.layout.now laid.sectors laid.parts.items laid.spots.items c.requires.laid.order)
    (keeps_pairs (λ (before after : Part). before.number < after.number) wishes parts task.source.by_number))

pub spot_of-spot-requires-clause-there : goal.spot_of-spot-requires-clause-there
spot_of-spot-requires-clause-there c =
    let task = c.args.task.now in
    let laid = c.args.laid.now in
    let parts = task.parts.now in
    let wishes = task.wishes.now in
    rw c.deref.ensures.value
    (is_laid task.kind parts task.source wishes task.due.asked task.layout.now laid.sectors laid.parts.items laid.spots.items c.requires.laid.order c.args.part.now
    (remains laid.sectors wishes laid.wishes.items parts c.args.part.now c.requires.laid.same_wishes c.requires.there))

pub number_of-requires : goal.number_of-requires
number_of-requires c = let task = c.args.task.now in few_parts task.kind task.parts.now task.source

pub length_of-requires-clause-small : goal.length_of-requires-clause-small
length_of-requires-clause-small c =
    let task = c.args.task.now in
    let there = was_there c.args.laid.now.wishes.items task.parts.now c.args.part.now c.requires.there in
    small_part task.kind c.args.part.now (All-contains (IsPart task.kind) task.parts.now c.args.part.now task.source.each there)

pub length_of-requires-clause-some : goal.length_of-requires-clause-some
length_of-requires-clause-some c =
    let task = c.args.task.now in
    let laid = c.args.laid.now in
    let parts = task.parts.now in
    let wishes = task.wishes.now in
    let there = is_laid task.kind parts task.source wishes task.due.asked task.layout.now laid.sectors laid.parts.items laid.spots.items c.requires.laid.order c.args.part.now
    (remains laid.sectors wishes laid.wishes.items parts c.args.part.now c.requires.laid.same_wishes c.requires.there) in
    some_inner task.kind parts task.source wishes task.due.asked task.layout.now laid.sectors laid.parts.items laid.spots.items c.requires.laid.order c.args.part.now there

pub length_of-requires-clause-around : goal.length_of-requires-clause-around
length_of-requires-clause-around c =
    let task = c.args.task.now in
    let laid = c.args.laid.now in
    let stands = rw (c.deref.ensures.value, c.deref-2.ensures.value) at c.spot_of-spot.ensures in
    λ extended last inner.
    outer_around task.kind task.parts.now task.source task.wishes.now task.due.asked task.layout.now laid.sectors laid.parts.items laid.spots.items c.requires.laid.order c.args.part.now
    c.spot_of-spot.result last stands extended inner

pub fate_of-requires : goal.fate_of-requires
fate_of-requires c =
    let task = c.args.task.now in
    let there = was_there c.args.laid.now.wishes.items task.parts.now c.args.part.now c.requires.there in
    small_part task.kind c.args.part.now (All-contains (IsPart task.kind) task.parts.now c.args.part.now task.source.each there)
