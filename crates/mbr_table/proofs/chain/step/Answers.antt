use Rattle.std.proofs.Common.{ℕ, List, subst}
use Rattle.std.proofs.lemmas.Result.{err_from_is_err_and}
use Rattle.mbr_table.specs.inside.Walk.{IsNew, IsPlaceFault}
use Rattle.mbr_table.proofs.Walks.{walk_more, within_more, place_fault, record_fault}
use Rattle.mbr_table.proofs.chain.step.Goals as goal

pub returns-in_err-place-clause-fault : goal.returns-in_err-place-clause-fault
returns-in_err-place-clause-fault g c = λ t.
    let why : IsPlaceFault c.args.extended.now c.args.walk.now.places.items c.args.at c.in_err-place.field-0.0 =
    subst (λ (l : List ℕ). IsPlaceFault c.args.extended.now l c.args.at c.in_err-place.field-0.0) c.deref.ensures.value c.in_err-place.ensures.fault in
    let p = err_from_is_err_and c.from_residual.result c.from_residual.ensures.1 in
    rw (p.1, p.2) (λ is. place_fault (g.B.Blocks.image c.args.disk.now) c.args.extended.now c.args.walk.now c.args.at c.in_err-place.field-0.0 is why)

pub returns-in_err-found-clause-fault : goal.returns-in_err-found-clause-fault
returns-in_err-found-clause-fault g c = λ t.
    let place = c.in_ok-place.ensures.place in
    let is_new : IsNew c.args.extended.now c.args.walk.now.places.items c.args.at =
    subst (λ (l : List ℕ). IsNew c.args.extended.now l c.args.at) c.deref.ensures.value place.1 in
    let p = err_from_is_err_and c.from_residual-in_err-found.result c.from_residual-in_err-found.ensures.1 in
    rw (p.1, p.2) (λ is.
    record_fault (g.B.Blocks.image c.args.disk.now) c.args.extended.now c.args.walk.now c.args.at c.in_ok-place.place c.in_err-found.field-0.0 place.0 is is_new
    (c.in_err-found.ensures.fault t))

pub returns-clause-within : goal.returns-clause-within
returns-clause-within g c =
    let place = c.in_ok-place.ensures.place in
    let is_new : IsNew c.args.extended.now c.args.walk.now.places.items c.args.at =
    subst (λ (l : List ℕ). IsNew c.args.extended.now l c.args.at) c.deref.ensures.value place.1 in
    let found = c.in_ok-found.ensures.found in
    within_more c.args.extended.now c.args.walk.now c.add.new.self c.args.at c.in_ok-place.place found.bytes c.in_ok-found.found
    c.requires.within is_new found.says c.in_ok-add.ensures.places c.in_ok-add.ensures.logicals

pub returns-clause-walked : goal.returns-clause-walked
returns-clause-walked g c = λ t is.
    let place = c.in_ok-place.ensures.place in
    let is_new : IsNew c.args.extended.now c.args.walk.now.places.items c.args.at =
    subst (λ (l : List ℕ). IsNew c.args.extended.now l c.args.at) c.deref.ensures.value place.1 in
    let found = c.in_ok-found.ensures.found in
    walk_more (g.B.Blocks.image c.args.disk.now) c.args.extended.now c.args.walk.now c.add.new.self c.args.at c.in_ok-place.place found.bytes c.in_ok-found.found
    place.0 is is_new (found.told t) found.says c.in_ok-add.ensures.places c.in_ok-add.ensures.logicals c.in_ok-add.ensures.next
