use Rattle.std.proofs.Common.{◌∙◌}
use Rattle.lvm_group.proofs.Places.{get_is, none_at, some_at}
use Rattle.lvm_group.proofs.names.item_named.Goals as goal

pub returns-in-None : goal.returns-in-None
returns-in-None c = none_at c.args.items.now c.args.places.now c.args.wanted.now c.requires c.in-None.ensures.value

pub returns-in-Some : goal.returns-in-Some
returns-in-Some c =
    get_is c.args.items.now c.in-Some.place.now c.get-in-Some.result c.get-in-Some.ensures.lookup.3
    ∙ some_at c.args.items.now c.args.places.now c.args.wanted.now c.in-Some.place.now c.requires c.in-Some.ensures.value
