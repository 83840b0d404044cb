use Rattle.std.proofs.Common.{◌≡◌, ℕ, List, drop}
use Rattle.lvm_group.specs.inside.Names.{item_place, or_first, place_in_names}
use Rattle.lvm_group.proofs.names.item_places.Given as goal

abbrev pub invariant-loop-item : goal.invariant-loop-item
invariant-loop-item l = record {
  number : l.n ≡ l.item-index;
  places : (name : List ℕ) → or_first (place_in_names l.places name) (item_place l.n name (drop l.item-index l.items)) ≡ item_place 0 name l.items;
}
