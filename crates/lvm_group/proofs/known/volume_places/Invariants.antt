use Rattle.std.proofs.Common.{◌≡◌, ℕ, List, drop}
use Rattle.lvm_group.specs.Spelt.{place_from}
use Rattle.lvm_group.specs.inside.Names.{or_first, place_in_names}
use Rattle.lvm_group.proofs.known.volume_places.Given as goal

abbrev pub invariant-loop-p : goal.invariant-loop-p
invariant-loop-p l = record {
  number : l.n ≡ l.p-index;
  places : (name : List ℕ) → or_first (place_in_names l.places name) (place_from l.n name (drop l.p-index l.list)) ≡ place_from 0 name l.list;
}
