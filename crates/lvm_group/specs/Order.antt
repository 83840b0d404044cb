-- What was found, in the order in which the text names it.
use Rattle.std.specs.Prelude.{List, [], ◌∷◌, Option, Some, None, if◌then◌else◌}
use Rattle.lvm_group.specs.declared.types.Member.{Member}
use Rattle.lvm_group.specs.declared.types.PhysicalVolume.{PhysicalVolume}
use Rattle.lvm_group.specs.Judged.{is_of}

-- the one that was found for a physical volume
abbrev pub found_for : PhysicalVolume → List Member → Option Member
found_for p [] = None
found_for p (m ∷ ms) = if is_of p m then Some m else found_for p ms

-- that one in front of the rest
abbrev pub with_found : Option Member → List Member → List Member
with_found None rest = rest
with_found (Some m) rest = m ∷ rest

-- for each physical volume the one that was found
abbrev pub in_order : List Member → List PhysicalVolume → List Member
in_order ms [] = []
in_order ms (p ∷ ps) = with_found (found_for p ms) (in_order ms ps)
