-- What a partition is in its table, and which partitions are numbered together.
use Rattle.std.specs.Prelude.{Bool, true, false, not, if◌then◌else◌, List}
use Rattle.std.specs.List.{list_any}
use Rattle.layout_plan.specs.declared.part.Part.{Part}
use Rattle.layout_plan.specs.declared.part.Role.{Role}
use Rattle.layout_plan.specs.declared.part.Role.TheVariants.{Slot, Extended, Logical}

abbrev pub is_extended_role : Role → Bool
is_extended_role Extended = true
is_extended_role Slot = false
is_extended_role Logical = false

abbrev pub is_logical : Role → Bool
is_logical Logical = true
is_logical Slot = false
is_logical Extended = false

-- whether one of the parts is a logical partition
abbrev pub has_logical : List Part → Bool
has_logical parts = list_any (λ (part : Part). is_logical part.role) parts

-- whether two parts are numbered together: logical partitions are a class of their own
abbrev pub same_class : Part → Part → Bool
same_class one other = if is_logical one.role then is_logical other.role else not (is_logical other.role)
