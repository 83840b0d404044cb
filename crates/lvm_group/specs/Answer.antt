-- The group that is answered, and which fault.
use Rattle.std.specs.Prelude.{◌≡◌, List, Option, Some, None}
use Rattle.lvm_text.specs.declared.tree.Item.{Item}
use Rattle.lvm_text.specs.Tree.{items_in}
use Rattle.lvm_group.specs.declared.types.Member.{Member}
use Rattle.lvm_group.specs.declared.group.Group.{Group}
use Rattle.lvm_group.specs.declared.fault.GroupFault.{GroupFault}
use Rattle.lvm_group.specs.declared.fault.GroupFault.TheVariants as fault
use Rattle.lvm_group.specs.Spelt.{spelt}
use Rattle.lvm_group.specs.Judged.{group_fault}
use Rattle.lvm_group.specs.Order.{in_order}
use Rattle.lvm_group.specs.Free.{AreFreeIn}
use Rattle.lvm_group.specs.Volumes.{volumes_with}

-- a fault that is answered is the one that is due; memory may be refused
abbrev pub IsFaultDue : Option GroupFault → GroupFault → Type 0
IsFaultDue due fault.Field = due ≡ Some fault.Field
IsFaultDue due fault.Members = due ≡ Some fault.Members
IsFaultDue due (fault.Kind n) = due ≡ Some (fault.Kind n)
IsFaultDue due (fault.Segments n) = due ≡ Some (fault.Segments n)
IsFaultDue due fault.Memory = Unit {0}

-- a fault of the group that items spell over these members
abbrev pub IsGroupFault : List Item → List Member → GroupFault → Type 0
IsGroupFault items ms fault = IsFaultDue (group_fault items ms) fault

-- the group that the items spell over these members
pub record IsGroup (items : List Item) (ms : List Member) (g : Group) : Type 0 where
  pub sound : group_fault items ms ≡ None
  pub spelled : spelt items ≡ Some g.spelt
  pub text : items_in g.tree ≡ items
  pub members : g.members ≡ in_order ms g.spelt.physicals
  pub volumes : g.volumes ≡ volumes_with g.spelt.physicals g.spelt.extent g.spelt.logicals
  pub free : AreFreeIn g.spelt g.free
