-- What is printed of a text and members that are no group.
use Rattle.std.specs.Prelude.{ℕ, List, ◌++◌, codes}
use Rattle.std.specs.Fmt.{decimal}
use Rattle.lvm_group.specs.declared.fault.GroupFault.{GroupFault}
use Rattle.lvm_group.specs.declared.fault.GroupFault.TheVariants.{Field, Members, Kind, Segments, Memory}

abbrev pub group_fault_text : GroupFault → List ℕ
group_fault_text Field = codes "Field"
group_fault_text Members = codes "Members"
group_fault_text (Kind lv) = codes "Kind lv=" ++ decimal lv
group_fault_text (Segments lv) = codes "Segments lv=" ++ decimal lv
group_fault_text Memory = codes "Memory"
