-- What is printed of a text that is no tree.
use Rattle.std.specs.Prelude.{ℕ, List, ◌++◌, codes}
use Rattle.std.specs.Fmt.{decimal}
use Rattle.lvm_text.specs.declared.fault.TextFault.{TextFault}
use Rattle.lvm_text.specs.declared.fault.TextFault.TheVariants.{Token, Shape, Number, Depth, Memory}

abbrev pub tree_fault_text : TextFault → List ℕ
tree_fault_text (Token at) = codes "Token at=" ++ decimal at
tree_fault_text (Shape at) = codes "Shape at=" ++ decimal at
tree_fault_text (Number at) = codes "Number at=" ++ decimal at
tree_fault_text (Depth at) = codes "Depth at=" ++ decimal at
tree_fault_text Memory = codes "Memory"
