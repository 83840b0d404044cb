-- What is printed of a content that isn't read.
use Rattle.std.specs.Prelude.{ℕ, List, codes}
use Rattle.lvm_group.specs.Text.{group_fault_text}
use Rattle.lvm_label.specs.Text.{ring_fault_text}
use Rattle.lvm_text.specs.Text.{tree_fault_text}
use Rattle.volume_content.specs.declared.content.Why.{Why}
use Rattle.volume_content.specs.declared.content.Why.TheVariants.{Other, NoGroup, Xfs, Swap, Ring, Text, Group}
use Rattle.xfs_super.specs.Text.{reason_text}

abbrev pub unread_text : Why → List ℕ
unread_text Other = codes "Other"
unread_text NoGroup = codes "NoGroup"
unread_text (Xfs reason) = reason_text reason
unread_text Swap = codes "Swap"
unread_text (Ring fault) = ring_fault_text fault
unread_text (Text fault) = tree_fault_text fault
unread_text (Group fault) = group_fault_text fault
