-- What is printed of an area that has no text.
use Rattle.std.specs.Prelude.{ℕ, List, codes}
use Rattle.lvm_label.specs.declared.fault.RingFault.{RingFault}
use Rattle.lvm_label.specs.declared.fault.RingFault.TheVariants.{Place, Header, Ignored, Empty, Checksum, Device, Memory}

abbrev pub ring_fault_text : RingFault → List ℕ
ring_fault_text Place = codes "Place"
ring_fault_text Header = codes "Header"
ring_fault_text Ignored = codes "Ignored"
ring_fault_text Empty = codes "Empty"
ring_fault_text Checksum = codes "Checksum"
ring_fault_text Device = codes "Device"
ring_fault_text Memory = codes "Memory"
