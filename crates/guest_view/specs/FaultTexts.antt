-- What is printed of a disk that is no guest.
use Rattle.std.specs.Prelude.{ℕ, List, ◌++◌, codes}
use Rattle.std.specs.Fmt.{decimal}
use Rattle.guest_view.specs.declared.fault.InspectFault.{InspectFault}
use Rattle.guest_view.specs.declared.fault.InspectFault.TheVariants.{TooLarge, NoSignature, Entry, Chain, TooMany, NoHeader, Shape, Overlap, Device, Memory}

abbrev pub inspect_text : InspectFault → List ℕ
inspect_text (TooLarge sectors) = codes "TooLarge sectors=" ++ decimal sectors
inspect_text NoSignature = codes "NoSignature"
inspect_text (Entry number) = codes "Entry number=" ++ decimal number
inspect_text (Chain at) = codes "Chain at=" ++ decimal at
inspect_text (TooMany at) = codes "TooMany at=" ++ decimal at
inspect_text NoHeader = codes "NoHeader"
inspect_text (Shape count size) = codes "Shape count=" ++ (decimal count ++ (codes " size=" ++ decimal size))
inspect_text (Overlap a b) = codes "Overlap a=" ++ (decimal a ++ (codes " b=" ++ decimal b))
inspect_text Device = codes "Device"
inspect_text Memory = codes "Memory"
