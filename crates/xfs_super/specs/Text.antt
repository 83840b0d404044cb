-- What is printed of a reason: its name, and each of its fields in order, as ` name=value`.
use Rattle.std.specs.Prelude.{ℕ, List, ◌++◌, codes}
use Rattle.std.specs.Fmt.{decimal}
use Rattle.xfs_super.specs.declared.reason.CheckFault.{CheckFault}
use Rattle.xfs_super.specs.declared.reason.CheckFault.TheVariants.{Bad, Device, Memory}
use Rattle.xfs_super.specs.declared.reason.Reason.{Reason}
use Rattle.xfs_super.specs.declared.reason.Reason.TheVariants.{Geometry, Feature, Reflink, ReverseMap, RealTime, ExternalLog, NeedsRepair, InProgress, Checksum, Header, Tree, FreeTreesDiffer, FreeCount, Inode, Extent, Directory, ClaimedTwice, DirtyLog, LogShape}

abbrev pub reason_text : Reason → List ℕ
reason_text Geometry = codes "Geometry"
reason_text Feature = codes "Feature"
reason_text Reflink = codes "Reflink"
reason_text ReverseMap = codes "ReverseMap"
reason_text RealTime = codes "RealTime"
reason_text ExternalLog = codes "ExternalLog"
reason_text NeedsRepair = codes "NeedsRepair"
reason_text InProgress = codes "InProgress"
reason_text (Checksum sector) = codes "Checksum sector=" ++ decimal sector
reason_text (Header sector) = codes "Header sector=" ++ decimal sector
reason_text (Tree group block) = codes "Tree group=" ++ (decimal group ++ (codes " block=" ++ decimal block))
reason_text (FreeTreesDiffer group) = codes "FreeTreesDiffer group=" ++ decimal group
reason_text (FreeCount group stored found) =
    codes "FreeCount group=" ++ (decimal group ++ (codes " stored=" ++ (decimal stored ++ (codes " found=" ++ decimal found))))
reason_text (Inode ino) = codes "Inode ino=" ++ decimal ino
reason_text (Extent ino) = codes "Extent ino=" ++ decimal ino
reason_text (Directory ino block) = codes "Directory ino=" ++ (decimal ino ++ (codes " block=" ++ decimal block))
reason_text (ClaimedTwice block) = codes "ClaimedTwice block=" ++ decimal block
reason_text DirtyLog = codes "DirtyLog"
reason_text LogShape = codes "LogShape"

abbrev pub fault_text : CheckFault → List ℕ
fault_text (Bad reason) = reason_text reason
fault_text Device = codes "Device"
fault_text Memory = codes "Memory"
