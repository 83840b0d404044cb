-- What the functions give that judge a group.
use Rattle.std.specs.Prelude.{◌≡◌, Option, None}
use Rattle.lvm_group.specs.declared.types.Spelt.{Spelt}
use Rattle.lvm_group.specs.declared.reading.Lying.{Lying}
use Rattle.lvm_group.specs.declared.fault.GroupFault.{GroupFault}
use Rattle.lvm_group.specs.Free.{AreFreeIn}
use Rattle.lvm_group.specs.Volumes.{volumes_with}

-- there is no fault, the volumes lie so, and this is free
abbrev pub IsGroupJudged : Option GroupFault → Spelt → Lying → Type 0
IsGroupJudged due g lying =
    (due ≡ None) × (lying.volumes ≡ volumes_with g.physicals g.extent g.logicals) × AreFreeIn g lying.free
