use Rattle.std.proofs.Common.{◌≡◌, drop}
use Rattle.group_content.specs.Grouped.{device_from}
use Rattle.group_content.proofs.members.device_of.Given as goal

abbrev pub invariant-loop-m : goal.invariant-loop-m
invariant-loop-m l =
    device_from l.m l.group.spelt.extent l.number (drop l.m l.group.members) l.group.spelt.physicals
    ≡ device_from 0 l.group.spelt.extent l.number l.group.members l.group.spelt.physicals
