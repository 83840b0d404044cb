use Rattle.std.proofs.Common.{◌≡◌, IsTrue, All, map, take}
use Rattle.group_content.specs.Grouped.{HoldsInner, VolumeFits, runs_held, volume_places}
use Rattle.group_content.proofs.volumes.volumes_on.Given as goal

abbrev pub invariant-loop-lv : goal.invariant-loop-lv
invariant-loop-lv g l = record {
  read : g.B.Blocks.only_read l.initial.disk l.disk;
  place : map runs_held l.volumes.items ≡ take l.lv (volume_places l.members l.group);
  inners : IsTrue g.B.Blocks.tells → All (HoldsInner (g.B.Blocks.image l.initial.disk)) l.volumes.items;
  fits : All VolumeFits l.volumes.items;
}
