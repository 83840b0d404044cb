use Rattle.std.proofs.Common.{◌≡◌, IsTrue, All, length}
use Rattle.group_content.specs.Standing.{HoldInners, StandingFits}
use Rattle.group_content.specs.inside.Firsts.{AreStandingsOf}
use Rattle.group_content.proofs.standing.standings.Given as goal

abbrev pub invariant-loop-partition : goal.invariant-loop-partition
invariant-loop-partition g l = record {
  read : g.B.Blocks.only_read l.initial.disk l.disk;
  long : length l.standings.items ≡ l._partition-index;
  known : AreStandingsOf l.partitions l.standings.items;
  inners : IsTrue g.B.Blocks.tells → All (HoldInners (g.B.Blocks.image l.initial.disk)) l.standings.items;
  fits : All StandingFits l.standings.items;
}
