use Rattle.std.proofs.Common.{sym, subst, ◌∙◌}
use Rattle.xfs_super.specs.Headers.{IsSoundAgi}
use Rattle.xfs_super.specs.Super.{geometry_of}
use Rattle.xfs_super.proofs.Judged.{agi_sound}
use Rattle.xfs_super.proofs.agi.agi_of.Goals as goal

pub returns-clause-sound : goal.returns-clause-sound
returns-clause-sound c =
    let g = geometry_of c.args.geo.now in
    let passes = sym c.passes-passes.ensures ∙ c.in_ok-judge.ensures.sound.test in
    subst (IsSoundAgi g c.args.group) (sym c.read-agi.ensures) (agi_sound g c.args.group c.args.bytes.now passes)
