use Rattle.std.proofs.Common.{sym, subst, ◌∙◌}
use Rattle.xfs_super.specs.Headers.{IsSoundAgf}
use Rattle.xfs_super.specs.Super.{geometry_of}
use Rattle.xfs_super.proofs.Judged.{agf_sound}
use Rattle.xfs_super.proofs.agf.agf_of.Goals as goal

pub returns-clause-sound : goal.returns-clause-sound
returns-clause-sound c =
    let g = geometry_of c.args.geo.now in
    let passes = sym c.passes-passes.ensures ∙ c.in_ok-judge.ensures.sound.test in
    subst (IsSoundAgf g c.args.group) (sym c.read-agf.ensures) (agf_sound g c.args.group c.args.bytes.now passes)
