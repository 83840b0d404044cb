use Rattle.std.proofs.Common.{sym, ◌∙◌}
use Rattle.lvm_group.specs.Volumes.{names_of}
use Rattle.volume_choice.proofs.Names.{index_found, index_passed}
use Rattle.volume_choice.proofs.naming.place_of.Goals as goal

pub returns-then-eq : goal.returns-then-eq
returns-then-eq c =
    sym (index_found c.args.name.now (names_of c.args.group.now.spelt.logicals) _ _ c.lv_name.ensures (sym c.eq.ensures ∙ c.if-eq.true))
    ∙ c.loop-lv.invariant

pub loop-lv-preserved : goal.loop-lv-preserved
loop-lv-preserved c =
    sym (index_passed c.args.name.now (names_of c.args.group.now.spelt.logicals) _ _ c.lv_name.ensures (sym c.eq.ensures ∙ c.if-eq.false))
    ∙ c.loop-lv.invariant
