use Rattle.std.proofs.Common.{◌≡◌, List, ◌++◌, ◌∷◌, [], take, ap, sym, ◌∙◌}
use Rattle.disk_base.specs.declared.run.Run.{Run}
use Rattle.group_content.specs.Grouped.{member_runs}
use Rattle.group_content.proofs.Owning.{one_run_more}
use Rattle.group_content.proofs.members.member_runs.Goals as goal

pub loop-m-preserved : goal.loop-m-preserved
loop-m-preserved c =
    c.in_ok-push.ensures.items ∙ ap (λ (runs : List Run). runs ++ c.run_numbered.result ∷ []) c.loop-m.invariant
    ∙ ap (λ (run : Run). member_runs c.args.partitions.now (take c.loop-m.m c.args.group.now.members) ++ run ∷ []) c.run_numbered.ensures ∙ sym (one_run_more c.args.partitions.now c.args.group.now.members c.loop-m.m c.member.result.now c.member.ensures)
