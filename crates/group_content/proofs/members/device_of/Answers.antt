use Rattle.std.proofs.Common.{arith, sym, ◌∙◌}
use Rattle.group_content.proofs.Owning.{device_here, device_later}
use Rattle.group_content.proofs.members.device_of.Goals as goal

pub returns-then-member-number : goal.returns-then-member-number
returns-then-member-number c =
    c.device_sectors.ensures
    ∙ sym (device_here c.args.group.now.members c.args.group.now.spelt.physicals c.args.group.now.spelt.extent c.args.number c.loop-m.m c.member.result.now c.member.ensures (omega (arith, c.if-member-number.true)))
    ∙ c.loop-m.invariant

pub loop-m-preserved : goal.loop-m-preserved
loop-m-preserved c =
    device_later c.args.group.now.members c.args.group.now.spelt.physicals c.args.group.now.spelt.extent c.args.number c.loop-m.m c.member.result.now c.member.ensures
    (λ e. omega (arith, c.if-member-number.false, e)) ∙ c.loop-m.invariant
