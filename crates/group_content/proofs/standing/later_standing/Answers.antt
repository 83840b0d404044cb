use Rattle.std.proofs.Common.{refl, sym, subst}
use Rattle.group_content.specs.declared.types.Standing.{Standing}
use Rattle.group_content.specs.declared.types.Standing.TheVariants.{Member}
use Rattle.group_content.specs.inside.Firsts.{IsSeenFrom}
use Rattle.group_content.proofs.Seeing.{seen_holder}
use Rattle.group_content.proofs.standing.later_standing.Goals as goal

pub returns-in-Holder-clause-seen : goal.returns-in-Holder-clause-seen
returns-in-Holder-clause-seen c =
    subst (λ (s : Standing). IsSeenFrom c.args.number s (Member (record { holder = c.in-Holder.membership.holder; device = c.device_of.result }))) (sym c.in-Holder.is)
    (seen_holder c.args.number c.in-Holder.membership (record { holder = c.in-Holder.membership.holder; device = c.device_of.result }) c.in-Holder.content refl c.device_of.ensures)
