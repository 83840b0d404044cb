use Rattle.std.proofs.Common.{arith}
use Rattle.std.proofs.lemmas.Grind.{common_steps}
use Rattle.mbr_table.specs.Chain.{next_of, link_of}
use Rattle.mbr_table.proofs.chain.next_in.Goals as goal

pub returns-then-link-eq0 : goal.returns-then-link-eq0
unfolding next_of link_of
returns-then-link-eq0 c = grind (arith, common_steps)

pub returns : goal.returns
unfolding next_of link_of
returns c = grind (arith, common_steps)
