use Rattle.std.proofs.Common.{arith}
use Rattle.std.proofs.lemmas.Grind.{common_steps}
use Rattle.mbr_table.specs.Chain.{own_logical}
use Rattle.mbr_table.proofs.chain.logical_in.Goals as goal

pub returns-then-not-is_used : goal.returns-then-not-is_used
unfolding own_logical
returns-then-not-is_used c = grind (arith, common_steps)

pub returns : goal.returns
unfolding own_logical
returns c = grind (arith, common_steps)
