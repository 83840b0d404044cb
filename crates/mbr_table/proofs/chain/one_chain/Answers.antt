use Rattle.mbr_table.proofs.Chains.{one_chain_at_most, none_bad, none_too_far}
use Rattle.mbr_table.proofs.chain.one_chain.Goals as goal

pub returns : goal.returns
returns c = λ image extended one is. (
  λ other other-is. one_chain_at_most image extended one other is other-is,
  λ at. none_bad image extended one at is,
  λ at. none_too_far image extended one at is,
)
