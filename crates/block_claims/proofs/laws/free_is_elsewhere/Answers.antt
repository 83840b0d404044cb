use Rattle.block_claims.proofs.Agreements.{agree_on_claimed, outside_of}
use Rattle.block_claims.proofs.laws.free_is_elsewhere.Goals as goal

pub returns-clause-elsewhere : goal.returns-clause-elsewhere
returns-clause-elsewhere c = agree_on_claimed

pub returns-clause-images : goal.returns-clause-images
returns-clause-images c = outside_of
