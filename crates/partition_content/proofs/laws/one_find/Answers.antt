use Rattle.partition_content.proofs.Unique as unique
use Rattle.partition_content.proofs.laws.one_find.Goals as goal

pub returns : goal.returns
returns c = unique.one_find
