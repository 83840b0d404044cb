use Rattle.partition_content.proofs.Staying as staying
use Rattle.partition_content.proofs.laws.found_stays.Goals as goal

pub returns : goal.returns
returns c = staying.found_stays
