use Rattle.volume_content.proofs.Elsewhere as elsewhere
use Rattle.volume_content.proofs.laws.inner_stays.Goals as goal

pub returns : goal.returns
returns c = elsewhere.inner_stays
