use Rattle.volume_content.proofs.Stays.{content_stays}
use Rattle.volume_content.proofs.laws.free_of_inner_carries_nothing.Goals as goal

pub returns : goal.returns
returns c = content_stays
