use Rattle.group_content.proofs.Alike as alike
use Rattle.group_content.proofs.laws.one_standing.Goals as goal

pub returns : goal.returns
returns c = alike.one_standing
