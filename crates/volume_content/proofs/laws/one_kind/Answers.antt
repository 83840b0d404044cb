use Rattle.volume_content.proofs.Alike.{is_alike}
use Rattle.volume_content.proofs.laws.one_kind.Goals as goal

pub returns : goal.returns
returns c = is_alike
