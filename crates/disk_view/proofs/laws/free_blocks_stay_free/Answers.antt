use Rattle.disk_view.proofs.Frames.{differs_in_free}
use Rattle.disk_view.proofs.laws.free_blocks_stay_free.Goals as goal

pub returns : goal.returns
returns c = differs_in_free
