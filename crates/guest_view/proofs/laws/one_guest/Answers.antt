use Rattle.guest_view.proofs.Alike as alike
use Rattle.guest_view.proofs.laws.one_guest.Goals as goal

pub returns : goal.returns
returns c = alike.one_guest
