use Rattle.guest_view.proofs.Staying as staying
use Rattle.guest_view.proofs.laws.contents_stay.Goals as goal

pub returns : goal.returns
returns c = record { found = staying.contents_are_found; stay = staying.contents_stay }
