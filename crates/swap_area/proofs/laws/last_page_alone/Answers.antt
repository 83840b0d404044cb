use Rattle.swap_area.proofs.Pages.{differs_in_last_page, grown_is_swap}
use Rattle.swap_area.proofs.laws.last_page_alone.Goals as goal

pub returns-clause-same : goal.returns-clause-same
returns-clause-same c = differs_in_last_page

pub returns-clause-grown : goal.returns-clause-grown
returns-clause-grown c = λ last sectors room old new small h. grown_is_swap last old new small h sectors room
