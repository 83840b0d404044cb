use Rattle.swap_area.proofs.Ranges.{says_same, are_free_pages}
use Rattle.swap_area.proofs.laws.free_pages_carry_nothing.Goals as goal

pub returns-clause-same : goal.returns-clause-same
returns-clause-same c = says_same

pub returns-clause-inside : goal.returns-clause-inside
returns-clause-inside c = are_free_pages
