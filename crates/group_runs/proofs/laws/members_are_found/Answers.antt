use Rattle.group_runs.proofs.Lying.{devices_fit, different_members, found_members}
use Rattle.group_runs.proofs.laws.members_are_found.Goals as goal

pub returns : goal.returns
returns c = record { found = found_members; differ = different_members; devices = devices_fit }
