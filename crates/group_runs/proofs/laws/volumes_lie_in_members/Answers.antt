use Rattle.group_runs.proofs.Lying.{runs_on_disk, volumes_apart, volumes_in_devices, volumes_in_members}
use Rattle.group_runs.proofs.laws.volumes_lie_in_members.Goals as goal

pub returns : goal.returns
returns c = record { inside = volumes_in_members; devices = volumes_in_devices; apart = volumes_apart; on_disk = runs_on_disk }
