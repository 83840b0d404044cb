use Rattle.disk_base.proofs.Checksums.{all_checksums}
use Rattle.disk_base.proofs.checksum.one_checksum.Goals as goal

pub returns : goal.returns
returns c = all_checksums
