use Rattle.std.proofs.Common.{subst, sym}
use Rattle.disk_fixtures.specs.Sums.{sum_place, HasSummedSector}
use Rattle.disk_fixtures.specs.declared.xfs.Header.{Header}
use Rattle.disk_fixtures.proofs.xfs.Volume.header.Goals as goal

pub returns-in-Superblock : goal.returns-in-Superblock
returns-in-Superblock c =
    subst (λ (h : Header). HasSummedSector c.args.self.now.large (sum_place h) c.superblock.result) (sym c.in-Superblock.is) c.superblock.ensures
