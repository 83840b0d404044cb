use Rattle.std.proofs.Common.{◌+◌, ◌*◌, ◌^◌, ◌≤◌, arith}
use Rattle.xfs_inode.proofs.Chunking.{base_small}
use Rattle.xfs_inode.proofs.chunk.group_base.Goals as goal

pub returns-clause-small : goal.returns-clause-small
returns-clause-small c =
    let geo = c.args.geo.now in
    let low : geo.agblklog ≤ 28 = geo.groups.log in
    let few : geo.inopblog ≤ 3 = geo.sizes.inodes_most in
    let bound : c.args.group * 2 ^ (geo.agblklog + geo.inopblog) ≤ 2 ^ 63 = base_small c.args.group (geo.agblklog + geo.inopblog) (omega arith) (omega arith) in
    omega arith
