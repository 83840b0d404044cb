use Rattle.std.proofs.Common.{ℕ, List, subst}
use Rattle.std.specs.Result.{OnOk, IfErr}
use Rattle.xfs_inode.specs.Inode.{front_inode, IsSoundAs, HasInodeFaultAs}
use Rattle.xfs_inode.proofs.inode.read_inode.Goals as goal

pub returns-clause-sound : goal.returns-clause-sound
returns-clause-sound g c =
    λ told.
    let image : List ℕ = g.B.Blocks.image c.args.disk.now in
    let same = g.met.B.Blocks.same_image _ _ c.in_ok-read_bytes.ensures.read told in
    let there = subst (λ (i : List ℕ). OnOk c.inode_in.result (IsSoundAs c.args.geo.now c.args.ino (front_inode c.args.geo.now c.read_bytes.new.out) i)) same (c.inode_in.ensures.sound told) in
    subst (λ (l : List ℕ). OnOk c.inode_in.result (IsSoundAs c.args.geo.now c.args.ino l image)) (c.in_ok-read_bytes.ensures.bytes told) there

pub returns-clause-fault : goal.returns-clause-fault
returns-clause-fault g c =
    λ told.
    let image : List ℕ = g.B.Blocks.image c.args.disk.now in
    let same = g.met.B.Blocks.same_image _ _ c.in_ok-read_bytes.ensures.read told in
    let there = subst (λ (i : List ℕ). IfErr c.inode_in.result (HasInodeFaultAs c.args.geo.now c.args.ino (front_inode c.args.geo.now c.read_bytes.new.out) i)) same (c.inode_in.ensures.fault told) in
    subst (λ (l : List ℕ). IfErr c.inode_in.result (HasInodeFaultAs c.args.geo.now c.args.ino l image)) (c.in_ok-read_bytes.ensures.bytes told) there
