use Rattle.std.proofs.Common.{ℕ, ◌+◌, ◌%◌, List, sym, ap, ◌∙◌}
use Rattle.xfs_super.specs.Super.{geometry_of}
use Rattle.xfs_log.specs.inside.Finding.{sector_of_log}
use Rattle.xfs_log.proofs.Wholes.{due_more}
use Rattle.xfs_log.proofs.unmount.Unmount.is_whole.Goals as goal

pub loop-j-preserved : goal.loop-j-preserved
loop-j-preserved g c =
    let u = c.args.self.now in
    let place : ℕ = (u.place + c.loop-j.j) % u.room in
    record {
      read = g.met.B.Blocks.read_on _ _ _ c.loop-j.invariant.read c.in_ok-read_sector.ensures.read;
      due = λ told.
          let same = g.met.B.Blocks.same_image _ _ c.loop-j.invariant.read told in
          let here = c.in_ok-read_sector.ensures.bytes told ∙ ap (λ (i : List ℕ). sector_of_log (geometry_of c.args.geo.now) i place) same in
          due_more (sector_of_log (geometry_of c.args.geo.now) (g.B.Blocks.image c.args.disk.now)) u c.loop-j.j c.read_sector.new.out here
          (sym c.has_due.ensures ∙ c.if-not-has_due.false) (c.loop-j.invariant.due told);
    }
