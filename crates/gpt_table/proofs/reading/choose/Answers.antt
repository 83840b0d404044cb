use Rattle.std.proofs.Common.{◌≡◌, ◌-◌, arith, subst}
use Rattle.gpt_table.specs.declared.reading.Found.{Found}
use Rattle.gpt_table.specs.inside.Reading.{IsHeaderFound}
use Rattle.gpt_table.proofs.Readings.{backup_chosen}
use Rattle.gpt_table.proofs.reading.choose.Goals as goal

pub returns-in-Valid-2-clause-chosen : goal.returns-in-Valid-2-clause-chosen
returns-in-Valid-2-clause-chosen g c =
    λ t.
    let size-is : g.B.Blocks.size c.look.new.disk ≡ g.B.Blocks.size c.args.disk.now = g.met.B.Blocks.same_size _ _ c.in_ok-look.ensures.read in
    let last-is : c.saturating_sub-last.result ≡ g.B.Blocks.size c.args.disk.now - 1 = omega (arith, c.saturating_sub-last.ensures, c.sectors.ensures) in
    backup_chosen (g.B.Blocks.size c.args.disk.now) (g.B.Blocks.size c.look.new.disk) c.saturating_sub-last.result (g.B.Blocks.image c.args.disk.now) (g.B.Blocks.image c.look.new.disk)
    c.in-Valid-2.header c.in-Valid-2.array size-is (g.met.B.Blocks.same_image _ _ c.in_ok-look.ensures.read t) last-is
    (subst (λ (f : Found). IsHeaderFound (g.B.Blocks.size c.args.disk.now) 1 (g.B.Blocks.image c.args.disk.now) f) c.in-Absent.is (c.in_ok-look.ensures.found t))
    (subst (λ (f : Found). IsHeaderFound (g.B.Blocks.size c.look.new.disk) c.saturating_sub-last.result (g.B.Blocks.image c.look.new.disk) f) c.in-Valid-2.is (c.in_ok-look-2.ensures.found t))
