use Rattle.std.proofs.Common.{ℕ, List, IfErr, subst}
use Rattle.std.proofs.lemmas.Result.{IfErr-weaker}
use Rattle.mbr_table.specs.Mbr.{IsSectorFault, HasMbrFault}
use Rattle.mbr_table.proofs.Tables.{sector_fault}
use Rattle.mbr_table.proofs.mbr.read_sector.Goals as goal

pub returns-clause-fault : goal.returns-clause-fault
returns-clause-fault g c = λ t.
    let size : ℕ = g.B.Blocks.size c.args.disk.now in
    let image : List ℕ = g.B.Blocks.image c.args.disk.now in
    let why : IfErr c.judge_sector.result (IsSectorFault size c.read.new.out) =
    subst (λ (n : ℕ). IfErr c.judge_sector.result (IsSectorFault n c.read.new.out)) c.sectors-sectors.ensures c.judge_sector.ensures.fault in
    IfErr-weaker c.judge_sector.result (IsSectorFault size c.read.new.out) (HasMbrFault size image)
    (λ fault. sector_fault size image c.read.new.out fault (c.in_ok-read.ensures.bytes t)) why
