-- The table is what sector 0 says, and the list that its extended partition has.
use Rattle.std.proofs.Common.{◌≡◌, ℕ, List, [], Err, ap, subst, arith}
use Rattle.std.proofs.lemmas.Result.{err_from_is_err_and}
use Rattle.disk_base.specs.Image.{sector}
use Rattle.mbr_table.specs.declared.fault.MbrFault.TheVariants.{Device}
use Rattle.mbr_table.specs.Mbr.{Table, IsSectorTable, AreLogicals}
use Rattle.mbr_table.specs.inside.Walk.{IsLogicalsFault}
use Rattle.mbr_table.proofs.Tables.{logicals_fault}
use Rattle.mbr_table.proofs.mbr.read_table.Goals as goal

pub read_logicals-requires-clause-sound : goal.read_logicals-requires-clause-sound
read_logicals-requires-clause-sound g c =
    rw (g.met.B.Blocks.same_size _ _ c.in_ok-found.ensures.read) c.in_ok-found.ensures.found.says.sound

pub read_logicals-requires-clause-addressed : goal.read_logicals-requires-clause-addressed
read_logicals-requires-clause-addressed g c =
    rw (g.met.B.Blocks.same_size _ _ c.in_ok-found.ensures.read) c.requires.addressed

pub returns-in_err-logicals-clause-read : goal.returns-in_err-logicals-clause-read
returns-in_err-logicals-clause-read g c = g.met.B.Blocks.read_on _ _ _ c.in_ok-found.ensures.read c.in_err-logicals.ensures.read

pub returns-in_err-logicals-clause-fault : goal.returns-in_err-logicals-clause-fault
returns-in_err-logicals-clause-fault g c = λ t.
    let size : ℕ = g.B.Blocks.size c.args.disk.now in
    let image : List ℕ = g.B.Blocks.image c.args.disk.now in
    let found = c.in_ok-found.ensures.found in
    let table : Table = record { head = c.in_ok-found.found.head; slots = c.in_ok-found.found.slots; logicals = [] } in
    let says : IsSectorTable size (sector image 0) table = subst (λ (b : List ℕ). IsSectorTable size b table) (found.told t) found.says in
    let why : IsLogicalsFault image table.slots c.in_err-logicals.field-0.0 =
    subst (λ (i : List ℕ). IsLogicalsFault i table.slots c.in_err-logicals.field-0.0) (g.met.B.Blocks.same_image _ _ c.in_ok-found.ensures.read t) (c.in_err-logicals.ensures.fault t) in
    let p = err_from_is_err_and c.from_residual-in_err-logicals.result c.from_residual-in_err-logicals.ensures.1 in
    rw (p.1, p.2) (logicals_fault size image table c.in_err-logicals.field-0.0 says why)

pub returns-in_err-logicals-clause-device : goal.returns-in_err-logicals-clause-device
returns-in_err-logicals-clause-device g c =
    let p = err_from_is_err_and c.from_residual-in_err-logicals.result c.from_residual-in_err-logicals.ensures.1 in
    rw (p.1, p.2) (λ is.
    let same : c.in_err-logicals.field-0.0 ≡ Device = cc in
    omega (arith, c.in_err-logicals.ensures.device (ap Err same), g.met.B.Blocks.no_fewer _ _ c.in_ok-found.ensures.read))

pub returns-clause-read : goal.returns-clause-read
returns-clause-read g c = g.met.B.Blocks.read_on _ _ _ c.in_ok-found.ensures.read c.in_ok-logicals.ensures.read

pub returns-clause-table : goal.returns-clause-table
returns-clause-table g c = λ t.
    let size : ℕ = g.B.Blocks.size c.args.disk.now in
    let image : List ℕ = g.B.Blocks.image c.args.disk.now in
    let found = c.in_ok-found.ensures.found in
    let table : Table = record { head = c.in_ok-found.found.head; slots = c.in_ok-found.found.slots; logicals = c.in_ok-logicals.logicals.items } in
    let says : IsSectorTable size found.bytes table = record {
      some = found.says.some;
      signature = found.says.signature;
      head = found.says.head;
      slots = found.says.slots;
      sound = found.says.sound;
    } in
    record {
      in_sector = subst (λ (b : List ℕ). IsSectorTable size b table) (found.told t) says;
      logicals = subst (λ (i : List ℕ). AreLogicals i table.slots table.logicals) (g.met.B.Blocks.same_image _ _ c.in_ok-found.ensures.read t) (c.in_ok-logicals.ensures.logicals t);
    }
