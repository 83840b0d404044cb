use Rattle.std.proofs.Common.{◌<◌, rules, arith}
use Rattle.mbr_table.specs.Signature.{HasSignature}
use Rattle.mbr_table.specs.Mbr.{IsFirstBadSlot, slots_of}
use Rattle.mbr_table.proofs.sector.judge_sector.Goals as goal

pub returns-in-Some-clause-fault : goal.returns-in-Some-clause-fault
returns-in-Some-clause-fault c =
    let some : 0 < c.args.sectors = omega arith in
    let signed : HasSignature c.args.sector.now = c.has_signature.ensures.0 (search rules) in
    let first : IsFirstBadSlot c.args.sectors (slots_of c.args.sector.now) c.in-Some.number = rw c.slots_in-slots.ensures at c.in-Some.ensures in
    (some, signed, first)

pub returns-clause-table : goal.returns-clause-table
returns-clause-table c =
    let some : 0 < c.args.sectors = omega arith in
    let signed : HasSignature c.args.sector.now = c.has_signature.ensures.0 (search rules) in
    record {
      some = some;
      signature = signed;
      head = c.copy_from_slice.ensures.after;
      slots = c.slots_in-slots.ensures;
      sound = c.in_default.ensures;
    }
