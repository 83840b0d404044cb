use Rattle.std.proofs.Common.{◌≡◌, subst, sym, ap, ◌∙◌, arith}
use Rattle.mbr_table.specs.Signature.{HasSignature}
use Rattle.mbr_table.specs.Slot.{slot_of, kept_slot, slot_entry}
use Rattle.mbr_table.specs.Chain.{own_of, next_of}
use Rattle.mbr_table.proofs.Records.{record_written, record_signed, own_reads_back, next_reads_back, start_back}
use Rattle.mbr_table.proofs.writing.ebr_sector.Goals as goal

pub returns-clause-bytes : goal.returns-clause-bytes
returns-clause-bytes c =
    record_written c.args.own.now c.args.next c.args.out.now c.put.new.out c.put-2.new.out c.put-3.new.out c.put-4.new.out c.put-5.new.out
    c.entry.result c.link_entry.result c.entry.ensures.bytes c.link_entry.ensures.bytes (omega arith)
    c.put.ensures.appended c.put-2.ensures.appended c.put-3.ensures.appended c.put-4.ensures.appended c.put-5.ensures.appended

pub returns-clause-own : goal.returns-clause-own
returns-clause-own c =
    let back : slot_of (slot_entry c.args.own.now) ≡ kept_slot c.args.own.now = ap slot_of (sym c.entry.ensures.bytes) ∙ c.entry.ensures.read_back in
    ap own_of (returns-clause-bytes c) ∙ own_reads_back c.args.own.now c.args.next back

pub returns-clause-next : goal.returns-clause-next
returns-clause-next c = λ base.
    ap (next_of base) (returns-clause-bytes c)
    ∙ next_reads_back base c.args.own.now c.args.next (start_back c.args.next c.link_entry.result c.link_entry.ensures.bytes c.link_entry.ensures.read_back)

pub returns-clause-signature : goal.returns-clause-signature
returns-clause-signature c = subst HasSignature (sym (returns-clause-bytes c)) (record_signed c.args.own.now c.args.next)
