use Rattle.std.proofs.Common.{◌≡◌, ◌<◌, ◌∙◌, ap, sym, arith, below_more, get_or, length, None, ℕ}
use Rattle.std.proofs.lemmas.List.{get_or_default}
use Rattle.gpt_table.specs.Entry.{entry_of, used, kept_entry, slot_bytes, slot_at}
use Rattle.gpt_table.proofs.Written.{slots_back, written_more, written_all, reads_as}
use Rattle.gpt_table.proofs.writing.gpt_entries.Goals as goal

pub loop-i-preserved : goal.loop-i-preserved
loop-i-preserved c =
    let lt : c.loop-i.i < 128 = omega (arith, c.slots-slot-items.ensures.count) in
    let count : length c.args.gpt.now.entries ≡ 128 = ap length (sym c.slots-slot-items.ensures.slots) ∙ c.slots-slot-items.ensures.count in
    let item : c.slot-item.result ≡ get_or c.args.gpt.now.entries c.loop-i.i None =
    c.slot-item.is ∙ ap (λ l. get_or l c.loop-i.i c.slot-item.result) c.slots-slot-items.ensures.slots ∙ get_or_default c.args.gpt.now.entries c.loop-i.i c.slot-item.result None (omega arith) in
    let bytes : c.slot_bytes.result ≡ slot_bytes (get_or c.args.gpt.now.entries c.loop-i.i None) = c.slot_bytes.ensures.bytes ∙ ap slot_bytes item in
    let bytes-long : length c.slot_bytes.result ≡ 128 = c.slot_bytes.ensures.long in
    record {
      written = written_more c.args.out.now c.loop-i.out c.put.new.out c.slot_bytes.result c.args.gpt.now.entries c.loop-i.i None c.told-out count lt c.loop-i.invariant.long c.loop-i.invariant.written bytes bytes-long c.put.ensures.written;
      long = below_more _ _ c.loop-i.invariant.long (ap length (sym bytes) ∙ bytes-long);
      read_back = below_more _ _ c.loop-i.invariant.read_back (ap (λ b. used (entry_of b)) (sym bytes) ∙ c.slot_bytes.ensures.read_back ∙ ap kept_entry item);
    }

pub returns-clause-bytes : goal.returns-clause-bytes
returns-clause-bytes c =
    let count : length c.args.gpt.now.entries ≡ 128 = ap length (sym c.slots-slot-items.ensures.slots) ∙ c.slots-slot-items.ensures.count in
    written_all c.args.out.now c.loop-i.out c.args.gpt.now.entries c.loop-i.i c.told-out count (omega (arith, c.slots-slot-items.ensures.count))
    (λ k lt. c.loop-i.invariant.long k (omega (arith, c.slots-slot-items.ensures.count))) c.loop-i.invariant.written

slots : (c : goal.After-loop-i) → (k : ℕ) → k < 128 → slot_at c.loop-i.out k ≡ kept_entry (get_or c.args.gpt.now.entries k None)
slots c k small =
    let count : length c.args.gpt.now.entries ≡ 128 = ap length (sym c.slots-slot-items.ensures.slots) ∙ c.slots-slot-items.ensures.count in
    ap (λ a. slot_at a k) (returns-clause-bytes c)
    ∙ slots_back c.args.gpt.now.entries count (λ j lt. c.loop-i.invariant.long j (omega (arith, c.slots-slot-items.ensures.count)))
    (λ j lt. c.loop-i.invariant.read_back j (omega (arith, c.slots-slot-items.ensures.count))) k small

pub returns-clause-read_back : goal.returns-clause-read_back
returns-clause-read_back c = slots c

pub returns-clause-table : goal.returns-clause-table
returns-clause-table c =
    λ sectors image some fits writable written.
    let count : length c.args.gpt.now.entries ≡ 128 = ap length (sym c.slots-slot-items.ensures.slots) ∙ c.slots-slot-items.ensures.count in
    let disk-long : length c.args.gpt.now.disk ≡ 16 = ap length (sym c.disk.ensures) ∙ c.guid_bytes-disk.ensures.long in
    reads_as sectors c.args.gpt.now image disk-long count (λ k lt. ap (λ a. slot_at a k) (sym (returns-clause-bytes c)) ∙ slots c k lt) some fits writable written
