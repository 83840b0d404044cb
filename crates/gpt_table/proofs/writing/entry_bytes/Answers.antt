use Rattle.std.proofs.Common.{◌≡◌, ◌++◌, length, replicate, arith, ap, ◌∙◌}
use Rattle.byteorder.specs.Endian.{little_bytes}
use Rattle.uuid.specs.Parts.{swap_fields}
use Rattle.gpt_table.specs.Entry.{slot_bytes, entry_of}
use Rattle.gpt_table.proofs.Entries.{entry_read_back}
use Rattle.gpt_table.proofs.Puts.{next, filled}
use Rattle.gpt_table.proofs.writing.entry_bytes.Goals as goal

pub returns-clause-bytes : goal.returns-clause-bytes
unfolding slot_bytes
returns-clause-bytes c =
    let name-long : length c.args.entry.now.name ≡ 72 = omega arith in
    let w1 = next (replicate 128 0) c.put_guid.new.out c.put_guid-2.new.out 0 16 (swap_fields c.args.entry.now.kind) (swap_fields c.args.entry.now.id) c.put_guid.ensures.bytes c.put_guid-2.ensures.bytes (omega arith) (omega arith) in
    let w2 = next (replicate 128 0) c.put_guid-2.new.out c.put_long_number.new.out 0 32 (swap_fields c.args.entry.now.kind ++ swap_fields c.args.entry.now.id) (little_bytes 8 c.args.entry.now.first) w1 c.put_long_number.ensures (omega arith) (omega arith) in
    let w3 = next (replicate 128 0) c.put_long_number.new.out c.put_long_number-2.new.out 0 40 (swap_fields c.args.entry.now.kind ++ swap_fields c.args.entry.now.id ++ little_bytes 8 c.args.entry.now.first) (little_bytes 8 c.args.entry.now.last) w2 c.put_long_number-2.ensures (omega arith) (omega arith) in
    let w4 = next (replicate 128 0) c.put_long_number-2.new.out c.put_long_number-3.new.out 0 48 (swap_fields c.args.entry.now.kind ++ swap_fields c.args.entry.now.id ++ little_bytes 8 c.args.entry.now.first ++ little_bytes 8 c.args.entry.now.last) (little_bytes 8 c.args.entry.now.flags) w3 c.put_long_number-3.ensures (omega arith) (omega arith) in
    let w5 = next (replicate 128 0) c.put_long_number-3.new.out c.put.new.out 0 56 (swap_fields c.args.entry.now.kind ++ swap_fields c.args.entry.now.id ++ little_bytes 8 c.args.entry.now.first ++ little_bytes 8 c.args.entry.now.last ++ little_bytes 8 c.args.entry.now.flags) (c.args.entry.now.name) w4 c.put.ensures.written (omega arith) (omega arith) in
    filled (replicate 128 0) c.put.new.out _ w5 (omega arith)

pub returns-clause-read_back : goal.returns-clause-read_back
returns-clause-read_back c = ap entry_of (returns-clause-bytes c) ∙ entry_read_back c.args.entry.now c.put_guid.ensures.long c.put_guid-2.ensures.long (omega arith) (omega arith) (omega arith) (omega arith)
