use Rattle.std.proofs.Common.{ℕ, ◌++◌, arith, codes, ap, ◌∙◌}
use Rattle.byteorder.specs.Endian.{little_bytes}
use Rattle.disk_base.specs.Image.{with_bytes}
use Rattle.gpt_table.specs.Header.{header_place, start_bytes}
use Rattle.gpt_table.proofs.Puts.{next}
use Rattle.gpt_table.proofs.writing.put_start.Goals as goal

pub returns : goal.returns
unfolding start_bytes
returns c =
    let w1 = next c.args.out.now c.put.new.out c.put_number.new.out 0 8 (codes "EFI PART") (little_bytes 4 0x10000) c.put.ensures.written c.put_number.ensures (omega arith) (omega arith) in
    let w2 = next c.args.out.now c.put_number.new.out c.put_number-2.new.out 0 12 (codes "EFI PART" ++ little_bytes 4 0x10000) (little_bytes 4 92) w1 c.put_number-2.ensures (omega arith) (omega arith) in
    let w3 = next c.args.out.now c.put_number-2.new.out c.put_number-3.new.out 0 16 (codes "EFI PART" ++ little_bytes 4 0x10000 ++ little_bytes 4 92) (little_bytes 4 c.args.checksum) w2 c.put_number-3.ensures (omega arith) (omega arith) in
    let w4 = next c.args.out.now c.put_number-3.new.out c.put_number-4.new.out 0 20 (codes "EFI PART" ++ little_bytes 4 0x10000 ++ little_bytes 4 92 ++ little_bytes 4 c.args.checksum) (little_bytes 4 0) w3 c.put_number-4.ensures (omega arith) (omega arith) in
    let w5 = next c.args.out.now c.put_number-4.new.out c.put_long_number.new.out 0 24 (codes "EFI PART" ++ little_bytes 4 0x10000 ++ little_bytes 4 92 ++ little_bytes 4 c.args.checksum ++ little_bytes 4 0) (little_bytes 8 c.header_place.result) w4 c.put_long_number.ensures (omega arith) (omega arith) in
    let w6 = next c.args.out.now c.put_long_number.new.out c.put_long_number-2.new.out 0 32 (codes "EFI PART" ++ little_bytes 4 0x10000 ++ little_bytes 4 92 ++ little_bytes 4 c.args.checksum ++ little_bytes 4 0 ++ little_bytes 8 c.header_place.result) (little_bytes 8 c.header_place-2.result) w5 c.put_long_number-2.ensures (omega arith) (omega arith) in
    w6
    ∙ ap (λ (own : ℕ). with_bytes c.args.out.now 0 (codes "EFI PART" ++ little_bytes 4 0x10000 ++ little_bytes 4 92 ++ little_bytes 4 c.args.checksum ++ little_bytes 4 0 ++ little_bytes 8 own ++ little_bytes 8 c.header_place-2.result)) c.header_place.ensures
    ∙ ap (λ (other : ℕ). with_bytes c.args.out.now 0 (codes "EFI PART" ++ little_bytes 4 0x10000 ++ little_bytes 4 92 ++ little_bytes 4 c.args.checksum ++ little_bytes 4 0 ++ little_bytes 8 (header_place c.args.sectors c.args.backup) ++ little_bytes 8 other)) c.header_place-2.ensures
