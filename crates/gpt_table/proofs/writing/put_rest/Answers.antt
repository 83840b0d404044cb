use Rattle.std.proofs.Common.{ℕ, ◌-◌, ◌++◌, arith, ap, ◌∙◌}
use Rattle.byteorder.specs.Endian.{little_bytes}
use Rattle.uuid.specs.Parts.{swap_fields}
use Rattle.disk_base.specs.Image.{with_bytes}
use Rattle.gpt_table.specs.Header.{rest_bytes}
use Rattle.gpt_table.proofs.Puts.{next}
use Rattle.gpt_table.proofs.writing.put_rest.Goals as goal

pub returns : goal.returns
unfolding rest_bytes
returns c =
    let w1 = next c.args.out.now c.put_long_number.new.out c.put_long_number-2.new.out 40 48 (little_bytes 8 34) (little_bytes 8 (c.args.sectors - 34)) c.put_long_number.ensures c.put_long_number-2.ensures (omega arith) (omega arith) in
    let w2 = next c.args.out.now c.put_long_number-2.new.out c.put_guid.new.out 40 56 (little_bytes 8 34 ++ little_bytes 8 (c.args.sectors - 34)) (swap_fields c.args.disk) w1 c.put_guid.ensures.bytes (omega arith) (omega arith) in
    let w3 = next c.args.out.now c.put_guid.new.out c.put_long_number-3.new.out 40 72 (little_bytes 8 34 ++ little_bytes 8 (c.args.sectors - 34) ++ swap_fields c.args.disk) (little_bytes 8 c.array_place.result) w2 c.put_long_number-3.ensures (omega arith) (omega arith) in
    let w4 = next c.args.out.now c.put_long_number-3.new.out c.put_number.new.out 40 80 (little_bytes 8 34 ++ little_bytes 8 (c.args.sectors - 34) ++ swap_fields c.args.disk ++ little_bytes 8 c.array_place.result) (little_bytes 4 128) w3 c.put_number.ensures (omega arith) (omega arith) in
    let w5 = next c.args.out.now c.put_number.new.out c.put_number-2.new.out 40 84 (little_bytes 8 34 ++ little_bytes 8 (c.args.sectors - 34) ++ swap_fields c.args.disk ++ little_bytes 8 c.array_place.result ++ little_bytes 4 128) (little_bytes 4 128) w4 c.put_number-2.ensures (omega arith) (omega arith) in
    let w6 = next c.args.out.now c.put_number-2.new.out c.put_number-3.new.out 40 88 (little_bytes 8 34 ++ little_bytes 8 (c.args.sectors - 34) ++ swap_fields c.args.disk ++ little_bytes 8 c.array_place.result ++ little_bytes 4 128 ++ little_bytes 4 128) (little_bytes 4 c.args.array) w5 c.put_number-3.ensures (omega arith) (omega arith) in
    w6
    ∙ ap (λ (place : ℕ). with_bytes c.args.out.now 40 (little_bytes 8 34 ++ little_bytes 8 (c.args.sectors - 34) ++ swap_fields c.args.disk ++ little_bytes 8 place ++ little_bytes 4 128 ++ little_bytes 4 128 ++ little_bytes 4 c.args.array)) c.array_place.ensures
