use Rattle.std.proofs.Common.{◌≡◌, ◌-◌, ◌++◌, ◌∷◌, [], ◌∙◌, ap, arith, min, length, length-append, replicate, ℕ}
use Rattle.byteorder.specs.Endian.{little_bytes}
use Rattle.gpt_table.proofs.Puts.{next, filled}
use Rattle.gpt_table.proofs.writing.protective_sector.Goals as goal

pub returns : goal.returns
returns c =
    let head-long : length c.args.head.now ≡ 446 = c.told-head in
    let out-long : length c.args.out.now ≡ 512 = c.told-out in
    let w1 = next c.args.out.now c.put.new.out c.put-2.new.out 0 446 (c.args.head.now) (0x00 ∷ 0x00 ∷ 0x02 ∷ 0x00 ∷ 0xEE ∷ 0xFF ∷ 0xFF ∷ 0xFF ∷ []) c.put.ensures.written c.put-2.ensures.written (omega arith) (omega arith) in
    let l1 : length (c.args.head.now ++ (0x00 ∷ 0x00 ∷ 0x02 ∷ 0x00 ∷ 0xEE ∷ 0xFF ∷ 0xFF ∷ 0xFF ∷ [])) ≡ 454 = length-append (c.args.head.now) (0x00 ∷ 0x00 ∷ 0x02 ∷ 0x00 ∷ 0xEE ∷ 0xFF ∷ 0xFF ∷ 0xFF ∷ []) ∙ omega arith in
    let w2 = next c.args.out.now c.put-2.new.out c.put_number.new.out 0 454 (c.args.head.now ++ (0x00 ∷ 0x00 ∷ 0x02 ∷ 0x00 ∷ 0xEE ∷ 0xFF ∷ 0xFF ∷ 0xFF ∷ [])) (little_bytes 4 1) w1 c.put_number.ensures (omega arith) (omega arith) in
    let l2 : length (c.args.head.now ++ (0x00 ∷ 0x00 ∷ 0x02 ∷ 0x00 ∷ 0xEE ∷ 0xFF ∷ 0xFF ∷ 0xFF ∷ []) ++ little_bytes 4 1) ≡ 458 = length-append (c.args.head.now ++ (0x00 ∷ 0x00 ∷ 0x02 ∷ 0x00 ∷ 0xEE ∷ 0xFF ∷ 0xFF ∷ 0xFF ∷ [])) (little_bytes 4 1) ∙ omega arith in
    let w3 = next c.args.out.now c.put_number.new.out c.put_number-2.new.out 0 458 (c.args.head.now ++ (0x00 ∷ 0x00 ∷ 0x02 ∷ 0x00 ∷ 0xEE ∷ 0xFF ∷ 0xFF ∷ 0xFF ∷ []) ++ little_bytes 4 1) (little_bytes 4 c.min-count.result) w2 c.put_number-2.ensures (omega arith) (omega arith) in
    let l3 : length (c.args.head.now ++ (0x00 ∷ 0x00 ∷ 0x02 ∷ 0x00 ∷ 0xEE ∷ 0xFF ∷ 0xFF ∷ 0xFF ∷ []) ++ little_bytes 4 1 ++ little_bytes 4 c.min-count.result) ≡ 462 = length-append (c.args.head.now ++ (0x00 ∷ 0x00 ∷ 0x02 ∷ 0x00 ∷ 0xEE ∷ 0xFF ∷ 0xFF ∷ 0xFF ∷ []) ++ little_bytes 4 1) (little_bytes 4 c.min-count.result) ∙ omega arith in
    let w4 = next c.args.out.now c.put_number-2.new.out c.put-3.new.out 0 462 (c.args.head.now ++ (0x00 ∷ 0x00 ∷ 0x02 ∷ 0x00 ∷ 0xEE ∷ 0xFF ∷ 0xFF ∷ 0xFF ∷ []) ++ little_bytes 4 1 ++ little_bytes 4 c.min-count.result) (replicate 48 0) w3 c.put-3.ensures.written (omega arith) (omega arith) in
    let l4 : length (c.args.head.now ++ (0x00 ∷ 0x00 ∷ 0x02 ∷ 0x00 ∷ 0xEE ∷ 0xFF ∷ 0xFF ∷ 0xFF ∷ []) ++ little_bytes 4 1 ++ little_bytes 4 c.min-count.result ++ replicate 48 0) ≡ 510 = length-append (c.args.head.now ++ (0x00 ∷ 0x00 ∷ 0x02 ∷ 0x00 ∷ 0xEE ∷ 0xFF ∷ 0xFF ∷ 0xFF ∷ []) ++ little_bytes 4 1 ++ little_bytes 4 c.min-count.result) (replicate 48 0) ∙ omega arith in
    let w5 = next c.args.out.now c.put-3.new.out c.put-4.new.out 0 510 (c.args.head.now ++ (0x00 ∷ 0x00 ∷ 0x02 ∷ 0x00 ∷ 0xEE ∷ 0xFF ∷ 0xFF ∷ 0xFF ∷ []) ++ little_bytes 4 1 ++ little_bytes 4 c.min-count.result ++ replicate 48 0) (0x55 ∷ 0xAA ∷ []) w4 c.put-4.ensures.written (omega arith) (omega arith) in
    let l5 : length (c.args.head.now ++ (0x00 ∷ 0x00 ∷ 0x02 ∷ 0x00 ∷ 0xEE ∷ 0xFF ∷ 0xFF ∷ 0xFF ∷ []) ++ little_bytes 4 1 ++ little_bytes 4 c.min-count.result ++ replicate 48 0 ++ (0x55 ∷ 0xAA ∷ [])) ≡ 512 = length-append (c.args.head.now ++ (0x00 ∷ 0x00 ∷ 0x02 ∷ 0x00 ∷ 0xEE ∷ 0xFF ∷ 0xFF ∷ 0xFF ∷ []) ++ little_bytes 4 1 ++ little_bytes 4 c.min-count.result ++ replicate 48 0) (0x55 ∷ 0xAA ∷ []) ∙ omega arith in
    let least : c.min-count.result ≡ min (c.args.sectors - 1) 0xFFFFFFFF = c.min-count.ensures ∙ ap (λ (n : ℕ). min (c.args.sectors - 1) n) c.from.ensures in
    filled c.args.out.now c.put-4.new.out (c.args.head.now ++ (0x00 ∷ 0x00 ∷ 0x02 ∷ 0x00 ∷ 0xEE ∷ 0xFF ∷ 0xFF ∷ 0xFF ∷ []) ++ little_bytes 4 1 ++ little_bytes 4 c.min-count.result ++ replicate 48 0 ++ (0x55 ∷ 0xAA ∷ [])) w5 (l5 ∙ omega arith)
    ∙ ap (λ (count : ℕ). c.args.head.now ++ (0x00 ∷ 0x00 ∷ 0x02 ∷ 0x00 ∷ 0xEE ∷ 0xFF ∷ 0xFF ∷ 0xFF ∷ []) ++ little_bytes 4 1 ++ little_bytes 4 count ++ replicate 48 0 ++ (0x55 ∷ 0xAA ∷ [])) least
