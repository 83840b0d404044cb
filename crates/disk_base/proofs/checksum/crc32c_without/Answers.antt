-- Three parts of one message.
use Rattle.std.proofs.Common.{rules, ◌≡◌, ◌+◌, ◌-◌, ℕ, List, ◌++◌, length, take, drop, replicate, sym, ap, ◌∙◌, arith, length-drop}
use Rattle.std.proofs.lemmas.List.{take_all}
use Rattle.disk_base.specs.Checksum.{castagnoli, left_of}
use Rattle.disk_base.specs.Image.{with_bytes}
use Rattle.disk_base.proofs.Checksums.{inverted, left_more, crc32c_table}
use Rattle.disk_base.proofs.checksum.crc32c_without.Goals as goal

pub returns : goal.returns
returns c =
    let bytes : List ℕ = c.args.bytes.now in
    let first : List ℕ = take c.args.at bytes in
    let last : List ℕ = drop (c.args.at + 4) bytes in
    let zeros : List ℕ = replicate 4 0 in
    let start : ℕ = 0xFFFFFFFF in
    let e1 : c.remainder-before.result ≡ left_of castagnoli start first = search (rules, c.remainder-before.ensures castagnoli crc32c_table) in
    let e2 : c.remainder-zeros.result ≡ left_of castagnoli c.remainder-before.result zeros = c.remainder-zeros.ensures castagnoli crc32c_table in
    let to_end : take (length bytes - (c.args.at + 4)) last ≡ last = take_all _ _ (omega (arith, length-drop (c.args.at + 4) bytes)) in
    let e3 : c.remainder.result ≡ left_of castagnoli c.remainder-zeros.result last = c.remainder.ensures castagnoli crc32c_table ∙ ap (left_of castagnoli c.remainder-zeros.result) to_end in
    inverted castagnoli start 0xFFFFFFFF (with_bytes bytes c.args.at zeros) c.remainder.result
    (e3 ∙ ap (λ (n : ℕ). left_of castagnoli n last) (e2 ∙ ap (λ (n : ℕ). left_of castagnoli n zeros) e1)
    ∙ sym (ap (λ (n : ℕ). left_of castagnoli n last) (left_more castagnoli start first zeros))
    ∙ sym (left_more castagnoli start (first ++ zeros) last))
