use Rattle.std.proofs.Common.{◌≡◌, ◌++◌, ◌∙◌, ap, arith, length, length-append, replicate, ℕ, List}
use Rattle.gpt_table.specs.Header.{start_bytes, rest_bytes}
use Rattle.gpt_table.proofs.Headers.{length-start_bytes, length-rest_bytes}
use Rattle.gpt_table.proofs.Puts.{next, filled}
use Rattle.gpt_table.proofs.writing.header_bytes.Goals as goal

pub returns : goal.returns
returns c =
    let start : List ℕ = start_bytes c.args.sectors c.args.backup c.args.checksum in
    let rest : List ℕ = rest_bytes c.disk.result c.args.sectors c.args.backup c.args.array in
    let start-long : length start ≡ 40 = length-start_bytes c.args.sectors c.args.backup c.args.checksum in
    let rest-long : length rest ≡ 52 = length-rest_bytes c.disk.result c.args.sectors c.args.backup c.args.array in
    filled (replicate 92 0) c.put_rest.new.out (start ++ rest)
    (next (replicate 92 0) c.put_start.new.out c.put_rest.new.out 0 40 start rest c.put_start.ensures c.put_rest.ensures (omega arith) (omega arith))
    (length-append start rest ∙ omega arith)
    ∙ ap (λ (d : List ℕ). start ++ rest_bytes d c.args.sectors c.args.backup c.args.array) c.disk.ensures
