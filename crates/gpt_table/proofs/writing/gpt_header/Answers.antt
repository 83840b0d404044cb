use Rattle.std.proofs.Common.{◌≡◌, ◌++◌, ◌∙◌, ap, subst, arith, length, length-append, replicate, ℕ, List}
use Rattle.disk_base.specs.Checksum.{IsCrc32}
use Rattle.gpt_table.proofs.Headers.{length-header_bytes}
use Rattle.gpt_table.proofs.Puts.{next, filled}
use Rattle.gpt_table.proofs.writing.gpt_header.Goals as goal

pub returns : goal.returns
returns c =
    let long : length c.header_bytes-2.result ≡ 92 =
    ap length c.header_bytes-2.ensures ∙ length-header_bytes c.args.gpt.now.disk c.args.sectors c.args.backup c.args.array c.crc32-checksum.result in
    record {
      checksum = c.crc32-checksum.result;
      sums = subst (λ (b : List ℕ). IsCrc32 b c.crc32-checksum.result) c.header_bytes.ensures c.crc32-checksum.ensures.sum;
      bytes_are =
          filled c.args.out.now c.put-2.new.out (c.header_bytes-2.result ++ replicate 420 0)
          (next c.args.out.now c.put.new.out c.put-2.new.out 0 92 c.header_bytes-2.result (replicate 420 0) c.put.ensures.written c.put-2.ensures.written (omega arith) (omega (arith, c.told-out)))
          (length-append c.header_bytes-2.result (replicate 420 0) ∙ omega (arith, c.told-out))
          ∙ ap (λ (h : List ℕ). h ++ replicate 420 0) c.header_bytes-2.ensures;
    }
