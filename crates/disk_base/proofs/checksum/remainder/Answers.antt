use Rattle.std.proofs.Common.{arith, rules, ◌≡◌, ℕ, take, ap, ◌∙◌, List}
use Rattle.std.proofs.lemmas.List.{take_all}
use Rattle.disk_base.specs.Checksum.{bits, message, rest_after}
use Rattle.disk_base.proofs.Checksums.{left_is, byte_more}
use Rattle.disk_base.proofs.checksum.remainder.Goals as goal

pub loop-byte-init : goal.loop-byte-init
unfolding rest_after
loop-byte-init c = λ polynomial table. search rules

pub loop-byte-preserved : goal.loop-byte-preserved
loop-byte-preserved c =
    λ polynomial table. byte_more polynomial c.args.start c.args.bytes.now c.args.table.now c.loop-byte.byte-index c.loop-byte.rest _ c.from.result
    (omega arith) (omega arith) table (search rules) (search rules) (c.loop-byte.invariant polynomial table)

pub returns : goal.returns
returns c =
    λ polynomial table.
    let all : take c.loop-byte.byte-index c.args.bytes.now ≡ c.args.bytes.now = take_all _ _ (omega arith) in
    left_is polynomial c.args.start c.args.bytes.now c.loop-byte.rest (omega (arith, c.type_inv))
    (c.loop-byte.invariant polynomial table ∙ ap (λ (l : List ℕ). rest_after (bits 32 polynomial) (bits 32 c.args.start) (message l)) all)
