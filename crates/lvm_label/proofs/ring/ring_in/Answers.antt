use Rattle.std.proofs.Common.{◌∙◌}
use Rattle.lvm_label.proofs.Rings.{text_unsound}
use Rattle.lvm_label.proofs.ring.ring_in.Goals as goal

pub returns-then-crc32_lvm-little_u32-clause-fault : goal.returns-then-crc32_lvm-little_u32-clause-fault
returns-then-crc32_lvm-little_u32-clause-fault c =
    text_unsound c.args.header.now c.args.area.now c.deref.result.now c.crc32_lvm.result c.little_u32.result _ _ (c.deref.ensures.value ∙ c.in_ok-text.ensures) c.little_u64.ensures c.little_u64-2.ensures
    c.crc32_lvm.ensures.value c.little_u32.ensures c.if-crc32_lvm-little_u32.true
