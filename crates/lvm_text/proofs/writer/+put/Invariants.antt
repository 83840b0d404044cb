use Rattle.std.proofs.Common.{◌≡◌, ◌++◌, take}
use Rattle.lvm_text.specs.Written.{item_lines}
use Rattle.lvm_text.proofs.writer.+put.Given as goal

abbrev pub invariant-put_items-loop-item : goal.invariant-put_items-loop-item
invariant-put_items-loop-item l = l.out.items ≡ l.fn.out.items ++ item_lines (take l.item-index l.items)
