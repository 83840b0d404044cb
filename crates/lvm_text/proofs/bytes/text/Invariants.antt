use Rattle.std.proofs.Common.{◌≡◌, length, false}
use Rattle.lvm_text.specs.inside.Scan.{text_at}
use Rattle.lvm_text.proofs.Loops.{with_front}
use Rattle.lvm_text.proofs.bytes.text.Given as goal

abbrev pub invariant-loop-rest : goal.invariant-loop-rest
invariant-loop-rest l = with_front l.text.items (text_at l.escape l.rest) ≡ text_at false l.fn.bytes

abbrev pub decreases-loop-rest : goal.decreases-loop-rest
decreases-loop-rest l = length l.rest
