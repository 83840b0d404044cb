use Rattle.std.proofs.Common.{◌≡◌, ◌+◌, ◌-◌, ◌≤◌, length, drop}
use Rattle.lvm_text.specs.inside.Scan.{word_len}
use Rattle.lvm_text.proofs.bytes.word_length.Given as goal

abbrev pub invariant-loop-n : goal.invariant-loop-n
invariant-loop-n l = record { so_far : l.n + word_len (drop l.n l.bytes) ≡ word_len l.bytes; within : l.n ≤ length l.bytes }

abbrev pub decreases-loop-n : goal.decreases-loop-n
decreases-loop-n l = length l.bytes - l.n
