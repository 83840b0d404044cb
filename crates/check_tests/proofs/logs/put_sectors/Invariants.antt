use Rattle.std.proofs.Common.{◌≡◌, vec_len}
use Rattle.check_tests.proofs.logs.put_sectors.Given as goal

abbrev pub invariant-loop-place : goal.invariant-loop-place
invariant-loop-place l = vec_len l.bytes ≡ vec_len l.initial.bytes
