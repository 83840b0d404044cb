use Rattle.std.proofs.Common.{◌≡◌, ◌≤◌, min, true, take}
use Rattle.std.specs.List.{list_all}
use Rattle.lvm_text.specs.Tokens.{is_digit_byte}
use Rattle.lvm_text.specs.Grammar.{digits_from}
use Rattle.lvm_text.proofs.number.size.Given as goal

abbrev pub invariant-loop-b : goal.invariant-loop-b
invariant-loop-b l = record {
  value : l.n ≡ min (digits_from 0 (take l.b-index l.digits)) 9223372036854775808;
  each : list_all is_digit_byte (take l.b-index l.digits) ≡ true;
  bound : l.n ≤ 9223372036854775808;
}
