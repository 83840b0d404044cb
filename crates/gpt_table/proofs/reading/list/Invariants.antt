use Rattle.std.proofs.Common.{◌≡◌, ℕ, ◌<◌, false, vec_len, get_or, None}
use Rattle.gpt_table.specs.Entry.{slot_at}
use Rattle.gpt_table.specs.Gpt.{is_bad_at}
use Rattle.gpt_table.proofs.reading.list.Given as goal

abbrev pub invariant-loop-number : goal.invariant-loop-number
invariant-loop-number l = record {
  count : vec_len l.entries ≡ l.number;
  each : (k : ℕ) → k < l.number → get_or l.entries.items k None ≡ slot_at l.array k;
  none_bad : (k : ℕ) → k < l.number → is_bad_at l.header l.array k ≡ false;
}
