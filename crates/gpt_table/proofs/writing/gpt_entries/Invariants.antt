use Rattle.std.proofs.Common.{◌≡◌, ℕ, ◌<◌, length, take, get_or, None}
use Rattle.disk_base.specs.Image.{with_bytes}
use Rattle.gpt_table.specs.Entry.{entry_of, used, kept_entry, slot_bytes}
use Rattle.gpt_table.specs.Gpt.{array_bytes}
use Rattle.gpt_table.proofs.writing.gpt_entries.Given as goal

abbrev pub invariant-loop-i : goal.invariant-loop-i
invariant-loop-i l = record {
  written : l.out ≡ with_bytes l.initial.out 0 (array_bytes (take l.i l.gpt.entries));
  long : (k : ℕ) → k < l.i → length (slot_bytes (get_or l.gpt.entries k None)) ≡ 128;
  read_back : (k : ℕ) → k < l.i → used (entry_of (slot_bytes (get_or l.gpt.entries k None))) ≡ kept_entry (get_or l.gpt.entries k None);
}
