-- The entries up to a number are those of the target, and no later one is used.
use Rattle.std.proofs.Common.{◌≡◌, ℕ, ◌+◌, ◌<◌, ◌≤◌, false, length, slice_index_or, [], None}
use Rattle.target_table.specs.Entries.{target_entry, without_extra}
use Rattle.target_table.proofs.gpt.kept_table.Given as goal

abbrev pub invariant-loop-index : goal.invariant-loop-index
invariant-loop-index l = record {
  disk : l.made.disk ≡ l.gpt.disk;
  own : l.made.from_backup ≡ false;
  count : length l.made.entries ≡ 128;
  done : (k : ℕ) → k < l.index → slice_index_or l.made.entries k None ≡ target_entry [] l.gpt.entries (without_extra l.planned) (k + 1);
  rest : (k : ℕ) → l.index ≤ k → slice_index_or l.made.entries k None ≡ None;
}
