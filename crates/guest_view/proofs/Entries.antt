-- An entry that is read of a sound table lies on its disk.
use Rattle.std.proofs.Common.{◌≡◌, ℕ, ◌-◌, true, false, nat_eq, if◌then◌else◌, slice_index_or, None, Some}
use Rattle.gpt_table.specs.declared.entry.Entry.{Entry}
use Rattle.gpt_table.specs.Entry.{LiesBetweenTables}
use Rattle.gpt_table.specs.Gpt.{AreInside, EntryTable, entry_at}

pub entry_lies : (sectors number : ℕ) (table : EntryTable) (entry : Entry) → AreInside sectors table.entries → entry_at table number ≡ Some entry → LiesBetweenTables sectors entry
entry_lies sectors number table entry inside is =
    elim (nat_eq number 0) as (λ b. (if b then None else slice_index_or table.entries (number - 1) None) ≡ Some entry → LiesBetweenTables sectors entry) [
      | true ↦ λ none. absurd cc
      | false ↦ λ some. inside.inside (number - 1) entry some
    ] is
