-- An entry that was written is read as it was.
use Rattle.std.proofs.Common.{◌≡◌, ℕ, ◌^◌, ◌<◌, List, [], Some, length, arith}
use Rattle.std.proofs.lemmas.List.{take_all}
use Rattle.byteorder.specs.Numbers.{little_number-reads_back}
use Rattle.uuid.proofs.RoundTrips.{swap_twice}
use Rattle.disk_base.specs.Fields.{little_at}
use Rattle.gpt_table.specs.declared.entry.Entry.{Entry}
use Rattle.gpt_table.specs.Entry.{guid_at, entry_of, slot_bytes}

made : List ℕ → List ℕ → ℕ → ℕ → ℕ → List ℕ → Entry
made kind id first last flags name = record { kind = kind; id = id; first = first; last = last; flags = flags; name = name }

same_entry : (k k' i i' : List ℕ) (f f' l l' g g' : ℕ) (n n' : List ℕ) → k ≡ k' → i ≡ i' → f ≡ f' → l ≡ l' → g ≡ g' → n ≡ n' → made k i f l g n ≡ made k' i' f' l' g' n'
same_entry k k' i i' f f' l l' g g' n n' k-is i-is f-is l-is g-is n-is = cc

pub entry_read_back : (entry : Entry) → length entry.kind ≡ 16 → length entry.id ≡ 16 → entry.first < 2 ^ 64 → entry.last < 2 ^ 64 → entry.flags < 2 ^ 64 → length entry.name ≡ 72
    → entry_of (slot_bytes (Some entry)) ≡ entry
unfolding slot_bytes guid_at little_at made
entry_read_back entry kind-long id-long first-fits last-fits flags-fits name-long =
    same_entry _ _ _ _ _ _ _ _ _ _ _ _
    (swap_twice entry.kind kind-long)
    (swap_twice entry.id id-long)
    (little_number-reads_back 8 entry.first [] first-fits)
    (little_number-reads_back 8 entry.last [] last-fits)
    (little_number-reads_back 8 entry.flags [] flags-fits)
    (take_all 72 entry.name (omega arith))
