use Rattle.std.proofs.Common.{rules, ◌≡◌, ℕ, ◌+◌, List, [], ◌∷◌, ◌++◌, length, drop, sym, ap, ◌∙◌}
use Rattle.xfs_dir.specs.Scan.{first_dir_item, dir_entries_in}
use Rattle.xfs_dir.specs.inside.Fronts.{IsItemLen}
use Rattle.xfs_dir.specs.Item.{item_entries, DirectoryEntry}
use Rattle.xfs_dir.specs.Block.{seen_entry, entries_left}
use Rattle.xfs_dir.proofs.Lists.{entries_step, entries_end}
use Rattle.xfs_dir.proofs.block.BlockEntriesIterator.next.Goals as goal

-- one turn, where `all` is what was left at the call, and `first` what the item at the front is
turn : (all first : List DirectoryEntry) (at : ℕ) (rest : List ℕ) (len : ℕ) (after : List ℕ) → dir_entries_in at rest ≡ all → IsItemLen at rest len → after ≡ drop len rest → item_entries (first_dir_item rest) ≡ first → all ≡ first ++ dir_entries_in (at + len) after
turn all first at rest len after same item e f = sym same ∙ entries_step at rest len after item e ∙ ap (λ (es : List DirectoryEntry). es ++ dir_entries_in (at + len) after) f

pub returns-in-Some-entry_in-clause-steps : goal.returns-in-Some-entry_in-clause-steps
returns-in-Some-entry_in-clause-steps c = turn _ (seen_entry c.in-Some-entry_in.entry ∷ []) c.loop-len.self.at c.loop-len.self.rest.now c.in-Some.len c.behind-self.result.now c.loop-len.invariant c.in-Some.ensures c.behind-self.ensures c.in-Some-entry_in.ensures

pub returns-in-Some-entry_in-clause-goes : goal.returns-in-Some-entry_in-clause-goes
returns-in-Some-entry_in-clause-goes c =
    let shorter = ap length (turn _ (seen_entry c.in-Some-entry_in.entry ∷ []) c.loop-len.self.at c.loop-len.self.rest.now c.in-Some.len c.behind-self.result.now c.loop-len.invariant c.in-Some.ensures c.behind-self.ensures c.in-Some-entry_in.ensures) in
    search rules

pub loop-len-preserved : goal.loop-len-preserved
loop-len-preserved c = sym (turn _ [] c.loop-len.self.at c.loop-len.self.rest.now c.in-Some.len c.behind-self.result.now c.loop-len.invariant c.in-Some.ensures c.behind-self.ensures c.in_default-entry_in.ensures)

pub returns-clause-steps : goal.returns-clause-steps
returns-clause-steps c =
    let none : entries_left c.loop-len.self ≡ [] = entries_end c.loop-len.self.at c.loop-len.self.rest.now c.in_default.ensures in
    (sym c.loop-len.invariant ∙ none, none)
