-- The definitions are exact: one list of items, and a fault excludes it.
use Rattle.std.proofs.Common.{◌≡◌, ◌≢◌, ℕ, ◌+◌, Bool, false, List, [], ◌∷◌, ◌++◌, length, drop, sym, ap, ◌∙◌, subst, arith, inl, inr, suc, ◌-◌}
use Rattle.std.proofs.lemmas.Bool.{both_ways, false_from_ne_true}
use Rattle.std.proofs.lemmas.List.{take-append-drop, append-nil, append_cancel_left, append_assoc}
use Rattle.xfs_dir.specs.Item.{DirItem, dir_item_bytes, IsDirItem, joined_items, SpellsItems, IsFirstUnspelled}
use Rattle.xfs_dir.specs.Scan.{dir_item_len, begins_with_item, first_dir_item, dir_items_in}
use Rattle.xfs_dir.specs.Block.{item_area, is_entry_block}
use Rattle.xfs_dir.specs.Short.{ShortItem, short_item_bytes, IsShortItem, AreShortItems, joined_short_items, has_wide_inumbers, short_head_len, short_count, has_short_head, ShortSpells, IsShortUnspelled}
use Rattle.xfs_dir.specs.ShortScan.{short_item_len, begins_with_short, first_short_item, short_items_in, short_items}
use Rattle.xfs_dir.specs.Laws.{BlocksAreExact, ShortFormsAreExact}
use Rattle.xfs_dir.proofs.Items.{found}
use Rattle.xfs_dir.proofs.Lists.{spelled_once, read_all, items_end_at}
use Rattle.xfs_dir.proofs.Shorts.{read_shorts, short_joined, short_is, read_short, shorts_step, shorts_stop, shorts_none, short_passes}

-- no item stands in front of bytes that no item begins
unspelled : (at : ℕ) (after : List ℕ) → ((item : DirItem) (rest : List ℕ) → IsDirItem at item → dir_item_bytes item ++ rest ≢ after) → begins_with_item at after ≡ false
unspelled at after none =
    false_from_ne_true _ (λ y.
    let f = found at after y in
    none (first_dir_item after) (drop (dir_item_len after) after) f.is (ap (λ (ys : List ℕ). ys ++ drop (dir_item_len after) after) f.bytes ∙ take-append-drop (dir_item_len after) after))

excluded : (bytes : List ℕ) (items : List DirItem) (at : ℕ) → SpellsItems 64 bytes items → IsFirstUnspelled 64 bytes at → ⊥
excluded bytes items at s f =
    let none : begins_with_item (64 + length (joined_items f.before)) f.after ≡ false = subst (λ (k : ℕ). begins_with_item k f.after ≡ false) f.place (unspelled at f.after f.none) in
    let read : dir_items_in 64 bytes ≡ f.before = ap (dir_items_in 64) (sym f.joined) ∙ read_all f.before 64 f.after f.are ∙ ap (λ (is : List DirItem). f.before ++ is) (items_end_at (64 + length (joined_items f.before)) f.after none) ∙ append-nil f.before in
    let same : items ≡ f.before = sym (spelled_once 64 bytes items s) ∙ read in
    let all : joined_items f.before ++ f.after ≡ joined_items f.before ++ [] = f.joined ∙ sym s.joined ∙ ap joined_items same ∙ sym (append-nil (joined_items f.before)) in
    f.some (append_cancel_left (joined_items f.before) f.after [] all)

pub block_laws : (bytes : List ℕ) (items : List DirItem) → BlocksAreExact bytes items
block_laws bytes items =
    record {
      once = λ s. spelled_once 64 (item_area bytes) items s.spelled;
      excluded = λ s at f. elim f [
        | inl bad ↦ both_ways (is_entry_block bytes) bad.0 s.block
        | inr cut ↦ excluded (item_area bytes) items at s.spelled cut.1
      ];
    }

short_once : (bytes : List ℕ) (items : List ShortItem) → ShortSpells bytes items → short_items bytes ≡ items
short_once bytes items s =
    let w = has_wide_inumbers bytes in
    ap (λ (n : ℕ). short_items_in w n (drop (short_head_len bytes) bytes)) (sym s.count) ∙ ap (short_items_in w (length items)) (sym s.joined ∙ sym (append-nil (joined_short_items items))) ∙ read_shorts w items [] s.are

-- entries in front are the first that are read, and what is behind them comes next
read_more : (w : Bool) (items : List ShortItem) (after : List ℕ) (n m : ℕ) → m ≡ length items + n → AreShortItems w items → short_items_in w m (joined_short_items items ++ after) ≡ items ++ short_items_in w n after
read_more w [] after n m e h = ap (λ (k : ℕ). short_items_in w k after) (omega (arith, e))
read_more w (item ∷ items) after n m e h =
    let xs : List ℕ = short_item_bytes item ++ (joined_short_items items ++ after) in
    let r = read_short w item (joined_short_items items ++ after) h.0 in
    let one : m ≡ suc (m - 1) = omega (arith, e) in
    ap (λ (k : ℕ). short_items_in w k (joined_short_items (item ∷ items) ++ after)) one
    ∙ ap (short_items_in w (suc (m - 1))) (append_assoc (short_item_bytes item) (joined_short_items items) after)
    ∙ shorts_step w (m - 1) xs (short_passes w xs r.there)
    ∙ ap (λ (i : ShortItem). i ∷ short_items_in w (m - 1) (drop (short_item_len w xs) xs)) r.first
    ∙ ap (λ (ys : List ℕ). item ∷ short_items_in w (m - 1) ys) r.behind_it
    ∙ ap (λ (is : List ShortItem). item ∷ is) (read_more w items after n (m - 1) (omega (arith, e)) h.1)

short_unspelled : (w : Bool) (after : List ℕ) → ((item : ShortItem) (rest : List ℕ) → IsShortItem w item → short_item_bytes item ++ rest ≢ after) → begins_with_short w after ≡ false
short_unspelled w after none =
    false_from_ne_true _ (λ y. none (first_short_item w after) (drop (short_item_len w after) after) (short_is w after y) (ap (λ (ys : List ℕ). ys ++ drop (short_item_len w after) after) (short_joined w after y) ∙ take-append-drop (short_item_len w after) after))

short_excluded : (bytes : List ℕ) (items : List ShortItem) (at : ℕ) → ShortSpells bytes items → IsShortUnspelled bytes at → ⊥
short_excluded bytes items at s f =
    let w = has_wide_inumbers bytes in
    let area : List ℕ = drop (short_head_len bytes) bytes in
    let read : (n : ℕ) → short_count bytes ≡ length f.before + n → short_items_in w n f.after ≡ [] → items ≡ f.before = λ n e none.
    sym (short_once bytes items s) ∙ ap (short_items_in w (short_count bytes)) (sym f.joined) ∙ read_more w f.before f.after n (short_count bytes) e f.are
    ∙ ap (λ (is : List ShortItem). f.before ++ is) none ∙ append-nil f.before in
    elim f.why [
      | inl cut ↦
          let more : short_count bytes ≡ length f.before + (short_count bytes - length f.before) = omega (arith, cut.0) in
          let same = read (short_count bytes - length f.before) more (shorts_stop w (short_count bytes - length f.before) f.after (short_unspelled w f.after cut.1)) in
          absurd (omega (arith, cut.0, s.count, ap length same))
      | inr over ↦
          let same = read 0 (omega (arith, over.0)) (shorts_none w f.after) in
          let all : joined_short_items f.before ++ f.after ≡ joined_short_items f.before ++ [] = f.joined ∙ sym s.joined ∙ ap joined_short_items same ∙ sym (append-nil (joined_short_items f.before)) in
          over.1 (append_cancel_left (joined_short_items f.before) f.after [] all)
    ]

pub short_laws : (bytes : List ℕ) (items : List ShortItem) → ShortFormsAreExact bytes items
short_laws bytes items =
    record {
      once = short_once bytes items;
      excluded = λ s at f. elim f [
        | inl bad ↦ both_ways (has_short_head bytes) bad.0 s.head
        | inr cut ↦ short_excluded bytes items at s cut.1
      ];
    }
