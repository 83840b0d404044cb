-- Lists of items: what is read from left to right is the one list that the bytes are.
use Rattle.std.proofs.Common.{◌≡◌, ℕ, zero, suc, ◌+◌, ◌-◌, ◌<◌, ◌≤◌, true, false, List, [], ◌∷◌, ◌++◌, length, drop, refl, sym, ap, ◌∙◌, subst, arith, inl, inr, length-append, append_assoc, length-drop}
use Rattle.std.proofs.lemmas.Bool.{cases_Bool, cond-true, cond-false, both_ways, false_from_ne_true}
use Rattle.std.proofs.lemmas.List.{take-append-drop, append-nil, nil_from_length}
use Rattle.std.proofs.lemmas.List.Concat.{flat_map-append}
use Rattle.xfs_dir.specs.Item.{DirItem, dir_item_bytes, IsDirItem, AreDirItems, joined_items, SpellsItems, IsFirstUnspelled, entries_of_items, item_entries}
use Rattle.xfs_dir.specs.Scan.{dir_item_len, begins_with_item, first_dir_item, dir_items_up_to, dir_items_in, dir_entries_in}
use Rattle.xfs_dir.specs.inside.Fronts.{IsItemLen}
use Rattle.xfs_dir.proofs.Items.{front, passes, found, read_item}

none_up_to : (n at : ℕ) (rest : List ℕ) → begins_with_item at rest ≡ false → dir_items_up_to n at rest ≡ []
unfolding dir_items_up_to
none_up_to zero at rest h = refl
none_up_to (suc n) at rest h = cond-false (begins_with_item at rest) _ _ h

some_up_to : (n at : ℕ) (rest : List ℕ) → begins_with_item at rest ≡ true → dir_items_up_to (suc n) at rest ≡ first_dir_item rest ∷ dir_items_up_to n (at + dir_item_len rest) (drop (dir_item_len rest) rest)
unfolding dir_items_up_to
some_up_to n at rest h = cond-true (begins_with_item at rest) _ _ h

none_in_nothing : (at : ℕ) (rest : List ℕ) → length rest ≤ 0 → begins_with_item at rest ≡ false
none_in_nothing at rest h = false_from_ne_true _ (λ y. let f = front at rest y in absurd (omega (arith, f.big, f.inside, h)))

enough : (n m at : ℕ) (rest : List ℕ) → length rest ≤ n → length rest ≤ m → dir_items_up_to n at rest ≡ dir_items_up_to m at rest
enough zero m at rest h k = none_up_to zero at rest (none_in_nothing at rest h) ∙ sym (none_up_to m at rest (none_in_nothing at rest h))
enough (suc n) zero at rest h k = none_up_to (suc n) at rest (none_in_nothing at rest k) ∙ sym (none_up_to zero at rest (none_in_nothing at rest k))
enough (suc n) (suc m) at rest h k =
    elim (cases_Bool (begins_with_item at rest)) [
      | inl y ↦
          let f = front at rest y in
          let shorter = length-drop (dir_item_len rest) rest in
          some_up_to n at rest y ∙ ap (λ (is : List DirItem). first_dir_item rest ∷ is) (enough n m (at + dir_item_len rest) (drop (dir_item_len rest) rest) (omega (arith, f.big, f.inside, shorter, h)) (omega (arith, f.big, f.inside, shorter, k))) ∙ sym (some_up_to m at rest y)
      | inr y ↦ none_up_to (suc n) at rest y ∙ sym (none_up_to (suc m) at rest y)
    ]

-- the first item and the others
pub items_step : (at : ℕ) (rest : List ℕ) → begins_with_item at rest ≡ true → dir_items_in at rest ≡ first_dir_item rest ∷ dir_items_in (at + dir_item_len rest) (drop (dir_item_len rest) rest)
unfolding dir_items_in
items_step at rest h =
    enough (length rest) (suc (length rest)) at rest (omega arith) (omega arith) ∙ some_up_to (length rest) at rest h
    ∙ ap (λ (is : List DirItem). first_dir_item rest ∷ is) (enough (length rest) (length (drop (dir_item_len rest) rest)) (at + dir_item_len rest) (drop (dir_item_len rest) rest) (omega (arith, length-drop (dir_item_len rest) rest)) (omega arith))

pub items_end_at : (at : ℕ) (rest : List ℕ) → begins_with_item at rest ≡ false → dir_items_in at rest ≡ []
unfolding dir_items_in
items_end_at at rest h = none_up_to (length rest) at rest h

-- items in front are the first that are read
pub read_all : (items : List DirItem) (at : ℕ) (after : List ℕ) → AreDirItems at items → dir_items_in at (joined_items items ++ after) ≡ items ++ dir_items_in (at + length (joined_items items)) after
read_all [] at after h = ap (λ (k : ℕ). dir_items_in k after) (omega arith)
read_all (item ∷ items) at after h =
    let xs : List ℕ = dir_item_bytes item ++ (joined_items items ++ after) in
    let r = read_item at item (joined_items items ++ after) h.0 in
    let together : joined_items (item ∷ items) ++ after ≡ xs = append_assoc (dir_item_bytes item) (joined_items items) after in
    let next : at + dir_item_len xs ≡ at + length (dir_item_bytes item) = ap (λ (k : ℕ). at + k) r.long in
    let end : at + length (dir_item_bytes item) + length (joined_items items) ≡ at + length (joined_items (item ∷ items)) = omega (arith, length-append (dir_item_bytes item) (joined_items items)) in
    ap (dir_items_in at) together
    ∙ items_step at xs (passes at xs r.there)
    ∙ ap (λ (i : DirItem). i ∷ dir_items_in (at + dir_item_len xs) (drop (dir_item_len xs) xs)) r.first
    ∙ ap (λ (ys : List ℕ). item ∷ dir_items_in (at + dir_item_len xs) ys) r.behind_it
    ∙ ap (λ (k : ℕ). item ∷ dir_items_in k (joined_items items ++ after)) next
    ∙ ap (λ (is : List DirItem). item ∷ is) (read_all items (at + length (dir_item_bytes item)) after h.1)
    ∙ ap (λ (k : ℕ). item ∷ (items ++ dir_items_in k after)) end

-- bytes spell one list alone
pub spelled_once : (at : ℕ) (bytes : List ℕ) (items : List DirItem) → SpellsItems at bytes items → dir_items_in at bytes ≡ items
spelled_once at bytes items s =
    let all : joined_items items ++ [] ≡ bytes = append-nil (joined_items items) ∙ s.joined in
    ap (dir_items_in at) (sym all) ∙ read_all items at [] s.are
    ∙ ap (λ (is : List DirItem). items ++ is) (items_end_at (at + length (joined_items items)) [] (none_in_nothing (at + length (joined_items items)) [] (omega arith)))
    ∙ append-nil items

-- how far a walk from `start` has come: items up to `at`, and what is left
pub record IsPassed (start : ℕ) (bytes : List ℕ) (at : ℕ) (rest : List ℕ) : Type 0 where
  pub before : List DirItem
  pub are : AreDirItems start before
  pub joined : joined_items before ++ rest ≡ bytes
  pub place : at ≡ start + length (joined_items before)

pub passed_none : (start : ℕ) (bytes : List ℕ) → IsPassed start bytes start bytes
passed_none start bytes = record { before = []; are = tt; joined = refl; place = omega arith }

are_more : (start : ℕ) (items : List DirItem) (item : DirItem) → AreDirItems start items → IsDirItem (start + length (joined_items items)) item → AreDirItems start (items ++ item ∷ [])
are_more start [] item h i = let same : start + 0 ≡ start = omega arith in (subst (λ (k : ℕ). IsDirItem k item) same i, tt)
are_more start (first ∷ items) item h i =
    let same : start + length (dir_item_bytes first ++ joined_items items) ≡ start + length (dir_item_bytes first) + length (joined_items items) = omega (arith, length-append (dir_item_bytes first) (joined_items items)) in
    (h.0, are_more (start + length (dir_item_bytes first)) items item h.1 (subst (λ (k : ℕ). IsDirItem k item) same i))

pub passed_more : (start : ℕ) (bytes : List ℕ) (at : ℕ) (rest : List ℕ) → IsPassed start bytes at rest → begins_with_item at rest ≡ true → IsPassed start bytes (at + dir_item_len rest) (drop (dir_item_len rest) rest)
passed_more start bytes at rest p h =
    let f = found at rest h in
    let fr = front at rest h in
    let item : DirItem = first_dir_item rest in
    let joins : joined_items (p.before ++ item ∷ []) ≡ joined_items p.before ++ dir_item_bytes item = flat_map-append dir_item_bytes p.before (item ∷ []) ∙ ap (λ (ys : List ℕ). joined_items p.before ++ ys) (append-nil (dir_item_bytes item)) in
    let parts : dir_item_bytes item ++ drop (dir_item_len rest) rest ≡ rest = ap (λ (ys : List ℕ). ys ++ drop (dir_item_len rest) rest) f.bytes ∙ take-append-drop (dir_item_len rest) rest in
    let long : length (dir_item_bytes item) + (length rest - dir_item_len rest) ≡ length rest = omega (arith, ap length parts, length-append (dir_item_bytes item) (drop (dir_item_len rest) rest), length-drop (dir_item_len rest) rest) in
    record {
      before = p.before ++ item ∷ [];
      are = are_more start p.before item p.are (subst (λ (k : ℕ). IsDirItem k item) p.place f.is);
      joined = ap (λ (ys : List ℕ). ys ++ drop (dir_item_len rest) rest) joins ∙ append_assoc (joined_items p.before) (dir_item_bytes item) (drop (dir_item_len rest) rest) ∙ ap (λ (ys : List ℕ). joined_items p.before ++ ys) parts ∙ p.joined;
      place = omega (arith, p.place, ap length joins, length-append (joined_items p.before) (dir_item_bytes item), long, fr.inside);
    }

-- the end: all are spelled, or the first that isn't
pub spelled_at_end : (start : ℕ) (bytes : List ℕ) (at : ℕ) (rest : List ℕ) → IsPassed start bytes at rest → length rest ≡ 0 → SpellsItems start bytes (dir_items_in start bytes)
spelled_at_end start bytes at rest p h =
    let joined : joined_items p.before ≡ bytes = sym (append-nil (joined_items p.before)) ∙ ap (λ (ys : List ℕ). joined_items p.before ++ ys) (sym (nil_from_length rest h)) ∙ p.joined in
    let s : SpellsItems start bytes p.before = record { are = p.are; joined = joined } in
    subst (SpellsItems start bytes) (sym (spelled_once start bytes p.before s)) s

pub unspelled_at_end : (start : ℕ) (bytes : List ℕ) (at : ℕ) (rest : List ℕ) → IsPassed start bytes at rest → 0 < length rest → begins_with_item at rest ≡ false → IsFirstUnspelled start bytes at
unspelled_at_end start bytes at rest p some none =
    record {
      before = p.before;
      after = rest;
      are = p.are;
      joined = p.joined;
      place = p.place;
      some = λ e. absurd (omega (arith, some, ap length e));
      none = λ item r i e. both_ways (begins_with_item at rest) none (ap (begins_with_item at) (sym e) ∙ passes at _ (read_item at item r i).there);
    }

pub entries_step : (at : ℕ) (rest : List ℕ) (len : ℕ) (after : List ℕ) → IsItemLen at rest len → after ≡ drop len rest → dir_entries_in at rest ≡ item_entries (first_dir_item rest) ++ dir_entries_in (at + len) after
unfolding dir_entries_in
entries_step at rest len after i e =
    ap entries_of_items (items_step at rest i.there)
    ∙ ap (λ (k : ℕ). item_entries (first_dir_item rest) ++ entries_of_items (dir_items_in (at + k) (drop k rest))) (sym i.long)
    ∙ ap (λ (ys : List ℕ). item_entries (first_dir_item rest) ++ entries_of_items (dir_items_in (at + len) ys)) (sym e)

pub entries_end : (at : ℕ) (rest : List ℕ) → begins_with_item at rest ≡ false → dir_entries_in at rest ≡ []
unfolding dir_entries_in
entries_end at rest h = ap entries_of_items (items_end_at at rest h)

pub passed_on : (start : ℕ) (bytes : List ℕ) (at : ℕ) (rest : List ℕ) (len : ℕ) (after : List ℕ) → IsPassed start bytes at rest → IsItemLen at rest len → after ≡ drop len rest → IsPassed start bytes (at + len) after
passed_on start bytes at rest len after p i e =
    let n : dir_item_len rest ≡ len = sym i.long in
    let q : IsPassed start bytes (at + len) (drop len rest) = subst (λ (k : ℕ). IsPassed start bytes (at + k) (drop k rest)) n (passed_more start bytes at rest p i.there) in
    subst (λ (ys : List ℕ). IsPassed start bytes (at + len) ys) (sym e) q

pub passed_within : (start : ℕ) (bytes : List ℕ) (at : ℕ) (rest : List ℕ) → IsPassed start bytes at rest → at + length rest ≡ start + length bytes
passed_within start bytes at rest p = omega (arith, p.place, ap length p.joined, length-append (joined_items p.before) rest)
