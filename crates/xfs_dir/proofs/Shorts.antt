-- The entries of a short form.
use Rattle.std.proofs.Common.{◌≡◌, ℕ, zero, suc, ◌+◌, ◌-◌, ◌*◌, ◌<◌, ◌≤◌, Bool, true, false, List, [], ◌∷◌, ◌++◌, length, take, drop, slice_index, map, refl, sym, ap, ◌∙◌, subst, arith, inl, inr, length-append, append_assoc}
use Rattle.std.proofs.lemmas.Bool.{and_parts, and_from, leb-true, le-leb, ltb-true, lt-ltb, cond-true, cond-false, both_ways}
use Rattle.std.proofs.lemmas.List.{take-append-drop, append-nil, nil_from_length, length-take-le}
use Rattle.std.proofs.lemmas.List.Concat.{flat_map-append}
use Rattle.disk_base.specs.Image.{bytes_at}
use Rattle.disk_base.specs.Fields.{big_at}
use Rattle.xfs_dir.specs.Item.{DirectoryEntry, field_number}
use Rattle.xfs_dir.specs.Short.{ShortItem, inumber_width, short_item_bytes, IsShortItem, AreShortItems, joined_short_items, short_entry, short_count, has_wide_inumbers, short_head_len, has_short_head, ShortSpells, IsShortEntryFault}
use Rattle.xfs_dir.specs.ShortScan.{short_item_len, begins_with_short, first_short_item, short_items_in}
use Rattle.xfs_dir.specs.inside.Fronts.{IsShortItemLen}
use Rattle.disk_base.proofs.Images.{length-bytes_at}
use Rattle.xfs_dir.proofs.Fields.{join_parts, join_byte, part_at, behind, byte_at, behind_byte, field_of_part}

pub record IsShortFront (wide : Bool) (rest : List ℕ) : Type 0 where
  pub named : 0 < slice_index rest 0
  pub inside : short_item_len wide rest ≤ length rest

pub short_front : (wide : Bool) (rest : List ℕ) → begins_with_short wide rest ≡ true → IsShortFront wide rest
unfolding begins_with_short
short_front wide rest h = let a = and_parts _ _ h in record { named = ltb-true _ _ a.0; inside = leb-true _ _ a.1 }

pub short_passes : (wide : Bool) (rest : List ℕ) → IsShortFront wide rest → begins_with_short wide rest ≡ true
unfolding begins_with_short
short_passes wide rest f = and_from _ _ (lt-ltb _ _ f.named) (le-leb _ _ f.inside)

joined_short : (xs : List ℕ) (m w n : ℕ) → slice_index xs 0 ≡ m → n ≡ m + 4 + w → n ≤ length xs →
    length (bytes_at xs 3 m) ∷ (bytes_at xs 1 2 ++ (bytes_at xs 3 m ++ (slice_index xs (m + 3) ∷ bytes_at xs (m + 4) w))) ≡ take n xs
joined_short xs m w n e f h =
    let long : length (bytes_at xs 3 m) ≡ slice_index xs 0 = length-bytes_at xs 3 m (omega (arith, f, h)) ∙ sym e in
    ap (λ (zs : List ℕ). length (bytes_at xs 3 m) ∷ (bytes_at xs 1 2 ++ (bytes_at xs 3 m ++ zs))) (join_byte xs (m + 3) (m + 4) w (w + 1) (omega arith) (omega arith) (omega (arith, f, h)))
    ∙ ap (λ (zs : List ℕ). length (bytes_at xs 3 m) ∷ (bytes_at xs 1 2 ++ zs)) (join_parts xs 3 m (m + 3) (w + 1) (n - 3) (omega arith) (omega (arith, f)) (omega (arith, f, h)))
    ∙ ap (λ (zs : List ℕ). length (bytes_at xs 3 m) ∷ zs) (join_parts xs 1 2 3 (n - 3) (n - 1) refl (omega (arith, f)) (omega (arith, f, h)))
    ∙ ap (λ (k : ℕ). k ∷ bytes_at xs 1 (n - 1)) long
    ∙ join_byte xs 0 1 (n - 1) n refl (omega (arith, f)) (omega (arith, f, h))

pub short_joined : (wide : Bool) (rest : List ℕ) → begins_with_short wide rest ≡ true → short_item_bytes (first_short_item wide rest) ≡ take (short_item_len wide rest) rest
short_joined wide rest h = joined_short rest (slice_index rest 0) (inumber_width wide) (short_item_len wide rest) refl refl (short_front wide rest h).inside

pub short_is : (wide : Bool) (rest : List ℕ) → begins_with_short wide rest ≡ true → IsShortItem wide (first_short_item wide rest)
short_is wide rest h =
    let f = short_front wide rest h in
    record {
      offset_long = length-bytes_at rest 1 2 (omega (arith, f.inside, f.named));
      named = omega (arith, f.named, length-bytes_at rest 3 (slice_index rest 0) (omega (arith, f.inside)));
      inumber_long = length-bytes_at rest (slice_index rest 0 + 4) (inumber_width wide) (omega (arith, f.inside));
    }

-- an entry that stands in front is the one that is found
pub record IsShortRead (wide : Bool) (xs : List ℕ) (item : ShortItem) (after : List ℕ) : Type 0 where
  pub there : IsShortFront wide xs
  pub first : first_short_item wide xs ≡ item
  pub long : short_item_len wide xs ≡ length (short_item_bytes item)
  pub behind_it : drop (short_item_len wide xs) xs ≡ after

abbrev item_of : List ℕ → List ℕ → ℕ → List ℕ → ShortItem
item_of offset name ftype inumber = record { offset = offset; name = name; ftype = ftype; inumber = inumber }

same_short : {a b d e f h : List ℕ} {c g : ℕ} → a ≡ e → b ≡ f → c ≡ g → d ≡ h → item_of a b c d ≡ item_of e f g h
same_short {a} {b} {d} {e} {f} {h} {c} {g} p q r s = ap (λ (x : List ℕ). item_of x b c d) p ∙ ap (λ (x : List ℕ). item_of e x c d) q ∙ ap (λ (x : ℕ). item_of e f x d) r ∙ ap (λ (x : List ℕ). item_of e f g x) s

pub read_short : (wide : Bool) (item : ShortItem) (after : List ℕ) → IsShortItem wide item → IsShortRead wide (short_item_bytes item ++ after) item after
read_short wide item after i =
    let xs : List ℕ = short_item_bytes item ++ after in
    let m : ℕ = length item.name in
    let w : ℕ = inumber_width wide in
    let n : ℕ = length (short_item_bytes item) in
    let count : n ≡ m + 4 + w = omega (arith, length-append item.offset (item.name ++ (item.ftype ∷ item.inumber)), length-append item.name (item.ftype ∷ item.inumber), i.offset_long, i.inumber_long) in
    let d0 : drop 0 xs ≡ length item.name ∷ (item.offset ++ (item.name ++ (item.ftype ∷ (item.inumber ++ after)))) = ap (λ (zs : List ℕ). length item.name ∷ zs) (append_assoc item.offset _ after ∙ ap (λ (zs : List ℕ). item.offset ++ zs) (append_assoc item.name _ after)) in
    let d1 = behind_byte xs _ _ 0 1 d0 refl in
    let named : slice_index xs 0 ≡ m = refl in
    let d3 = behind xs item.offset _ 1 2 3 d1 i.offset_long refl in
    let df = behind xs item.name _ 3 m (m + 3) d3 refl (omega arith) in
    let dn = behind_byte xs _ _ (m + 3) (m + 4) df (omega arith) in
    let de = behind xs item.inumber after (m + 4) w n dn i.inumber_long (omega (arith, count)) in
    let l : short_item_len wide xs ≡ n = sym count in
    record {
      there = record { named = i.named; inside = omega (arith, l, length-append (short_item_bytes item) after) };
      first = same_short (part_at xs item.offset _ 1 2 d1 i.offset_long) (part_at xs item.name _ 3 m d3 refl) (byte_at xs _ _ (m + 3) df) (part_at xs item.inumber after (m + 4) w dn i.inumber_long);
      long = l;
      behind_it = ap (λ (k : ℕ). drop k xs) l ∙ de;
    }

pub shorts_stop : (wide : Bool) (n : ℕ) (rest : List ℕ) → begins_with_short wide rest ≡ false → short_items_in wide n rest ≡ []
unfolding short_items_in
shorts_stop wide zero rest h = refl
shorts_stop wide (suc n) rest h = cond-false (begins_with_short wide rest) _ _ h

pub shorts_step : (wide : Bool) (n : ℕ) (rest : List ℕ) → begins_with_short wide rest ≡ true → short_items_in wide (suc n) rest ≡ first_short_item wide rest ∷ short_items_in wide n (drop (short_item_len wide rest) rest)
unfolding short_items_in
shorts_step wide n rest h = cond-true (begins_with_short wide rest) _ _ h

pub shorts_none : (wide : Bool) (rest : List ℕ) → short_items_in wide 0 rest ≡ []
unfolding short_items_in
shorts_none wide rest = refl

-- entries in front are the first that are read
pub read_shorts : (wide : Bool) (items : List ShortItem) (after : List ℕ) → AreShortItems wide items → short_items_in wide (length items) (joined_short_items items ++ after) ≡ items
read_shorts wide [] after h = shorts_none wide after
read_shorts wide (item ∷ items) after h =
    let xs : List ℕ = short_item_bytes item ++ (joined_short_items items ++ after) in
    let r = read_short wide item (joined_short_items items ++ after) h.0 in
    ap (short_items_in wide (suc (length items))) (append_assoc (short_item_bytes item) (joined_short_items items) after)
    ∙ shorts_step wide (length items) xs (short_passes wide xs r.there)
    ∙ ap (λ (i : ShortItem). i ∷ short_items_in wide (length items) (drop (short_item_len wide xs) xs)) r.first
    ∙ ap (λ (ys : List ℕ). item ∷ short_items_in wide (length items) ys) r.behind_it
    ∙ ap (λ (is : List ShortItem). item ∷ is) (read_shorts wide items after h.1)

-- how far a walk over `bytes`, which begin at `start`, has come after `k` entries
pub record IsShortPassed (wide : Bool) (start : ℕ) (bytes : List ℕ) (k at : ℕ) (rest : List ℕ) : Type 0 where
  pub before : List ShortItem
  pub are : AreShortItems wide before
  pub joined : joined_short_items before ++ rest ≡ bytes
  pub place : at ≡ start + length (joined_short_items before)
  pub count : length before ≡ k
  pub bound : at ≤ start + 267 * k

pub short_passed_none : (wide : Bool) (start : ℕ) (bytes : List ℕ) → IsShortPassed wide start bytes 0 start bytes
short_passed_none wide start bytes = record { before = []; are = tt; joined = refl; place = omega arith; count = refl; bound = omega arith }

all_more : (wide : Bool) (items : List ShortItem) (item : ShortItem) → AreShortItems wide items → IsShortItem wide item → AreShortItems wide (items ++ item ∷ [])
all_more wide [] item h i = (i, tt)
all_more wide (first ∷ items) item h i = (h.0, all_more wide items item h.1 i)

pub short_passed_on : (wide : Bool) (start : ℕ) (bytes : List ℕ) (k at : ℕ) (rest : List ℕ) (len : ℕ) (after : List ℕ) → IsShortPassed wide start bytes k at rest → IsShortItemLen wide rest len → after ≡ drop len rest → IsShortPassed wide start bytes (k + 1) (at + len) after
short_passed_on wide start bytes k at rest len after p i e =
    let item : ShortItem = first_short_item wide rest in
    let joins : joined_short_items (p.before ++ item ∷ []) ≡ joined_short_items p.before ++ short_item_bytes item = flat_map-append short_item_bytes p.before (item ∷ []) ∙ ap (λ (ys : List ℕ). joined_short_items p.before ++ ys) (append-nil (short_item_bytes item)) in
    let is_part : short_item_bytes item ≡ take len rest = short_joined wide rest i.there ∙ ap (λ (n : ℕ). take n rest) (sym i.long) in
    let parts : short_item_bytes item ++ after ≡ rest = ap (λ (ys : List ℕ). ys ++ after) is_part ∙ ap (λ (ys : List ℕ). take len rest ++ ys) e ∙ take-append-drop len rest in
    let long : length (short_item_bytes item) ≡ len = ap length is_part ∙ length-take-le len rest i.inside in
    record {
      before = p.before ++ item ∷ [];
      are = all_more wide p.before item p.are (short_is wide rest i.there);
      joined = ap (λ (ys : List ℕ). ys ++ after) joins ∙ append_assoc (joined_short_items p.before) (short_item_bytes item) after ∙ ap (λ (ys : List ℕ). joined_short_items p.before ++ ys) parts ∙ p.joined;
      place = omega (arith, p.place, ap length joins, length-append (joined_short_items p.before) (short_item_bytes item), long);
      count = omega (arith, p.count, length-append p.before (item ∷ []));
      bound = omega (arith, p.bound, i.most);
    }

pub shorts_at_end : (wide : Bool) (start : ℕ) (bytes : List ℕ) (k at : ℕ) (rest : List ℕ) → (p : IsShortPassed wide start bytes k at rest) → short_items_in wide k bytes ≡ p.before
shorts_at_end wide start bytes k at rest p = ap (short_items_in wide k) (sym p.joined) ∙ ap (λ (n : ℕ). short_items_in wide n (joined_short_items p.before ++ rest)) (sym p.count) ∙ read_shorts wide p.before rest p.are

abbrev pub left : Bool → ℕ → List ℕ → List DirectoryEntry
left wide count rest = map (short_entry wide) (short_items_in wide count rest)

pub left_none : (wide : Bool) (count : ℕ) (rest : List ℕ) → count ≡ 0 → left wide count rest ≡ []
left_none wide count rest e = ap (λ (n : ℕ). left wide n rest) e ∙ ap (map (short_entry wide)) (shorts_none wide rest)

pub left_stop : (wide : Bool) (count : ℕ) (rest : List ℕ) → begins_with_short wide rest ≡ false → left wide count rest ≡ []
left_stop wide count rest h = ap (map (short_entry wide)) (shorts_stop wide count rest h)

pub left_step : (wide : Bool) (count : ℕ) (rest : List ℕ) (len : ℕ) (after : List ℕ) (entry : DirectoryEntry) → 0 < count → IsShortItemLen wide rest len → after ≡ drop len rest → entry ≡ short_entry wide (first_short_item wide rest) → left wide count rest ≡ entry ∷ left wide (count - 1) after
left_step wide count rest len after entry some i e f =
    let next : count ≡ suc (count - 1) = omega (arith, some) in
    ap (λ (n : ℕ). left wide n rest) next
    ∙ ap (map (short_entry wide)) (shorts_step wide (count - 1) rest i.there)
    ∙ ap (λ (n : ℕ). short_entry wide (first_short_item wide rest) ∷ left wide (count - 1) (drop n rest)) (sym i.long)
    ∙ ap (λ (ys : List ℕ). short_entry wide (first_short_item wide rest) ∷ left wide (count - 1) ys) (sym e)
    ∙ ap (λ (x : DirectoryEntry). x ∷ left wide (count - 1) after) (sym f)

pub short_spelled : (bytes : List ℕ) (k at : ℕ) (rest : List ℕ) → has_short_head bytes ≡ true → IsShortPassed (has_wide_inumbers bytes) (short_head_len bytes) (drop (short_head_len bytes) bytes) k at rest → k ≡ short_count bytes → length rest ≡ 0 → ShortSpells bytes (short_items_in (has_wide_inumbers bytes) (short_count bytes) (drop (short_head_len bytes) bytes))
short_spelled bytes k at rest h p e z =
    let same : short_items_in (has_wide_inumbers bytes) (short_count bytes) (drop (short_head_len bytes) bytes) ≡ p.before = ap (λ (n : ℕ). short_items_in (has_wide_inumbers bytes) n (drop (short_head_len bytes) bytes)) (sym e) ∙ shorts_at_end (has_wide_inumbers bytes) (short_head_len bytes) (drop (short_head_len bytes) bytes) k at rest p in
    let joined : joined_short_items p.before ≡ drop (short_head_len bytes) bytes = sym (append-nil (joined_short_items p.before)) ∙ ap (λ (ys : List ℕ). joined_short_items p.before ++ ys) (sym (nil_from_length rest z)) ∙ p.joined in
    let s : ShortSpells bytes p.before = record { head = h; count = p.count ∙ e; are = p.are; joined = joined } in
    subst (ShortSpells bytes) (sym same) s

pub short_cut : (bytes : List ℕ) (k at : ℕ) (rest : List ℕ) → has_short_head bytes ≡ true → IsShortPassed (has_wide_inumbers bytes) (short_head_len bytes) (drop (short_head_len bytes) bytes) k at rest → k < short_count bytes → begins_with_short (has_wide_inumbers bytes) rest ≡ false → IsShortEntryFault bytes at
short_cut bytes k at rest h p l none =
    inr (
      h,
      record {
        before = p.before;
        after = rest;
        are = p.are;
        joined = p.joined;
        place = p.place;
        why = inl (omega (arith, l, p.count), λ item r i e. both_ways (begins_with_short (has_wide_inumbers bytes) rest) none (ap (begins_with_short (has_wide_inumbers bytes)) (sym e) ∙ short_passes (has_wide_inumbers bytes) _ (read_short (has_wide_inumbers bytes) item r i).there));
      },
    )

pub short_over : (bytes : List ℕ) (k at : ℕ) (rest : List ℕ) → has_short_head bytes ≡ true → IsShortPassed (has_wide_inumbers bytes) (short_head_len bytes) (drop (short_head_len bytes) bytes) k at rest → k ≡ short_count bytes → 0 < length rest → IsShortEntryFault bytes at
short_over bytes k at rest h p e some =
    inr (
      h,
      record {
        before = p.before;
        after = rest;
        are = p.are;
        joined = p.joined;
        place = p.place;
        why = inr (p.count ∙ e, λ n. absurd (omega (arith, some, ap length n)));
      },
    )

abbrev entry : List ℕ → ℕ → ℕ → DirectoryEntry
entry name ino ftype = record { name = name; ino = ino; ftype = ftype }

pub seen_short : (wide : Bool) (rest : List ℕ) (len : ℕ) (name : List ℕ) (ino : ℕ) → len ≡ slice_index rest 0 → name ≡ bytes_at rest 3 (len + 3 - 3) → ino ≡ big_at (inumber_width wide) rest (len + 4) → entry name ino (slice_index rest (len + 3)) ≡ short_entry wide (first_short_item wide rest)
seen_short wide rest len name ino e n i =
    let less : len + 3 - 3 ≡ slice_index rest 0 = omega (arith, e) in
    ap (λ (x : List ℕ). entry x ino (slice_index rest (len + 3))) (n ∙ ap (bytes_at rest 3) less)
    ∙ ap (λ (x : ℕ). entry (bytes_at rest 3 (slice_index rest 0)) x (slice_index rest (len + 3))) (i ∙ ap (λ (k : ℕ). big_at (inumber_width wide) rest (k + 4)) e ∙ sym (field_of_part (inumber_width wide) rest (slice_index rest 0 + 4)))
    ∙ ap (λ (k : ℕ). entry (bytes_at rest 3 (slice_index rest 0)) (field_number (inumber_width wide) (bytes_at rest (slice_index rest 0 + 4) (inumber_width wide))) (slice_index rest (k + 3))) e

pub at_head : (bytes : List ℕ) (head : ℕ) (items : List ℕ) (k at : ℕ) (rest : List ℕ) → head ≡ short_head_len bytes → items ≡ drop head bytes → IsShortPassed (has_wide_inumbers bytes) head items k at rest → IsShortPassed (has_wide_inumbers bytes) (short_head_len bytes) (drop (short_head_len bytes) bytes) k at rest
at_head bytes head items k at rest e f p =
    subst (λ (n : ℕ). IsShortPassed (has_wide_inumbers bytes) n (drop n bytes) k at rest) e (subst (λ (ys : List ℕ). IsShortPassed (has_wide_inumbers bytes) head ys k at rest) f p)
