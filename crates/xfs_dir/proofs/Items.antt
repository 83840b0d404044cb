-- The item at the front of bytes: what the test finds is an item, and what is an item is found.
use Rattle.std.proofs.Common.{◌≡◌, ℕ, ◌+◌, ◌-◌, ◌*◌, ◌/◌, ◌%◌, ◌<◌, ◌≤◌, true, false, nat_lt, List, ◌∷◌, ◌++◌, length, take, drop, slice_index, refl, sym, ap, ◌∙◌, subst, arith, mod-lt, inl, inr, length-append, append_assoc}
use Rattle.std.proofs.lemmas.Bool.{and_parts, and_from, eqb-true, eq-eqb, ne_eqb, eqb-false, leb-true, le-leb, ltb-true, lt-ltb, or_cases, or_left, or_right, cases_Bool, cond-true, cond-false}
use Rattle.std.proofs.lemmas.List.{length-take-le}
use Rattle.std.proofs.lemmas.Nat.{div-add-mod', div-mul-add}
use Rattle.xfs_dir.specs.Item.{field_number}
use Rattle.disk_base.specs.Image.{bytes_at}
use Rattle.disk_base.specs.Fields.{big_at}
use Rattle.xfs_dir.specs.Item.{DirItem, UnusedItem, UsedItem, dir_item_bytes, IsUnusedItem, IsUsedItem, IsDirItem}
use Rattle.xfs_dir.specs.Scan.{is_unused_item, item_name_len, dir_item_len, is_unused_or_named, begins_with_item, first_dir_item}
use Rattle.disk_base.proofs.Images.{length-bytes_at}
use Rattle.xfs_dir.proofs.Fields.{join_parts, join_byte, field_of_part, field_of_longer, part_at, behind, byte_at, behind_byte}

-- what the test asks
pub record IsFront (at : ℕ) (rest : List ℕ) : Type 0 where
  pub big : 8 ≤ dir_item_len rest
  pub inside : dir_item_len rest ≤ length rest
  pub eights : dir_item_len rest % 8 ≡ 0
  pub use_it : is_unused_or_named rest ≡ true
  pub placed : big_at 2 rest (dir_item_len rest - 2) ≡ at

pub front : (at : ℕ) (rest : List ℕ) → begins_with_item at rest ≡ true → IsFront at rest
unfolding begins_with_item
front at rest h =
    let a = and_parts _ _ h in
    let b = and_parts _ _ a.1 in
    let c = and_parts _ _ b.1 in
    let d = and_parts _ _ c.1 in
    record { big = leb-true _ _ a.0; inside = leb-true _ _ b.0; eights = eqb-true _ _ c.0; use_it = d.0; placed = eqb-true _ _ d.1 }

pub passes : (at : ℕ) (rest : List ℕ) → IsFront at rest → begins_with_item at rest ≡ true
unfolding begins_with_item
passes at rest f =
    and_from _ _ (le-leb _ _ f.big) (and_from _ _ (le-leb _ _ f.inside) (and_from _ _ (eq-eqb _ _ f.eights) (and_from _ _ f.use_it (eq-eqb _ _ f.placed))))

-- the length of a used item leaves less than 8 bytes of padding
pub padded : (m : ℕ) → (m + 12 ≤ (m + 19) / 8 * 8) × ((m + 19) / 8 * 8 < m + 20)
padded m = let e = div-add-mod' (m + 19) 8 in let h : (m + 19) % 8 < 8 = mod-lt (m + 19) (omega arith) in (omega (arith, e, h), omega (arith, e, h))

pub padded_is : (m p n : ℕ) → n ≡ m + 12 + p → p < 8 → n % 8 ≡ 0 → (m + 19) / 8 * 8 ≡ n
padded_is m p n e h z =
    let w : n / 8 * 8 + n % 8 ≡ n = div-add-mod' n 8 in
    let sum : m + 19 ≡ n / 8 * 8 + (7 - p) = omega (arith, w, e, h, z) in
    let there : (m + 19) / 8 ≡ n / 8 = ap (λ (k : ℕ). k / 8) sum ∙ div-mul-add (n / 8) 8 (7 - p) (omega arith) in
    ap (λ (k : ℕ). k * 8) there ∙ omega (arith, w, z)

-- the fields of an unused item, joined, are its bytes
joined_unused : (xs : List ℕ) (n : ℕ) → 8 ≤ n → n ≤ length xs → bytes_at xs 0 2 ++ (bytes_at xs 2 2 ++ (bytes_at xs 4 (n - 6) ++ bytes_at xs (n - 2) 2)) ≡ take n xs
joined_unused xs n h l =
    ap (λ (zs : List ℕ). bytes_at xs 0 2 ++ (bytes_at xs 2 2 ++ zs)) (join_parts xs 4 (n - 6) (n - 2) 2 (n - 4) (omega arith) (omega arith) (omega arith))
    ∙ ap (λ (zs : List ℕ). bytes_at xs 0 2 ++ zs) (join_parts xs 2 2 4 (n - 4) (n - 2) refl (omega arith) (omega arith))
    ∙ join_parts xs 0 2 2 (n - 2) n refl (omega arith) (omega arith)

joined_used : (xs : List ℕ) (m n : ℕ) → m + 12 ≤ n → n ≤ length xs → slice_index xs 8 ≡ m →
    bytes_at xs 0 8 ++ (length (bytes_at xs 9 m) ∷ (bytes_at xs 9 m ++ (slice_index xs (m + 9) ∷ (bytes_at xs (m + 10) (n - (m + 12)) ++ bytes_at xs (n - 2) 2)))) ≡ take n xs
joined_used xs m n h l e =
    let long : length (bytes_at xs 9 m) ≡ slice_index xs 8 = length-bytes_at xs 9 m (omega arith) ∙ sym e in
    ap (λ (zs : List ℕ). bytes_at xs 0 8 ++ (length (bytes_at xs 9 m) ∷ (bytes_at xs 9 m ++ (slice_index xs (m + 9) ∷ zs)))) (join_parts xs (m + 10) (n - (m + 12)) (n - 2) 2 (n - (m + 10)) (omega arith) (omega arith) (omega arith))
    ∙ ap (λ (zs : List ℕ). bytes_at xs 0 8 ++ (length (bytes_at xs 9 m) ∷ (bytes_at xs 9 m ++ zs))) (join_byte xs (m + 9) (m + 10) (n - (m + 10)) (n - (m + 9)) (omega arith) (omega arith) (omega arith))
    ∙ ap (λ (zs : List ℕ). bytes_at xs 0 8 ++ (length (bytes_at xs 9 m) ∷ zs)) (join_parts xs 9 m (m + 9) (n - (m + 9)) (n - 9) (omega arith) (omega arith) (omega arith))
    ∙ ap (λ (k : ℕ). bytes_at xs 0 8 ++ (k ∷ bytes_at xs 9 (n - 9))) long
    ∙ ap (λ (zs : List ℕ). bytes_at xs 0 8 ++ zs) (join_byte xs 8 9 (n - 9) (n - 8) refl (omega arith) (omega arith))
    ∙ join_parts xs 0 8 8 (n - 8) n refl (omega arith) (omega arith)

len_unused : (rest : List ℕ) → is_unused_item rest ≡ true → dir_item_len rest ≡ big_at 2 rest 2
len_unused rest h = cond-true (is_unused_item rest) _ _ h

len_used : (rest : List ℕ) → is_unused_item rest ≡ false → dir_item_len rest ≡ (item_name_len rest + 19) / 8 * 8
len_used rest h = cond-false (is_unused_item rest) _ _ h

-- what is found is an item, and its bytes stand there
pub record IsFound (at : ℕ) (rest : List ℕ) (item : DirItem) : Type 0 where
  pub is : IsDirItem at item
  pub bytes : dir_item_bytes item ≡ take (dir_item_len rest) rest

found_unused : (at : ℕ) (rest : List ℕ) → IsFront at rest → is_unused_item rest ≡ true → IsFound at rest (UnusedItem (bytes_at rest 0 2) (bytes_at rest 2 2) (bytes_at rest 4 (dir_item_len rest - 6)) (bytes_at rest (dir_item_len rest - 2) 2))
found_unused at rest f u =
    let n = dir_item_len rest in
    let joined = joined_unused rest n f.big f.inside in
    let long : length (bytes_at rest 0 2 ++ (bytes_at rest 2 2 ++ (bytes_at rest 4 (n - 6) ++ bytes_at rest (n - 2) 2))) ≡ n = ap length joined ∙ length-take-le n rest f.inside in
    record {
      is = record {
        freetag_long = length-bytes_at rest 0 2 (omega (arith, f.big, f.inside));
        marked = field_of_part 2 rest 0 ∙ eqb-true _ _ u;
        len_long = length-bytes_at rest 2 2 (omega (arith, f.big, f.inside));
        len_is = field_of_part 2 rest 2 ∙ sym (len_unused rest u) ∙ sym long;
        eights = ap (λ (k : ℕ). k % 8) long ∙ f.eights;
        tag_long = length-bytes_at rest (n - 2) 2 (omega (arith, f.big, f.inside));
        placed = field_of_part 2 rest (n - 2) ∙ f.placed;
      };
      bytes = joined;
    }

found_used : (at : ℕ) (rest : List ℕ) → IsFront at rest → is_unused_item rest ≡ false → IsFound at rest (UsedItem (bytes_at rest 0 8) (bytes_at rest 9 (item_name_len rest)) (slice_index rest (item_name_len rest + 9)) (bytes_at rest (item_name_len rest + 10) (dir_item_len rest - (item_name_len rest + 12))) (bytes_at rest (dir_item_len rest - 2) 2))
found_used at rest f u =
    let n = dir_item_len rest in
    let m = item_name_len rest in
    let e : n ≡ (m + 19) / 8 * 8 = len_used rest u in
    let least : m + 12 ≤ n = omega (arith, e, (padded m).0) in
    let most : n < m + 20 = omega (arith, e, (padded m).1) in
    let joined = joined_used rest m n least f.inside refl in
    let long : length (dir_item_bytes (UsedItem (bytes_at rest 0 8) (bytes_at rest 9 m) (slice_index rest (m + 9)) (bytes_at rest (m + 10) (n - (m + 12))) (bytes_at rest (n - 2) 2))) ≡ n = ap length joined ∙ length-take-le n rest f.inside in
    let named : 0 < m = elim (or_cases (is_unused_item rest) (nat_lt 0 m) f.use_it) [ inl y ↦ absurd (cc) | inr y ↦ ltb-true 0 m y ] in
    record {
      is = record {
        inumber_long = length-bytes_at rest 0 8 (omega (arith, f.big, f.inside));
        unmarked = λ y. eqb-false _ _ u (sym (field_of_longer 2 8 rest 0 (omega arith)) ∙ y);
        named = omega (arith, named, length-bytes_at rest 9 m (omega (arith, least, f.inside)));
        short = omega (arith, length-bytes_at rest (m + 10) (n - (m + 12)) (omega (arith, least, f.inside)), least, most);
        eights = ap (λ (k : ℕ). k % 8) long ∙ f.eights;
        tag_long = length-bytes_at rest (n - 2) 2 (omega (arith, f.big, f.inside));
        placed = field_of_part 2 rest (n - 2) ∙ f.placed;
      };
      bytes = joined;
    }

pub first_unused : (rest : List ℕ) → is_unused_item rest ≡ true → first_dir_item rest ≡ UnusedItem (bytes_at rest 0 2) (bytes_at rest 2 2) (bytes_at rest 4 (dir_item_len rest - 6)) (bytes_at rest (dir_item_len rest - 2) 2)
unfolding first_dir_item
first_unused rest h = cond-true (is_unused_item rest) _ _ h

pub first_used : (rest : List ℕ) → is_unused_item rest ≡ false → first_dir_item rest ≡ UsedItem (bytes_at rest 0 8) (bytes_at rest 9 (item_name_len rest)) (slice_index rest (item_name_len rest + 9)) (bytes_at rest (item_name_len rest + 10) (dir_item_len rest - (item_name_len rest + 12))) (bytes_at rest (dir_item_len rest - 2) 2)
unfolding first_dir_item
first_used rest h = cond-false (is_unused_item rest) _ _ h

pub found : (at : ℕ) (rest : List ℕ) → begins_with_item at rest ≡ true → IsFound at rest (first_dir_item rest)
found at rest h =
    let f = front at rest h in
    elim (cases_Bool (is_unused_item rest)) [
      | inl u ↦ subst (IsFound at rest) (sym (first_unused rest u)) (found_unused at rest f u)
      | inr u ↦ subst (IsFound at rest) (sym (first_used rest u)) (found_used at rest f u)
    ]

-- an item that stands in front is the one that is found
pub record IsRead (at : ℕ) (xs : List ℕ) (item : DirItem) (after : List ℕ) : Type 0 where
  pub there : IsFront at xs
  pub first : first_dir_item xs ≡ item
  pub long : dir_item_len xs ≡ length (dir_item_bytes item)
  pub behind_it : drop (dir_item_len xs) xs ≡ after

same_unused : {a b c d e f g h : List ℕ} → a ≡ e → b ≡ f → c ≡ g → d ≡ h → UnusedItem a b c d ≡ UnusedItem e f g h
same_unused p q r s = cc

same_used : {a b d e f g i j : List ℕ} {c h : ℕ} → a ≡ f → b ≡ g → c ≡ h → d ≡ i → e ≡ j → UsedItem a b c d e ≡ UsedItem f g h i j
same_used p q r s t = cc

eight_at_least : (n : ℕ) → 0 < n → n % 8 ≡ 0 → 8 ≤ n
eight_at_least n h z =
    let w : n / 8 * 8 + n % 8 ≡ n = div-add-mod' n 8 in
    omega (arith, w, h, z)

read_unused : (at : ℕ) (freetag len filling tag after : List ℕ) → IsUnusedItem at freetag len filling tag → IsRead at (dir_item_bytes (UnusedItem freetag len filling tag) ++ after) (UnusedItem freetag len filling tag) after
read_unused at freetag len filling tag after i =
    let xs : List ℕ = dir_item_bytes (UnusedItem freetag len filling tag) ++ after in
    let n : ℕ = length (dir_item_bytes (UnusedItem freetag len filling tag)) in
    let count : n ≡ length filling + 6 = omega (arith, length-append freetag (len ++ (filling ++ tag)), length-append len (filling ++ tag), length-append filling tag, i.freetag_long, i.len_long, i.tag_long) in
    let d0 : drop 0 xs ≡ freetag ++ (len ++ (filling ++ (tag ++ after))) = append_assoc freetag _ after ∙ ap (λ (zs : List ℕ). freetag ++ zs) (append_assoc len _ after ∙ ap (λ (zs : List ℕ). len ++ zs) (append_assoc filling tag after)) in
    let d2 = behind xs freetag _ 0 2 2 d0 i.freetag_long refl in
    let d4 = behind xs len _ 2 2 4 d2 i.len_long refl in
    let dp = behind xs filling _ 4 (length filling) (n - 2) d4 refl (omega (arith, count)) in
    let dn = behind xs tag after (n - 2) 2 n dp i.tag_long (omega (arith, count)) in
    let u : is_unused_item xs ≡ true = eq-eqb _ _ (sym (field_of_part 2 xs 0) ∙ ap (field_number 2) (part_at xs freetag _ 0 2 d0 i.freetag_long) ∙ i.marked) in
    let l : dir_item_len xs ≡ n = len_unused xs u ∙ sym (field_of_part 2 xs 2) ∙ ap (field_number 2) (part_at xs len _ 2 2 d2 i.len_long) ∙ i.len_is in
    let p2 : bytes_at xs (dir_item_len xs - 2) 2 ≡ tag = ap (λ (k : ℕ). bytes_at xs (k - 2) 2) l ∙ part_at xs tag after (n - 2) 2 dp i.tag_long in
    let less : dir_item_len xs - 6 ≡ length filling = omega (arith, l, count) in
    record {
      there = record {
        big = omega (arith, l, eight_at_least n (omega (arith, count)) i.eights);
        inside = omega (arith, l, length-append (dir_item_bytes (UnusedItem freetag len filling tag)) after);
        eights = ap (λ (k : ℕ). k % 8) l ∙ i.eights;
        use_it = or_left _ _ u;
        placed = sym (field_of_part 2 xs (dir_item_len xs - 2)) ∙ ap (field_number 2) p2 ∙ i.placed;
      };
      first = first_unused xs u ∙ same_unused (part_at xs freetag _ 0 2 d0 i.freetag_long) (part_at xs len _ 2 2 d2 i.len_long) (ap (λ (k : ℕ). bytes_at xs 4 k) less ∙ part_at xs filling _ 4 (length filling) d4 refl) p2;
      long = l;
      behind_it = ap (λ (k : ℕ). drop k xs) l ∙ dn;
    }

read_used : (at : ℕ) (inumber name : List ℕ) (ftype : ℕ) (padding tag after : List ℕ) → IsUsedItem at inumber name ftype padding tag → IsRead at (dir_item_bytes (UsedItem inumber name ftype padding tag) ++ after) (UsedItem inumber name ftype padding tag) after
read_used at inumber name ftype padding tag after i =
    let xs : List ℕ = dir_item_bytes (UsedItem inumber name ftype padding tag) ++ after in
    let n : ℕ = length (dir_item_bytes (UsedItem inumber name ftype padding tag)) in
    let m : ℕ = length name in
    let p : ℕ = length padding in
    let count : n ≡ m + 12 + p = omega (arith, length-append inumber (length name ∷ (name ++ (ftype ∷ (padding ++ tag)))), length-append name (ftype ∷ (padding ++ tag)), length-append padding tag, i.inumber_long, i.tag_long) in
    let d0 : drop 0 xs ≡ inumber ++ (length name ∷ (name ++ (ftype ∷ (padding ++ (tag ++ after))))) = append_assoc inumber _ after ∙ ap (λ (zs : List ℕ). inumber ++ (length name ∷ zs)) (append_assoc name _ after ∙ ap (λ (zs : List ℕ). name ++ (ftype ∷ zs)) (append_assoc padding tag after)) in
    let d8 = behind xs inumber _ 0 8 8 d0 i.inumber_long refl in
    let d9 = behind_byte xs _ _ 8 9 d8 refl in
    let named : item_name_len xs ≡ m = byte_at xs _ _ 8 d8 in
    let df = behind xs name _ 9 m (m + 9) d9 refl (omega arith) in
    let dq = behind_byte xs _ _ (m + 9) (m + 10) df (omega arith) in
    let dp = behind xs padding _ (m + 10) p (n - 2) dq refl (omega (arith, count)) in
    let dn = behind xs tag after (n - 2) 2 n dp i.tag_long (omega (arith, count)) in
    let head : big_at 2 xs 0 ≡ field_number 2 inumber = sym (field_of_longer 2 8 xs 0 (omega arith)) ∙ ap (field_number 2) (part_at xs inumber _ 0 8 d0 i.inumber_long) in
    let u : is_unused_item xs ≡ false = ne_eqb _ _ (λ y. i.unmarked (sym head ∙ y)) in
    let l : dir_item_len xs ≡ n = len_used xs u ∙ ap (λ (k : ℕ). (k + 19) / 8 * 8) named ∙ padded_is m p n count i.short i.eights in
    let p2 : bytes_at xs (dir_item_len xs - 2) 2 ≡ tag = ap (λ (k : ℕ). bytes_at xs (k - 2) 2) l ∙ part_at xs tag after (n - 2) 2 dp i.tag_long in
    let less : dir_item_len xs - (item_name_len xs + 12) ≡ p = omega (arith, l, named, count) in
    record {
      there = record {
        big = omega (arith, l, count);
        inside = omega (arith, l, length-append (dir_item_bytes (UsedItem inumber name ftype padding tag)) after);
        eights = ap (λ (k : ℕ). k % 8) l ∙ i.eights;
        use_it = or_right _ _ (lt-ltb 0 (item_name_len xs) (omega (arith, named, i.named)));
        placed = sym (field_of_part 2 xs (dir_item_len xs - 2)) ∙ ap (field_number 2) p2 ∙ i.placed;
      };
      first = first_used xs u ∙ same_used (part_at xs inumber _ 0 8 d0 i.inumber_long) (ap (λ (k : ℕ). bytes_at xs 9 k) named ∙ part_at xs name _ 9 m d9 refl) (ap (λ (k : ℕ). slice_index xs (k + 9)) named ∙ byte_at xs _ _ (m + 9) df)
          (ap (λ (k : ℕ). bytes_at xs (item_name_len xs + 10) k) less ∙ ap (λ (k : ℕ). bytes_at xs (k + 10) p) named ∙ part_at xs padding _ (m + 10) p dq refl) p2;
      long = l;
      behind_it = ap (λ (k : ℕ). drop k xs) l ∙ dn;
    }

pub read_item : (at : ℕ) (item : DirItem) (after : List ℕ) → IsDirItem at item → IsRead at (dir_item_bytes item ++ after) item after
read_item at (UnusedItem freetag len filling tag) after i = read_unused at freetag len filling tag after i
read_item at (UsedItem inumber name ftype padding tag) after i = read_used at inumber name ftype padding tag after i

-- a used item in front lies in the bytes
pub inside_used : (at : ℕ) (rest : List ℕ) → begins_with_item at rest ≡ true → is_unused_item rest ≡ false → item_name_len rest + 12 ≤ length rest
inside_used at rest h u =
    let f = front at rest h in
    omega (arith, f.inside, len_used rest u, (padded (item_name_len rest)).0)
