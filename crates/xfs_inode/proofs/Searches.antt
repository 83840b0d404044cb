-- Extents that lie apart: the one that covers a block stands where the block parts them.
use Rattle.std.proofs.Common.{◌≡◌, ℕ, zero, suc, ◌+◌, ◌-◌, ◌<◌, ◌≤◌, true, false, cond, nat_le, nat_lt, Option, Some, None, List, [], ◌∷◌, length, map, slice_index_or, refl, sym, ap, subst, ◌∙◌, arith, inl, inr}
use Rattle.std.proofs.lemmas.Bool.{cond-true, cond-false, and_from, and_left, and_right, le-leb, lt-leb, lt-ltb, le-ltb, cases_order, cases_Bool, and_parts, ltb-true, leb-true}
use Rattle.std.proofs.lemmas.List.Elements.{All-head, All-tail}
use Rattle.std.specs.List.{All, range_with_len}
use Rattle.std.specs.Option.{IfSome}
use Rattle.xfs_tree.specs.declared.extent.Extent.{Extent}
use Rattle.xfs_super.specs.Geometry.{Geometry}
use Rattle.xfs_tree.specs.Records.{by_file}
use Rattle.xfs_tree.specs.Tree.{AreInOrder}
use Rattle.xfs_inode.specs.Extents.{covers, covering, AreSoundExtents}
use Rattle.xfs_inode.specs.inside.Searching.{AreApartInFile, IsPartedAt, IsNarrowed, IsSoundAt}

before_is : (r s : Extent) → by_file.before r s ≡ true → (r.file < s.file) × (r.file + r.count ≤ s.file)
before_is r s h = let parts = and_parts (nat_lt r.file s.file) (nat_le (r.file + r.count) s.file) h in (ltb-true _ _ parts.0, leb-true _ _ parts.1)

below_both : (a b c : ℕ) → a ≤ b → b < c → a ≤ c
below_both a b c p q = omega arith

some_is : {x y : Extent} → Some x ≡ Some y → x ≡ y
some_is {x} {y} h = cc

not_yet : (block : ℕ) (e : Extent) → block < e.file → covers block e ≡ false
not_yet block e h = and_left _ _ (lt-leb _ _ h)

no_more : (block : ℕ) (e : Extent) → e.file + e.count ≤ block → covers block e ≡ false
no_more block e h = and_right _ _ (le-ltb _ _ h)

pub none_covers : (block : ℕ) (xs : List Extent) → ((k : ℕ) (d : Extent) → k < length xs → block < (slice_index_or xs k d).file) → covering block xs ≡ None
none_covers block [] h = refl
none_covers block (e ∷ es) h = cond-false (covers block e) _ _ (not_yet block e (h 0 e (omega arith))) ∙ none_covers block es (λ k d l. h (suc k) d (omega (arith, l)))

tail_apart : (e : Extent) (es : List Extent) → AreApartInFile (e ∷ es) → AreApartInFile es
tail_apart e es a = λ i j d l h. a (suc i) (suc j) d (omega (arith, l)) (omega (arith, h))

pub covering_there : (block : ℕ) (xs : List Extent) (at : ℕ) (d : Extent) → AreApartInFile xs → IsPartedAt block xs at → at < length xs → (slice_index_or xs at d).file ≤ block → covering block xs ≡ Some (slice_index_or xs at d)
covering_there block [] at d a p l f = absurd (omega (arith, l))
covering_there block (e ∷ es) zero d a p l f = cond-true (covers block e) _ _ (and_from _ _ (le-leb _ _ f) (lt-ltb _ _ (p.behind 0 d (omega arith) l)))
covering_there block (e ∷ es) (suc at) d a p l f =
    cond-false (covers block e) _ _ (no_more block e (p.before 0 d (omega arith)))
    ∙ covering_there block es at d (tail_apart e es a) (record { within = omega (arith, p.within); before = λ k d l. p.before (suc k) d (omega (arith, l)); behind = λ k d g l. p.behind (suc k) d (omega (arith, g)) (omega (arith, l)) }) (omega (arith, l)) f

pub covering_none : (block : ℕ) (xs : List Extent) (at : ℕ) → AreApartInFile xs → IsPartedAt block xs at → ((d : Extent) → at < length xs → block < (slice_index_or xs at d).file) → covering block xs ≡ None
covering_none block [] at a p f = refl
covering_none block (e ∷ es) zero a p f =
    let first : block < e.file = f e (omega arith) in
    cond-false (covers block e) _ _ (not_yet block e first) ∙ none_covers block es (λ k d l. omega (arith, first, a 0 (suc k) d (omega arith) (omega (arith, l))))
covering_none block (e ∷ es) (suc at) a p f =
    cond-false (covers block e) _ _ (no_more block e (p.before 0 e (omega arith)))
    ∙ covering_none block es at (tail_apart e es a) (record { within = omega (arith, p.within); before = λ k d l. p.before (suc k) d (omega (arith, l)); behind = λ k d g l. p.behind (suc k) d (omega (arith, g)) (omega (arith, l)) }) (λ d l. f d (omega (arith, l)))

pub narrowed_up : (block : ℕ) (xs : List Extent) (low high middle : ℕ) → AreApartInFile xs → IsNarrowed block xs low high → middle < high → ((d : Extent) → (slice_index_or xs middle d).file + (slice_index_or xs middle d).count ≤ block) → IsNarrowed block xs (middle + 1) high
narrowed_up block xs low high middle a n h e =
    record {
      rising = omega (arith, h);
      within = n.within;
      before = λ k d l. elim (cases_order k middle) [
        | inl same ↦ subst (λ (m : ℕ). (slice_index_or xs m d).file + (slice_index_or xs m d).count ≤ block) (sym same) (e d)
        | inr other ↦ elim other [
          | inl less ↦ let one = a k middle d less (omega (arith, h, n.within)) in let two = e d in omega (arith, one, two)
          | inr more ↦ absurd (omega (arith, more, l))
        ]
      ];
      behind = n.behind;
    }

pub narrowed_down : (block : ℕ) (xs : List Extent) (low high middle : ℕ) → AreApartInFile xs → IsNarrowed block xs low high → low ≤ middle → middle < high → ((d : Extent) → block < (slice_index_or xs middle d).file + (slice_index_or xs middle d).count) → IsNarrowed block xs low middle
narrowed_down block xs low high middle a n g h e =
    record {
      rising = g;
      within = omega (arith, h, n.within);
      before = n.before;
      behind = λ k d l m. elim (cases_order k middle) [
        | inl same ↦ subst (λ (i : ℕ). block < (slice_index_or xs i d).file + (slice_index_or xs i d).count) (sym same) (e d)
        | inr other ↦ elim other [
          | inl less ↦ absurd (omega (arith, less, l))
          | inr more ↦ let one = a middle k d more m in let two = e d in omega (arith, one, two)
        ]
      ];
    }

-- extents in order lie apart at any distance
apart_by : (xs : List Extent) → AreInOrder by_file xs → (i n : ℕ) (d : Extent) → i + 1 + n < length xs → (slice_index_or xs i d).file + (slice_index_or xs i d).count ≤ (slice_index_or xs (i + 1 + n) d).file
apart_by xs order i zero d lt =
    let here = before_is (slice_index_or xs i d) (slice_index_or xs (i + 1) d) (order i (omega (arith, lt)) d) in
    subst (λ (m : ℕ). (slice_index_or xs i d).file + (slice_index_or xs i d).count ≤ (slice_index_or xs m d).file) (omega arith) here.1
apart_by xs order i (suc n) d lt =
    let before = apart_by xs order i n d (omega (arith, lt)) in
    let here = before_is (slice_index_or xs (i + 1 + n) d) (slice_index_or xs (i + 1 + n + 1) d) (order (i + 1 + n) (omega (arith, lt)) d) in
    subst (λ (m : ℕ). (slice_index_or xs i d).file + (slice_index_or xs i d).count ≤ (slice_index_or xs m d).file) (omega arith) (below_both _ _ _ before here.0)

pub apart_in_order : (xs : List Extent) → AreInOrder by_file xs → AreApartInFile xs
apart_in_order xs order i j d l h =
    subst (λ (m : ℕ). (slice_index_or xs i d).file + (slice_index_or xs i d).count ≤ (slice_index_or xs m d).file) (omega (arith, l)) (apart_by xs order i (j - (i + 1)) d (omega (arith, l, h)))

-- what is found is one of them, and covers the block
pub covering_covers : (block : ℕ) (xs : List Extent) (e : Extent) → covering block xs ≡ Some e → covers block e ≡ true
covering_covers block [] e h = absurd (cc)
covering_covers block (x ∷ xs) e h = elim (cases_Bool (covers block x)) [
  | inl there ↦ let is : x ≡ e = some_is (sym (cond-true (covers block x) (Some x) (covering block xs) there) ∙ h) in subst (λ (y : Extent). covers block y ≡ true) is there
  | inr gone ↦ covering_covers block xs e (sym (cond-false (covers block x) (Some x) (covering block xs) gone) ∙ h)
]

pub covering_has : (block : ℕ) (P : Extent → Type 0) (xs : List Extent) (e : Extent) → All P xs → covering block xs ≡ Some e → P e
covering_has block P [] e all h = absurd (cc)
covering_has block P (x ∷ xs) e all h = elim (cases_Bool (covers block x)) [
  | inl there ↦ subst P (some_is (sym (cond-true (covers block x) (Some x) (covering block xs) there) ∙ h)) (All-head P x xs all)
  | inr gone ↦ covering_has block P xs e (All-tail P x xs all) (sym (cond-false (covers block x) (Some x) (covering block xs) gone) ∙ h)
]

pub found_covers : (block : ℕ) (xs : List Extent) (o : Option Extent) → o ≡ covering block xs → IfSome o (λ e. covers block e ≡ true)
found_covers block xs None h = tt
found_covers block xs (Some e) h = covering_covers block xs e (sym h)

pub found_has : (block : ℕ) (P : Extent → Type 0) (xs : List Extent) (o : Option Extent) → All P xs → o ≡ covering block xs → IfSome o P
found_has block P xs None all h = tt
found_has block P xs (Some e) all h = covering_has block P xs e all (sym h)

-- the extents of a list from one on
pub covering_step : (block : ℕ) (f : ℕ → Extent) (k n m : ℕ) → n ≡ suc m → covering block (map f (range_with_len k n)) ≡ cond (covers block (f k)) (Some (f k)) (covering block (map f (range_with_len (k + 1) m)))
covering_step block f k n m e = ap (λ (i : ℕ). covering block (map f (range_with_len k i))) e

pub covering_end : (block : ℕ) (f : ℕ → Extent) (k n : ℕ) → n ≡ 0 → covering block (map f (range_with_len k n)) ≡ None
covering_end block f k n e = ap (λ (i : ℕ). covering block (map f (range_with_len k i))) e

-- extents each of which is sound are sound
pub all_sound : (geo : Geometry) (xs : List Extent) → ((i : ℕ) → i < length xs → IsSoundAt geo xs i) → AreSoundExtents geo xs
all_sound geo xs each = record {
  some = λ i d lt. (each i lt).some d;
  inside = λ i d lt. (each i lt).inside d;
  order = λ i lt. (each i (omega (arith, lt))).order lt;
}
