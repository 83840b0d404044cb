-- That parts, places and what is made of them stand in one order alone.
use Rattle.std.proofs.Common.{◌≡◌, ◌≢◌, ℕ, zero, suc, ◌+◌, ◌<◌, ◌≤◌, ◌⊎◌, true, false, List, length, map, slice_index_or, refl, sym, ◌∙◌, ap, subst, inl, inr, arith, AllPairs, IsPermutation, Contains, Option, Some, None}
use Rattle.std.proofs.lemmas.Bool.{cases_Bool, cases_eq, cases_lt, cases_order}
use Rattle.std.proofs.lemmas.List.{get_or_default, length-map, same_lists}
use Rattle.std.proofs.lemmas.List.Elements.{All-map, All-contains, Contains-get_or}
use Rattle.std.proofs.lemmas.List.Sorted.{Contains-permutation, IsPermutation-sym, IsPermutation-trans, length_permutation}
use Rattle.layout_plan.specs.declared.line.Spot.{Spot}
use Rattle.layout_plan.specs.declared.part.Fate.{Fate}
use Rattle.layout_plan.specs.declared.part.Kind.{Kind}
use Rattle.layout_plan.specs.declared.part.Part.{Part}
use Rattle.layout_plan.specs.declared.part.Placed.{Placed}
use Rattle.layout_plan.specs.declared.part.Role.{Role}
use Rattle.layout_plan.specs.declared.part.Role.TheVariants.{Slot, Extended, Logical}
use Rattle.layout_plan.specs.declared.wish.Layout.{Layout}
use Rattle.layout_plan.specs.declared.wish.Wish.{Wish}
use Rattle.layout_plan.specs.Layouts.{IsLayout, spot_at}
use Rattle.layout_plan.specs.Plans.{Begins, ComesBefore, HasLength, IsLeastStart, IsLaid, IsLogicalEnd, StandsAt, ArePlaced, IsLeastFree, IsExtra, IsExtraPart, is_taken, laid_piece}
use Rattle.layout_plan.specs.Tables.{floor_of, most_numbers}
use Rattle.layout_plan.specs.Wishes.{remaining}
use Rattle.layout_plan.proofs.Lines.{one_at_most}
use Rattle.layout_plan.proofs.Next.{next_unique}
use Rattle.layout_plan.proofs.Remains.{no_more_remain}

-- values to read lists with
pub any_part : Part
any_part = record { number = 0; role = Slot; start = 0; count = 0; content = 0 }

module _ (all : List Part) where
  abbrev pub InTurn : List Part → Type 0
  InTurn xs = AllPairs (ComesBefore all) xs

  pub one_way : (a b : Part) → ComesBefore all a b → ComesBefore all b a → ⊥
  one_way a b x y =
      elim x [
        | inl less ↦ elim y [ inl more ↦ omega arith | inr tie ↦ let same = tie.0 in omega arith ]
        | inr tie ↦
            let same = tie.0 in
            let number = tie.1 in
            elim y [ inl more ↦ omega arith | inr other ↦ let back = other.1 in omega arith ]
      ]

  -- where two lists in turn are the same up to k, an element that both have stands in the other at k or behind it
  no_earlier : (xs ys : List Part) → InTurn xs → InTurn ys → (k : ℕ) (d : Part)
      → ((j : ℕ) (e : Part) → j < k → slice_index_or xs j e ≡ slice_index_or ys j e)
      → k < length xs → k < length ys → Contains ys (slice_index_or xs k d)
      → (slice_index_or xs k d ≡ slice_index_or ys k d) ⊎ ComesBefore all (slice_index_or ys k d) (slice_index_or xs k d)
  no_earlier xs ys turns other k d below in_xs in_ys there =
      let x : Part = slice_index_or xs k d in
      let m : ℕ = there.0 in
      let within : m < length ys = there.1 in
      let is : slice_index_or ys m d ≡ x = get_or_default ys m d x within ∙ there.2 in
      elim (cases_order m k) [
        | inl same ↦ inl (sym is ∙ ap (λ (n : ℕ). slice_index_or ys n d) same)
        | inr apart ↦ elim apart [
          | inl early ↦
              let Before : Part → Type 0 = λ part. ComesBefore all part x in
              let itself : ComesBefore all x x = subst Before (below m d early ∙ is) (turns m k d early in_xs) in
              absurd (one_way x x itself itself)
          | inr late ↦
              let Behind : Part → Type 0 = λ part. ComesBefore all (slice_index_or ys k d) part in
              inr (subst Behind is (other k m d late within))
        ]
      ]

  same_below : (xs ys : List Part) → InTurn xs → InTurn ys → length xs ≡ length ys
      → ((k : ℕ) (d : Part) → k < length xs → Contains ys (slice_index_or xs k d))
      → ((k : ℕ) (d : Part) → k < length ys → Contains xs (slice_index_or ys k d))
      → (n : ℕ) → n ≤ length xs → (k : ℕ) (d : Part) → k < n → slice_index_or xs k d ≡ slice_index_or ys k d
  same_below xs ys turns other as_many there back zero within k d before = absurd (omega arith)
  same_below xs ys turns other as_many there back (suc n) within k d before =
      elim (cases_lt k n) [
        | inl less ↦ same_below xs ys turns other as_many there back n (omega arith) k d less
        | inr more ↦
            let is : k ≡ n = omega arith in
            let in_xs : n < length xs = omega arith in
            let in_ys : n < length ys = omega arith in
            let low : n ≤ length xs = omega arith in
            let same_n : slice_index_or xs n d ≡ slice_index_or ys n d =
            elim (no_earlier xs ys turns other n d (λ j e less. same_below xs ys turns other as_many there back n low j e less) in_xs in_ys (there n d in_xs)) [
              | inl same ↦ same
              | inr below ↦
                  elim (no_earlier ys xs other turns n d (λ j e less. sym (same_below xs ys turns other as_many there back n low j e less)) in_ys in_xs (back n d in_ys)) [
                    | inl same ↦ sym same
                    | inr above ↦ absurd (one_way (slice_index_or ys n d) (slice_index_or xs n d) below above)
                  ]
            ] in
            rw is same_n
      ]

  pub one_order : (zs xs ys : List Part) → IsPermutation zs xs → IsPermutation zs ys → InTurn xs → InTurn ys → xs ≡ ys
  one_order zs xs ys to_xs to_ys turns other =
      let over : IsPermutation xs ys = IsPermutation-trans xs zs ys (IsPermutation-sym zs xs to_xs) to_ys in
      let back : IsPermutation ys xs = IsPermutation-sym xs ys over in
      let as_many : length xs ≡ length ys = sym (length_permutation xs ys over) in
      same_lists xs ys as_many
      (λ k d within. same_below xs ys turns other as_many
      (λ j e inside. Contains-permutation xs ys (slice_index_or xs j e) over (Contains-get_or xs j e inside))
      (λ j e inside. Contains-permutation ys xs (slice_index_or ys j e) back (Contains-get_or ys j e inside))
      (length xs) (omega arith) k d within)

  one_place : (laid : List Part) → InTurn laid → (part : Part) (i j : ℕ) → i < length laid → j < length laid
      → slice_index_or laid i part ≡ part → slice_index_or laid j part ≡ part → i ≡ j
  one_place laid turns part i j in_i in_j is_i is_j =
      let First : Part → Type 0 = λ one. ComesBefore all one part in
      let At : Part → Part → Type 0 = λ one other. ComesBefore all one other in
      let itself : (a b : ℕ) → a < b → b < length laid → slice_index_or laid a part ≡ part → slice_index_or laid b part ≡ part → ComesBefore all part part =
      λ a b less within is_a is_b. let Second : Part → Type 0 = λ other. ComesBefore all (slice_index_or laid a part) other in subst First is_a (subst Second is_b (turns a b part less within)) in
      elim (cases_order i j) [
        | inl same ↦ same
        | inr apart ↦ elim apart [
          | inl before ↦ let same = itself i j before in_j is_i is_j in absurd (one_way part part same same)
          | inr after ↦ let same = itself j i after in_i is_j is_i in absurd (one_way part part same same)
        ]
      ]

  one_spot : (laid : List Part) (spots : List Spot) → InTurn laid → (part : Part) (a b : Spot) → StandsAt laid spots part a → StandsAt laid spots part b → a ≡ b
  one_spot laid spots turns part a b x y =
      let places : x.place ≡ y.place = one_place laid turns part x.place y.place x.within y.within x.is_part y.is_part in
      x.there ∙ ap (spot_at spots) places ∙ sym y.there

no_less : (parts : List Part) (a b : ℕ) → 0 < length parts → IsLeastStart parts a → IsLeastStart parts b → a ≤ b
no_less parts a b some x y =
    All-contains (λ (start : ℕ). a ≤ start) (map (λ (part : Part). part.start) parts) b
    (All-map (λ (start : ℕ). a ≤ start) (λ (part : Part). part.start) parts x.below) (y.attained some)

pub one_begin : (kind : Kind) (layout : Layout) (parts : List Part) (a b : ℕ) → 0 < length parts → Begins kind layout parts a → Begins kind layout parts b → a ≡ b
one_begin kind layout parts a b some x y =
    elim (cases_Bool layout.always) [
      | inl always ↦ next_unique layout.align (floor_of kind) a b (x.aligned always) (y.aligned always)
      | inr never ↦
          let low : a ≤ b = no_less parts a b some (x.stays never) (y.stays never) in
          let high : b ≤ a = no_less parts b a some (y.stays never) (x.stays never) in
          omega arith
    ]

module _ (kind : Kind) (parts : List Part) (wishes : List Wish) (layout : Layout) where
  pub some_part : (laid : List Part) → IsPermutation (remaining wishes parts) laid → length laid ≢ 0 → 0 < length parts
  some_part laid same some = omega (arith, length_permutation (remaining wishes parts) laid same, no_more_remain wishes parts)

  pub one_line : (laid : List Part) (spots other : List Spot) → IsLaid kind parts wishes layout laid spots → IsLaid kind parts wishes layout laid other → spots ≡ other
  one_line laid spots other x y =
      let pieces = map (laid_piece wishes) laid in
      let long : length spots ≡ length pieces = x.stand.as_many in
      let as_long : length other ≡ length pieces = y.stand.as_many in
      elim (cases_eq (length laid) 0) [
        | inl none ↦ same_lists spots other (long ∙ sym as_long) (λ k d within. absurd (omega (arith, length-map laid (laid_piece wishes))))
        | inr some ↦
            let same : x.begin ≡ y.begin = one_begin kind layout parts x.begin y.begin (some_part laid x.the_remaining some) x.begins y.begins in
            let P : ℕ → Type 0 = λ begin. IsLayout layout.align begin pieces spots in
            one_at_most layout.align y.begin pieces spots other (subst P same x.stand) y.stand
      ]

abbrev placed_of : ℕ → ℕ → ℕ → ℕ → ℕ → Fate → Placed
placed_of from number ebr start count fate = record { from = from; number = number; ebr = ebr; start = start; count = count; fate = fate }

pub same_placed : (p q : Placed) → p.from ≡ q.from → p.number ≡ q.number → p.ebr ≡ q.ebr → p.start ≡ q.start → p.count ≡ q.count → p.fate ≡ q.fate → p ≡ q
same_placed p q a b c d e f =
    let made : placed_of p.from p.number p.ebr p.start p.count p.fate ≡ placed_of q.from q.number q.ebr q.start q.count q.fate = rw (a, b, c, d, e, f) in made

-- the last logical partition ends at one place
one_logical_end : (laid : List Part) (spots : List Spot) (a b : ℕ) → IsLogicalEnd laid spots a → IsLogicalEnd laid spots b → a ≡ b
one_logical_end laid spots a b x y =
    elim (cases_order x.place y.place) [
      | inl same ↦ x.there ∙ ap (λ (place : ℕ). (spot_at spots place).end) same ∙ sym y.there
      | inr apart ↦ elim apart [
        | inl before ↦ let last = x.no_later y.place any_part before y.within in let logical = y.logical any_part in absurd (cc (last, logical))
        | inr after ↦ let last = y.no_later x.place any_part after x.within in let logical = x.logical any_part in absurd (cc (last, logical))
      ]
    ]

one_length : (role : Role) (wishes : List Wish) (laid : List Part) (spots : List Spot) (part : Part) (p q : Placed) → p.start ≡ q.start
    → HasLength role wishes laid spots part p.start p.count → HasLength role wishes laid spots part q.start q.count → p.count ≡ q.count
one_length Slot wishes laid spots part p q starts x y = x ∙ sym y
one_length Extended wishes laid spots part p q starts x y = omega (arith, starts, one_logical_end laid spots (p.start + p.count) (q.start + q.count) x y)
one_length Logical wishes laid spots part p q starts x y = x ∙ sym y

pub one_made : (wishes : List Wish) (parts laid : List Part) (spots : List Spot) (placed other : List Placed) → InTurn parts laid
    → ArePlaced wishes parts laid spots placed → ArePlaced wishes parts laid spots other → placed ≡ other
one_made wishes parts laid spots placed other turns x y =
    same_lists placed other (x.as_many ∙ sym y.as_many) (λ k d within.
    let p = x.each k any_part d within in
    let q = y.each k any_part d (omega (arith, x.as_many, y.as_many)) in
    let part = slice_index_or (remaining wishes parts) k any_part in
    let one = slice_index_or placed k d in
    let two = slice_index_or other k d in
    let same : p.spot ≡ q.spot = one_spot parts laid spots turns part p.spot q.spot p.stands q.stands in
    let starts : one.start ≡ two.start = p.same_start ∙ ap (λ (spot : Spot). spot.start) same ∙ sym q.same_start in
    same_placed one two
    (p.from ∙ sym q.from) (p.number ∙ sym q.number)
    (p.same_record ∙ ap (λ (spot : Spot). spot.ebr) same ∙ sym q.same_record) starts
    (one_length part.role wishes laid spots part one two starts p.count q.count) (p.fate ∙ sym q.fate))

no_lower_free : (most : ℕ) (placed : List Placed) (a b : ℕ) → IsLeastFree most placed a → IsLeastFree most placed b → a < b → ⊥
no_lower_free most placed a b x y low =
    let taken : is_taken placed a ≡ true = y.least a x.from_one low in
    let free : is_taken placed a ≡ false = x.free in
    cc

one_free : (most : ℕ) (placed : List Placed) (a b : ℕ) → IsLeastFree most placed a → IsLeastFree most placed b → a ≡ b
one_free most placed a b x y =
    let low : a < b → ⊥ = no_lower_free most placed a b x y in
    let high : b < a → ⊥ = no_lower_free most placed b a y x in
    omega arith

some_or_none : (kind : Kind) (layout : Layout) (last : ℕ) (placed : List Placed) (limit : ℕ) (one : Placed)
    → IsExtra kind layout last placed limit None → IsExtraPart kind layout last placed limit one → ⊥
some_or_none kind layout last placed limit one none some =
    elim none [
      | inl unasked ↦ let asked : layout.extra ≡ true = some.asked in cc
      | inr rest ↦ elim rest [
        | inl cramped ↦
            let same : cramped.start ≡ one.start = next_unique layout.align last cramped.start one.start cramped.behind some.behind in
            omega (arith, cramped.too_little, some.to_limit, some.enough)
        | inr all_taken ↦
            let taken : is_taken placed one.number ≡ true = all_taken one.number some.number.from_one some.number.up_to_most in
            let free : is_taken placed one.number ≡ false = some.number.free in
            cc
      ]
    ]

pub one_extra : (kind : Kind) (layout : Layout) (last : ℕ) (placed : List Placed) (limit : ℕ) (a b : Option Placed)
    → IsExtra kind layout last placed limit a → IsExtra kind layout last placed limit b → a ≡ b
one_extra kind layout last placed limit None None x y = refl
one_extra kind layout last placed limit None (Some b) x y = absurd (some_or_none kind layout last placed limit b x y)
one_extra kind layout last placed limit (Some a) None x y = absurd (some_or_none kind layout last placed limit a y x)
one_extra kind layout last placed limit (Some a) (Some b) x y =
    let start : a.start ≡ b.start = next_unique layout.align last a.start b.start x.behind y.behind in
    let count : a.count ≡ b.count = omega (arith, x.to_limit, y.to_limit) in
    ap Some (same_placed a b (x.from_none ∙ sym y.from_none) (one_free (most_numbers kind) placed a.number b.number x.number y.number)
    (x.no_boot_record ∙ sym y.no_boot_record) start count (x.kept ∙ sym y.kept))
