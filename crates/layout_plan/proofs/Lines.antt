-- Layouts: that there is one and only one, and that its pieces lie one behind the other.
use Rattle.std.proofs.Common.{◌≡◌, ◌≢◌, ℕ, zero, suc, ◌+◌, ◌-◌, ◌*◌, ◌^◌, ◌<◌, ◌≤◌, false, List, [], ◌∷◌, ◌++◌, length, length-append, refl, sym, ◌∙◌, ap, subst, inl, inr, arith, add-one}
use Rattle.std.proofs.lemmas.Bool.{cases_eq, ne_eqb}
use Rattle.std.proofs.lemmas.List.{get_or_default, same_lists}
use Rattle.std.proofs.lemmas.Grind.{common_steps}
use Rattle.layout_plan.specs.declared.line.Piece.{Piece}
use Rattle.layout_plan.specs.declared.line.Spot.{Spot}
use Rattle.layout_plan.specs.declared.part.Role.{Role}
use Rattle.layout_plan.specs.declared.part.Role.TheVariants.{Slot, Extended, Logical}
use Rattle.layout_plan.specs.Layouts.{IsLayout, Stands, StandsFirst, end_from, last_end, no_spot, piece_at, spot_at}
use Rattle.layout_plan.specs.Roles.{is_logical}
use Rattle.layout_plan.proofs.Spots.{IsPast, first_near, first_past, first_rises, first_sector, one_first, one_stand, some_first, some_stand, stand_near, stand_rises, stands_past}

-- the k-th piece stands where it does behind the one before it
abbrev pub Follows : ℕ → List Piece → List Spot → ℕ → Type 0
Follows align pieces spots k =
    Stands align (piece_at pieces k).role (spot_at spots k).end (piece_at pieces (k + 1)).role (piece_at pieces (k + 1)).count (spot_at spots (k + 1))

same_at : (align begin : ℕ) (pieces : List Piece) (xs ys : List Spot) → IsLayout align begin pieces xs → IsLayout align begin pieces ys
    → (k : ℕ) → k < length pieces → spot_at xs k ≡ spot_at ys k
same_at align begin pieces xs ys x y zero within = one_first begin (piece_at pieces 0).role (piece_at pieces 0).count (spot_at xs 0) (spot_at ys 0) (x.first within) (y.first within)
same_at align begin pieces xs ys x y (suc k) within =
    let more : k + 1 < length pieces = omega arith in
    let same : spot_at xs k ≡ spot_at ys k = same_at align begin pieces xs ys x y k (omega arith) in
    let P : Spot → Type 0 = λ spot. Stands align (piece_at pieces k).role spot.end (piece_at pieces (k + 1)).role (piece_at pieces (k + 1)).count (spot_at xs (k + 1)) in
    let nexts : spot_at xs (k + 1) ≡ spot_at ys (k + 1) =
    one_stand align (piece_at pieces k).role (spot_at ys k).end (piece_at pieces (k + 1)).role (piece_at pieces (k + 1)).count (spot_at xs (k + 1)) (spot_at ys (k + 1))
    (subst P same (x.following k more)) (y.following k more) in
    rw (← add-one k) nexts

pub one_at_most : (align begin : ℕ) (pieces : List Piece) (xs ys : List Spot) → IsLayout align begin pieces xs → IsLayout align begin pieces ys → xs ≡ ys
one_at_most align begin pieces xs ys x y =
    same_lists xs ys (x.as_many ∙ sym y.as_many) (λ k d within.
    let inside : k < length pieces = omega (arith, x.as_many) in
    get_or_default xs k d no_spot within ∙ same_at align begin pieces xs ys x y k inside ∙ get_or_default ys k no_spot d (omega (arith, inside, y.as_many)))

at_end : (spots : List Spot) (spot : Spot) (n : ℕ) → length spots ≡ n → spot_at (spots ++ spot ∷ []) n ≡ spot
at_end spots spot n long = grind (arith, common_steps)

below_end : (spots : List Spot) (spot : Spot) (n k : ℕ) → length spots ≡ n → k < n → spot_at (spots ++ spot ∷ []) k ≡ spot_at spots k
below_end spots spot n k long within = grind (arith, common_steps)

-- the first n pieces are laid out, and last is where the next one may start, behind one of the role before
pub record LaidSoFar (floor align begin : ℕ) (pieces : List Piece) (n : ℕ) (spots : List Spot) (before : Role) (last : ℕ) : Type 0 where
  pub as_many : length spots ≡ n
  pub first : 0 < n → StandsFirst begin (piece_at pieces 0).role (piece_at pieces 0).count (spot_at spots 0)
  pub following : (k : ℕ) → k + 1 < n → Follows align pieces spots k
  pub same_role : 0 < n → before ≡ (piece_at pieces (n - 1)).role
  pub behind : 0 < n → last ≡ (spot_at spots (n - 1)).end
  pub none : n ≡ 0 → last ≡ floor
  pub bound : last < 2 ^ 32 + n * (10 ^ 17 + 2 ^ 32)

follows_more : (align : ℕ) (pieces : List Piece) (n : ℕ) (spots : List Spot) (spot : Spot) (k : ℕ) → length spots ≡ n → k + 1 < n
    → Follows align pieces spots k → Follows align pieces (spots ++ spot ∷ []) k
follows_more align pieces n spots spot k long within follows =
    let here : spot_at spots k ≡ spot_at (spots ++ spot ∷ []) k = sym (below_end spots spot n k long (omega arith)) in
    let next : spot_at spots (k + 1) ≡ spot_at (spots ++ spot ∷ []) (k + 1) = sym (below_end spots spot n (k + 1) long within) in
    let Here : Spot → Type 0 = λ one. Stands align (piece_at pieces k).role one.end (piece_at pieces (k + 1)).role (piece_at pieces (k + 1)).count (spot_at spots (k + 1)) in
    let Next : Spot → Type 0 = λ one. Stands align (piece_at pieces k).role (spot_at (spots ++ spot ∷ []) k).end (piece_at pieces (k + 1)).role (piece_at pieces (k + 1)).count one in
    subst Next next (subst Here here follows)

-- one piece more: where it stands, and where it ends
pub laid_more : (floor align begin : ℕ) (pieces : List Piece) (n : ℕ) (spots : List Spot) (before : Role) (last : ℕ) (piece : Piece) (spot : Spot)
    → LaidSoFar floor align begin pieces n spots before last
    → (n ≡ 0 → StandsFirst begin piece.role piece.count spot) → (0 < n → Stands align before last piece.role piece.count spot)
    → piece ≡ piece_at pieces n → piece.count ≤ 10 ^ 17 → 0 < align → align ≤ 1048576 → begin < 2 ^ 32
    → LaidSoFar floor align begin pieces (n + 1) (spots ++ spot ∷ []) piece.role spot.end
laid_more floor align begin pieces n spots before last piece spot done at_first at_next is_piece small_count some_align small_align small_begin =
    let all = spots ++ spot ∷ [] in
    let there : spot_at all n ≡ spot = at_end spots spot n done.as_many in
    let first_there : n ≡ 0 → StandsFirst begin (piece_at pieces n).role (piece_at pieces n).count (spot_at all n) = λ none.
    let P : Piece → Spot → Type 0 = λ one at. StandsFirst begin one.role one.count at in
    let First : Spot → Type 0 = λ at. StandsFirst begin piece.role piece.count at in
    let With : Piece → Type 0 = λ one. StandsFirst begin one.role one.count (spot_at all n) in
    subst With is_piece (subst First (sym there) (at_first none)) in
    record {
      as_many = omega (arith, length-append spots (spot ∷ []), done.as_many);
      first = λ _. elim (cases_eq n 0) [
        | inl none ↦ let At : ℕ → Type 0 = λ k. StandsFirst begin (piece_at pieces k).role (piece_at pieces k).count (spot_at all k) in subst At none (first_there none)
        | inr some ↦
            let more : 0 < n = omega arith in
            let At : Spot → Type 0 = λ at. StandsFirst begin (piece_at pieces 0).role (piece_at pieces 0).count at in
            subst At (sym (below_end spots spot n 0 done.as_many more)) (done.first more)
      ];
      following = λ k within. elim (cases_eq (k + 1) n) [
        | inl here ↦
            let more : 0 < n = omega arith in
            let place : n - 1 ≡ k = omega arith in
            let role : before ≡ (piece_at pieces k).role = done.same_role more ∙ ap (λ (i : ℕ). (piece_at pieces i).role) place in
            let old : spot_at all k ≡ spot_at spots k = below_end spots spot n k done.as_many (omega arith) in
            let ends : last ≡ (spot_at all k).end = done.behind more ∙ ap (λ (i : ℕ). (spot_at spots i).end) place ∙ ap (λ (one : Spot). one.end) (sym old) in
            let Role1 : Role → Type 0 = λ one. Stands align one last piece.role piece.count spot in
            let Last : ℕ → Type 0 = λ end. Stands align (piece_at pieces k).role end piece.role piece.count spot in
            let At : Spot → Type 0 = λ at. Stands align (piece_at pieces k).role (spot_at all k).end piece.role piece.count at in
            let With : Piece → Type 0 = λ one. Stands align (piece_at pieces k).role (spot_at all k).end one.role one.count (spot_at all n) in
            let Place : ℕ → Type 0 = λ i. Stands align (piece_at pieces k).role (spot_at all k).end (piece_at pieces i).role (piece_at pieces i).count (spot_at all i) in
            subst Place (sym here) (subst With is_piece (subst At (sym there) (subst Last ends (subst Role1 role (at_next more)))))
        | inr earlier ↦ follows_more align pieces n spots spot k done.as_many (omega arith) (done.following k (omega arith))
      ];
      same_role = λ _. let place : n ≡ n + 1 - 1 = omega arith in ap (λ (one : Piece). one.role) is_piece ∙ ap (λ (i : ℕ). (piece_at pieces i).role) place;
      behind = λ _. let place : n ≡ n + 1 - 1 = omega arith in ap (λ (one : Spot). one.end) (sym there) ∙ ap (λ (i : ℕ). (spot_at all i).end) place;
      none = λ h. absurd (omega arith);
      bound = elim (cases_eq n 0) [
        | inl none ↦ omega (arith, first_near begin piece.role piece.count spot (at_first none))
        | inr some ↦ omega (arith, done.bound, stand_near align before last piece.role piece.count spot some_align (at_next (omega arith)))
      ];
    }

-- the first pieces of a list can be laid out, and so all of them can
laid_first : (align begin : ℕ) (pieces : List Piece) → 0 < align → (n : ℕ) → n ≤ length pieces
    → (spots : List Spot) × (length spots ≡ n) × (0 < n → StandsFirst begin (piece_at pieces 0).role (piece_at pieces 0).count (spot_at spots 0)) × ((k : ℕ) → k + 1 < n → Follows align pieces spots k)
laid_first align begin pieces some zero within = ([], refl, λ h. absurd (omega arith), λ k h. absurd (omega arith))
laid_first align begin pieces some (suc zero) within =
    let first = some_first begin (piece_at pieces 0).role (piece_at pieces 0).count in
    (first.0 ∷ [], refl, λ _. first.1, λ k h. absurd (omega arith))
laid_first align begin pieces some (suc (suc n)) within =
    let done = laid_first align begin pieces some (suc n) (omega arith) in
    let spots = done.0 in
    let long : length spots ≡ suc n = done.1 in
    let next = some_stand align (piece_at pieces n).role (spot_at spots n).end (piece_at pieces (n + 1)).role (piece_at pieces (n + 1)).count some in
    let all = spots ++ next.0 ∷ [] in
    let as_long : length spots ≡ n + 1 = omega arith in
    let there : next.0 ≡ spot_at all (n + 1) = sym (at_end spots next.0 (n + 1) as_long) in
    let old : spot_at spots n ≡ spot_at all n = sym (below_end spots next.0 (n + 1) n as_long (omega arith)) in
    let First : Spot → Type 0 = λ at. StandsFirst begin (piece_at pieces 0).role (piece_at pieces 0).count at in
    let At : Spot → Type 0 = λ at. Stands align (piece_at pieces n).role (spot_at spots n).end (piece_at pieces (n + 1)).role (piece_at pieces (n + 1)).count at in
    let Here : Spot → Type 0 = λ at. Stands align (piece_at pieces n).role at.end (piece_at pieces (n + 1)).role (piece_at pieces (n + 1)).count (spot_at all (n + 1)) in (
      all,
      omega (arith, length-append spots (next.0 ∷ []), long),
      λ _. subst First (sym (below_end spots next.0 (n + 1) 0 as_long (omega arith))) (done.2 (omega arith)),
      λ k h. elim (cases_eq k n) [
        | inl here ↦ let Place : ℕ → Type 0 = λ i. Follows align pieces all i in subst Place (sym here) (subst Here old (subst At there next.1))
        | inr earlier ↦ follows_more align pieces (n + 1) spots next.0 k as_long (omega arith) (done.3 k (omega arith))
      ],
    )

pub one_at_least : (align begin : ℕ) (pieces : List Piece) → 0 < align → (spots : List Spot) × IsLayout align begin pieces spots
one_at_least align begin pieces some =
    let all = laid_first align begin pieces some (length pieces) (omega arith) in
    (all.0, record { as_many = all.1; first = all.2; following = all.3 })

-- a piece that isn't the first may be a logical one
abbrev pub NoLogicalFirst : List Piece → Type 0
NoLogicalFirst pieces = 0 < length pieces → is_logical (piece_at pieces 0).role ≡ false

-- the spot of each piece takes sectors from begin on, behind the ends of those before it
pub record IsInLine (begin : ℕ) (pieces : List Piece) (spots : List Spot) (k : ℕ) : Type 0 where
  pub past : IsPast begin (piece_at pieces k).role (piece_at pieces k).count (spot_at spots k)
  pub ends : begin ≤ (spot_at spots k).end
  pub behind : (i : ℕ) → i < k → (spot_at spots i).end ≤ first_sector (spot_at spots k)
  pub rises : first_sector (spot_at spots k) ≤ (spot_at spots k).end

weaker_past : (low high : ℕ) (role : Role) (count : ℕ) (spot : Spot) → low ≤ high → IsPast high role count spot → IsPast low role count spot
weaker_past low high role count spot less x = record {
  from = omega (arith, x.from);
  to = x.to;
  record_before = x.record_before;
  no_record = x.no_record;
  some_record = x.some_record;
  ends = x.ends;
}

end_behind : (role : Role) (count start : ℕ) → start ≤ end_from role count start
end_behind Slot count start = omega arith
end_behind Extended count start = omega arith
end_behind Logical count start = omega arith

past_ends : (behind : ℕ) (role : Role) (count : ℕ) (spot : Spot) → IsPast behind role count spot → first_sector spot ≤ spot.end
past_ends behind role count spot x = omega (arith, x.to, x.ends, end_behind role count spot.start)

pub in_line : (align begin : ℕ) (pieces : List Piece) (spots : List Spot) → 1 ≤ begin → NoLogicalFirst pieces → IsLayout align begin pieces spots
    → (k : ℕ) → k < length pieces → IsInLine begin pieces spots k
in_line align begin pieces spots some plain x zero within =
    let past = first_past begin (piece_at pieces 0).role (piece_at pieces 0).count (spot_at spots 0) some (plain within) (x.first within) in
    let rises = past_ends begin (piece_at pieces 0).role (piece_at pieces 0).count (spot_at spots 0) past in
    record {
      past = past;
      ends = omega (arith, past.from, rises);
      behind = λ i h. absurd (omega arith);
      rises = rises;
    }
in_line align begin pieces spots some plain x (suc k) within =
    let before = in_line align begin pieces spots some plain x k (omega arith) in
    let end = (spot_at spots k).end in
    let piece = piece_at pieces (k + 1) in
    let spot = spot_at spots (k + 1) in
    let past : IsPast end piece.role piece.count spot = stands_past align (piece_at pieces k).role end piece.role piece.count spot (omega (arith, before.ends)) (x.following k (omega arith)) in
    let rises = past_ends end piece.role piece.count spot past in
    rw (← add-one k)
    record {
      past = weaker_past begin end piece.role piece.count spot before.ends past;
      ends = omega (arith, before.ends, past.from, rises);
      behind = λ i h. elim (cases_eq i k) [
        | inl same ↦ let is : (spot_at spots i).end ≡ (spot_at spots k).end = ap (λ (j : ℕ). (spot_at spots j).end) same in omega (arith, is, past.from)
        | inr early ↦ let less : i < k = omega arith in omega (arith, before.behind i less, before.rises, past.from)
      ];
      rises = rises;
    }

-- the last end is that of the last piece
pub last_end_is : (floor : ℕ) (spots : List Spot) → 0 < length spots → last_end floor spots ≡ (spot_at spots (length spots - 1)).end
last_end_is floor spots some =
    let other : length spots ≢ 0 = omega arith in
    rw (ne_eqb (length spots) 0 other)

pub last_end_none : (floor : ℕ) (spots : List Spot) → length spots ≡ 0 → last_end floor spots ≡ floor
last_end_none floor spots none = rw none

-- each piece ends at the last end or before it
pub ends_by_last : (floor begin : ℕ) (pieces : List Piece) (spots : List Spot) → length spots ≡ length pieces → ((k : ℕ) → k < length pieces → IsInLine begin pieces spots k)
    → (k : ℕ) → k < length pieces → (spot_at spots k).end ≤ last_end floor spots
ends_by_last floor begin pieces spots long line k within =
    let is : last_end floor spots ≡ (spot_at spots (length spots - 1)).end = last_end_is floor spots (omega (arith, long)) in
    elim (cases_eq (k + 1) (length spots)) [
      | inl last ↦
          let place : k ≡ length spots - 1 = omega arith in
          let same : (spot_at spots k).end ≡ (spot_at spots (length spots - 1)).end = ap (λ (i : ℕ). (spot_at spots i).end) place in
          omega arith
      | inr more ↦
          let last = line (length spots - 1) (omega (arith, long)) in
          let before : (spot_at spots k).end ≤ first_sector (spot_at spots (length spots - 1)) = last.behind k (omega (arith, long)) in
          omega (arith, last.rises)
    ]

-- pieces of the same roles, none of which is longer than the other
pub record AtMost (low high : List Piece) : Type 0 where
  pub as_many : length low ≡ length high
  pub roles : (k : ℕ) → k < length low → (piece_at low k).role ≡ (piece_at high k).role
  pub counts : (k : ℕ) → k < length low → (piece_at low k).count ≤ (piece_at high k).count

ends_rise : (align begin : ℕ) (low high : List Piece) (xs ys : List Spot) → AtMost low high → IsLayout align begin low xs → IsLayout align begin high ys
    → (k : ℕ) → k < length low → (spot_at xs k).end ≤ (spot_at ys k).end
ends_rise align begin low high xs ys less x y zero within =
    let First : Role → Type 0 = λ role. StandsFirst begin role (piece_at low 0).count (spot_at xs 0) in
    first_rises begin (piece_at high 0).role (piece_at low 0).count (piece_at high 0).count (spot_at xs 0) (spot_at ys 0) (less.counts 0 within)
    (subst First (less.roles 0 within) (x.first within)) (y.first (omega (arith, within, less.as_many)))
ends_rise align begin low high xs ys less x y (suc k) within =
    let more : k + 1 < length low = omega arith in
    let inside : k < length low = omega arith in
    let before = ends_rise align begin low high xs ys less x y k inside in
    let Before : Role → Type 0 = λ role. Stands align role (spot_at xs k).end (piece_at low (k + 1)).role (piece_at low (k + 1)).count (spot_at xs (k + 1)) in
    let Own : Role → Type 0 = λ role. Stands align (piece_at high k).role (spot_at xs k).end role (piece_at low (k + 1)).count (spot_at xs (k + 1)) in
    let stands = subst Own (less.roles (k + 1) more) (subst Before (less.roles k inside) (x.following k more)) in
    rw (← add-one k)
    (stand_rises align (piece_at high k).role (spot_at xs k).end (spot_at ys k).end (piece_at high (k + 1)).role (piece_at low (k + 1)).count (piece_at high (k + 1)).count
    (spot_at xs (k + 1)) (spot_at ys (k + 1)) before (less.counts (k + 1) more) stands (y.following k (omega (arith, more, less.as_many))))

-- longer pieces end further on
pub last_rises : (floor align begin : ℕ) (low high : List Piece) (xs ys : List Spot) → AtMost low high → IsLayout align begin low xs → IsLayout align begin high ys
    → last_end floor xs ≤ last_end floor ys
last_rises floor align begin low high xs ys less x y =
    let long : length xs ≡ length ys = x.as_many ∙ less.as_many ∙ sym y.as_many in
    elim (cases_eq (length xs) 0) [
      | inl none ↦ omega (arith, last_end_none floor xs none, last_end_none floor ys (sym long ∙ none))
      | inr some ↦
          let more : 0 < length xs = omega arith in
          let place = length xs - 1 in
          let rise = ends_rise align begin low high xs ys less x y place (omega (arith, more, x.as_many)) in
          let is : length ys - 1 ≡ place = omega (arith, long) in
          let last_high : last_end floor ys ≡ (spot_at ys place).end = last_end_is floor ys (omega (arith, long, more)) ∙ ap (λ (k : ℕ). (spot_at ys k).end) is in
          omega (arith, last_end_is floor xs more, last_high, rise)
    ]
