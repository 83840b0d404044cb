-- Sectors of the join of some runs, run by run.
use Rattle.std.proofs.Common.{◌≡◌, ℕ, ◌+◌, ◌-◌, ◌^◌, ◌<◌, ◌≤◌, ◌⊎◌, inl, inr, true, false, List, [], ◌∷◌, refl, sym, subst, arith, ◌∙◌, ap, min, drop, length, get_or}
use Rattle.std.specs.Prelude.{nat_lt}
use Rattle.std.proofs.lemmas.Bool.{cases_lt}
use Rattle.std.proofs.lemmas.List.{drop_more, drop_all}
use Rattle.std.proofs.lemmas.Bool.Decides.{nat_tests}
use Rattle.disk_base.specs.Run.{IsIn, run_of}
use Rattle.disk_base.specs.declared.run.Run.{Run}
use Rattle.disk_view.specs.Join.{place}
use Rattle.disk_view.specs.inside.Lengths.{total-cons}
use Rattle.free_sectors.specs.inside.Adding.{StandsInJoin}

pub place_here : (run : Run) (later : List Run) (k : ℕ) → k < run.count → place (run ∷ later) k ≡ run.start + k
place_here run later k h = let t : nat_lt k run.count ≡ true = grind (arith, nat_tests) in rw t refl

pub place_later : (run : Run) (later : List Run) (k : ℕ) → run.count ≤ k → place (run ∷ later) k ≡ place later (k - run.count)
place_later run later k h = let t : nat_lt k run.count ≡ false = grind (arith, nat_tests) in rw t refl

pub stands_nowhere : (first n x : ℕ) → StandsInJoin [] first n x → ⊥
stands_nowhere first n x at = omega (arith, at.below)

-- what stands in a join stands in its first run or in the later ones; `from` and `count` say what of it the first run has
pub stands_to : (run : Run) (later : List Run) (first n from count x : ℕ) → from ≡ min first run.count → count ≡ min n (run.count - from)
    → StandsInJoin (run ∷ later) first n x → IsIn (run_of (run.start + from) count) x ⊎ StandsInJoin later (first - from) (n - count) x
stands_to run later first n from count x from_is count_is at =
    elim (cases_lt at.k run.count) [
      | inl small ↦
          let e : run.start + at.k ≡ x = sym (place_here run later at.k small) ∙ at.stands in
          inl (record { from = omega (arith, at.from, at.before, from_is, count_is, small, e); before = omega (arith, at.from, at.before, from_is, count_is, small, e) })
      | inr large ↦
          let e : place later (at.k - run.count) ≡ x = sym (place_later run later at.k large) ∙ at.stands in
          inr (record {
            k = at.k - run.count;
            from = omega (arith, at.from, from_is, large);
            before = omega (arith, at.from, at.before, from_is, count_is, large);
            below = omega (arith, at.below, total-cons run later, large);
            stands = e;
          })
    ]

pub stands_back : (run : Run) (later : List Run) (first n from count x : ℕ) → from ≡ min first run.count → count ≡ min n (run.count - from)
    → (IsIn (run_of (run.start + from) count) x ⊎ StandsInJoin later (first - from) (n - count) x) → StandsInJoin (run ∷ later) first n x
stands_back run later first n from count x from_is count_is e = elim e [ inl here ↦ in_first here.from here.before | inr there ↦ in_later there ]
  where
    in_first : run.start + from ≤ x → x < run.start + from + count → StandsInJoin (run ∷ later) first n x
    in_first low high =
        let small : x - run.start < run.count = omega (arith, low, high, from_is, count_is) in
        record {
          k = x - run.start;
          from = omega (arith, low, high, from_is, count_is);
          before = omega (arith, low, high, from_is, count_is);
          below = omega (arith, small, total-cons run later);
          stands = place_here run later (x - run.start) small ∙ omega (arith, low);
        }

    in_later : StandsInJoin later (first - from) (n - count) x → StandsInJoin (run ∷ later) first n x
    in_later at =
        let large : run.count ≤ at.k + run.count = omega arith in
        let back : at.k + run.count - run.count ≡ at.k = omega arith in
        record {
          k = at.k + run.count;
          from = omega (arith, at.from, from_is);
          before = omega (arith, at.from, at.before, from_is, count_is);
          below = omega (arith, at.below, total-cons run later);
          stands = place_later run later (at.k + run.count) large ∙ ap (place later) back ∙ at.stands;
        }

-- one turn of the loop over the runs

at_drop : (runs : List Run) (i : ℕ) (d : Run) (first n x : ℕ) → i < length runs → StandsInJoin (drop i runs) first n x → StandsInJoin (get_or runs i d ∷ drop (i + 1) runs) first n x
at_drop runs i d first n x inside at = subst (λ (rest : List Run). StandsInJoin rest first n x) (drop_more runs i d inside) at

drop_at : (runs : List Run) (i : ℕ) (d : Run) (first n x : ℕ) → i < length runs → StandsInJoin (get_or runs i d ∷ drop (i + 1) runs) first n x → StandsInJoin (drop i runs) first n x
drop_at runs i d first n x inside at = subst (λ (rest : List Run). StandsInJoin rest first n x) (sym (drop_more runs i d inside)) at

-- on a disk, a start that is cut to 64 bits is as good
pub uncut : (whole start count x : ℕ) → start ≡ min whole (2 ^ 64 - 1) → x < 2 ^ 31 → IsIn (run_of whole count) x → IsIn (run_of start count) x
uncut whole start count x is small here =
    let same : start ≡ whole = omega (arith, is, small, here.from) in record { from = omega (arith, same, here.from); before = omega (arith, same, here.before) }

pub cut_back : (whole start count x : ℕ) → start ≡ min whole (2 ^ 64 - 1) → x < 2 ^ 31 → IsIn (run_of start count) x → IsIn (run_of whole count) x
cut_back whole start count x is small here =
    let same : start ≡ whole = omega (arith, is, small, here.from) in record { from = omega (arith, same, here.from); before = omega (arith, same, here.before) }

pub turn_to : (runs : List Run) (i : ℕ) (d : Run) (skip left from count start x : ℕ) → i < length runs → from ≡ min skip (get_or runs i d).count
    → count ≡ min left ((get_or runs i d).count - from) → start ≡ min ((get_or runs i d).start + from) (2 ^ 64 - 1) → x < 2 ^ 31
    → StandsInJoin (drop i runs) skip left x → IsIn (run_of start count) x ⊎ StandsInJoin (drop (i + 1) runs) (skip - from) (left - count) x
turn_to runs i d skip left from count start x inside from_is count_is start_is small at =
    elim (stands_to (get_or runs i d) (drop (i + 1) runs) skip left from count x from_is count_is (at_drop runs i d skip left x inside at)) [
      | inl here ↦ inl (uncut ((get_or runs i d).start + from) start count x start_is small here)
      | inr there ↦ inr there
    ]

pub turn_back : (runs : List Run) (i : ℕ) (d : Run) (skip left from count start x : ℕ) → i < length runs → from ≡ min skip (get_or runs i d).count
    → count ≡ min left ((get_or runs i d).count - from) → start ≡ min ((get_or runs i d).start + from) (2 ^ 64 - 1) → x < 2 ^ 31
    → (IsIn (run_of start count) x ⊎ StandsInJoin (drop (i + 1) runs) (skip - from) (left - count) x) → StandsInJoin (drop i runs) skip left x
turn_back runs i d skip left from count start x inside from_is count_is start_is small e =
    let e' : IsIn (run_of ((get_or runs i d).start + from) count) x ⊎ StandsInJoin (drop (i + 1) runs) (skip - from) (left - count) x =
    elim e [ inl here ↦ inl (cut_back ((get_or runs i d).start + from) start count x start_is small here) | inr there ↦ inr there ] in
    drop_at runs i d skip left x inside (stands_back (get_or runs i d) (drop (i + 1) runs) skip left from count x from_is count_is e')

pub stands_not : (runs : List Run) (n first count x : ℕ) → length runs ≤ n → StandsInJoin (drop n runs) first count x → ⊥
stands_not runs n first count x all at = stands_nowhere first count x (subst (λ (rest : List Run). StandsInJoin rest first count x) (drop_all n runs all) at)
