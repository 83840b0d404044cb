-- The parts that remain: few, of a valid table, and in their order.
use Rattle.std.proofs.Common.{ℕ, zero, suc, ◌<◌, ◌≤◌, ◌^◌, not, List, [], ◌∷◌, length, slice_index_or, inl, inr, arith, All, AllPairs, IsPermutation}
use Rattle.std.proofs.lemmas.Bool.{cases_lt}
use Rattle.std.proofs.lemmas.List.Elements.{All-filter}
use Rattle.std.proofs.lemmas.List.Kept.{AllPairs-filter}
use Rattle.std.proofs.lemmas.List.Sorted.{All-permutation, length_permutation}
use Rattle.std.proofs.lemmas.List.Sums.{length-filter, count_by-le-length}
use Rattle.layout_plan.specs.declared.part.Kind.{Kind}
use Rattle.layout_plan.specs.declared.part.Kind.TheVariants.{Mbr, Gpt}
use Rattle.layout_plan.specs.declared.part.Part.{Part}
use Rattle.layout_plan.specs.declared.part.Role.{Role}
use Rattle.layout_plan.specs.declared.part.Role.TheVariants.{Slot, Extended, Logical}
use Rattle.layout_plan.specs.declared.wish.Wish.{Wish}
use Rattle.layout_plan.specs.Source.{IsPart, IsSource}
use Rattle.layout_plan.specs.Tables.{first_number, last_number}
use Rattle.layout_plan.specs.Wishes.{is_gone, remaining}
use Rattle.layout_plan.proofs.Turns.{ByNumber}

few_numbers : (kind : Kind) (role : Role) → last_number kind role ≤ 128
few_numbers Mbr Slot = omega arith
few_numbers Mbr Extended = omega arith
few_numbers Mbr Logical = omega arith
few_numbers Gpt Slot = omega arith
few_numbers Gpt Extended = omega arith
few_numbers Gpt Logical = omega arith

some_number : (role : Role) → 1 ≤ first_number role
some_number Slot = omega arith
some_number Extended = omega arith
some_number Logical = omega arith

pub number_some : (kind : Kind) (part : Part) → IsPart kind part → 1 ≤ part.number
number_some kind part is = omega (arith, some_number part.role, is.numbered.from_first)

pub number_few : (kind : Kind) (part : Part) → IsPart kind part → part.number ≤ 128
number_few kind part is = omega (arith, few_numbers kind part.role, is.numbered.to_last)

-- numbers that rise from 1 on are higher than their places
numbers_rise : (kind : Kind) (parts : List Part) (d : Part) → All (IsPart kind) parts → ByNumber parts → (k : ℕ) → k < length parts → k < (slice_index_or parts k d).number
numbers_rise kind parts d each rising zero within = omega (arith, number_some kind (slice_index_or parts 0 d) (each 0 d within))
numbers_rise kind parts d each rising (suc k) within =
    let before : k < (slice_index_or parts k d).number = numbers_rise kind parts d each rising k (omega arith) in
    let less : (slice_index_or parts k d).number < (slice_index_or parts (suc k) d).number = rising k (suc k) d (omega arith) within in
    omega arith

few : (kind : Kind) (parts : List Part) → All (IsPart kind) parts → ByNumber parts → length parts ≤ 128
few kind [] each rising = omega arith
few kind (part ∷ parts) each rising =
    let all = part ∷ parts in
    elim (cases_lt 128 (length all)) [
      | inl many ↦
          let high : 128 < (slice_index_or all 128 part).number = numbers_rise kind all part each rising 128 many in
          let low : (slice_index_or all 128 part).number ≤ 128 = number_few kind (slice_index_or all 128 part) (each 128 part many) in
          absurd (omega arith)
      | inr fine ↦ fine
    ]

pub few_parts : (kind : Kind) (parts : List Part) → IsSource kind parts → length parts ≤ 128
few_parts kind parts source = few kind parts source.each source.by_number

pub no_more_remain : (wishes : List Wish) (parts : List Part) → length (remaining wishes parts) ≤ length parts
no_more_remain wishes parts =
    let made = λ (part : Part). not (is_gone wishes parts part) in
    omega (arith, length-filter made parts, count_by-le-length made parts)

pub keeps_all : (P : Part → Type 0) (wishes : List Wish) (parts : List Part) → All P parts → All P (remaining wishes parts)
keeps_all P wishes parts all = All-filter (λ (part : Part). not (is_gone wishes parts part)) P parts all

pub keeps_pairs : (R : Part → Part → Type 0) (wishes : List Wish) (parts : List Part) → AllPairs R parts → AllPairs R (remaining wishes parts)
keeps_pairs R wishes parts pairs = AllPairs-filter R (λ (part : Part). not (is_gone wishes parts part)) parts pairs

pub small_part : (kind : Kind) (part : Part) → IsPart kind part → part.count ≤ 2 ^ 31
small_part kind part is = omega (arith, is.named)

-- the parts that are laid out are parts of the table, and few
pub laid_parts : (kind : Kind) (wishes : List Wish) (parts laid : List Part) → IsSource kind parts → IsPermutation (remaining wishes parts) laid → All (IsPart kind) laid
laid_parts kind wishes parts laid source same = All-permutation (IsPart kind) (remaining wishes parts) laid same (keeps_all (IsPart kind) wishes parts source.each)

pub few_laid : (kind : Kind) (wishes : List Wish) (parts laid : List Part) → IsSource kind parts → IsPermutation (remaining wishes parts) laid → length laid ≤ 128
few_laid kind wishes parts laid source same = omega (arith, length_permutation (remaining wishes parts) laid same, no_more_remain wishes parts, few_parts kind parts source)
