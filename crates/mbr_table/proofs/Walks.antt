-- One record more of a chain that is read, and why there is none.
use Rattle.std.proofs.Common.{◌≡◌, ℕ, suc, ◌+◌, ◌≤◌, inl, inr, true, false, cond, Option, None, Some, List, [], ◌∷◌, ◌++◌, length, slice_index, Contains, All, refl, sym, ap, ◌∙◌, subst, arith}
use Rattle.std.specs.List.{cons_option}
use Rattle.std.proofs.lemmas.List.{length_push, length-append, get_or_at}
use Rattle.std.proofs.lemmas.List.Elements.{All-nil, All-cons, All-append, All-same}
use Rattle.disk_base.specs.Image.{sector}
use Rattle.mbr_table.specs.declared.slot.Slot.{Slot}
use Rattle.mbr_table.specs.declared.slot.Logical.{Logical}
use Rattle.mbr_table.specs.declared.fault.MbrFault.{MbrFault}
use Rattle.mbr_table.specs.declared.fault.MbrFault.TheVariants.{NoSignature, Entry, Chain, TooMany, Device, Memory}
use Rattle.mbr_table.specs.declared.chain.Record.{Record}
use Rattle.mbr_table.specs.declared.chain.Walk.{Walk}
use Rattle.mbr_table.specs.Slot.{is_used}
use Rattle.mbr_table.specs.Chain.{own_of, own_logical, logical_of, next_of, due_at, logicals_at, IsGoodRecord, IsBeginning, LeadsTo, IsLogicalIn, ComesToBad, AreChained}
use Rattle.mbr_table.specs.inside.Walk.{IsNew, IsPlaceFault, IsFound, IsRecordFault, IsWalk, IsWalkTo, IsWalkWithin, IsChainFault}
use Rattle.mbr_table.proofs.Chains.{one_more, logicals_more}

-- a walk leads to the place that is due
pub leads_to : (image : List ℕ) (extended : Slot) (walk : Walk) (at : ℕ) → IsWalkTo image extended walk at → LeadsTo image extended walk.places.items at
leads_to image extended walk at is = record { begins = is.so_far.begins; due = sym is.so_far.due ∙ is.next }

-- one record more
pub walk_more : (image : List ℕ) (extended : Slot) (old new : Walk) (at place : ℕ) (bytes : List ℕ) (found : Record) → place ≡ at
    → IsWalkTo image extended old at → IsNew extended old.places.items at → bytes ≡ sector image place → IsFound extended place bytes found
    → new.places.items ≡ old.places.items ++ place ∷ [] → new.logicals.items ≡ old.logicals.items ++ cons_option found.logical []
    → new.next ≡ found.next → IsWalk image extended new
walk_more image extended old new at place bytes found place-is so_far is_new bytes-are says places-are logicals-are next-is =
    let places : List ℕ = old.places.items in
    let more : new.places.items ≡ places ++ at ∷ [] = places-are ∙ ap (λ (p : ℕ). places ++ p ∷ []) place-is in
    let bytes-at : bytes ≡ sector image at = bytes-are ∙ ap (sector image) place-is in
    let good : IsGoodRecord extended at (sector image at) =
    subst (λ (b : List ℕ). IsGoodRecord extended at b) bytes-at (subst (λ (p : ℕ). IsGoodRecord extended p bytes) place-is says.good) in
    let logical-is : found.logical ≡ logical_of at (sector image at) =
    says.logical ∙ ap (λ (p : ℕ). logical_of p bytes) place-is ∙ ap (logical_of at) bytes-at in
    let long : length (places ++ at ∷ []) ≡ suc (length places) = length_push places at ∙ omega arith in
    let last : slice_index (places ++ at ∷ []) (length places) ≡ at = get_or_at places at [] 0 (length places) refl in
    let begins : IsBeginning image extended (places ++ at ∷ []) =
    one_more image extended places at (leads_to image extended old at so_far) is_new.few is_new.new good in
    record {
      begins = subst (IsBeginning image extended) (sym more) begins;
      logicals =
          logicals-are ∙ ap (λ (l : List Logical). l ++ cons_option found.logical []) so_far.so_far.logicals
          ∙ ap (λ (o : Option Logical). logicals_at image places ++ cons_option o []) logical-is
          ∙ sym (logicals_more image places at) ∙ ap (logicals_at image) (sym more);
      due =
          next-is ∙ says.next ∙ ap (next_of extended.start) bytes-at ∙ ap (λ (p : ℕ). next_of extended.start (sector image p)) (sym last)
          ∙ ap (due_at image extended (places ++ at ∷ [])) (sym long) ∙ ap (λ (p : List ℕ). due_at image extended p (length p)) (sym more);
    }

-- the logical partition of a good record, if it has one, lies where it may
record AreFew (extended : Slot) (logicals : List Logical) : Type 0 where
  one : length logicals ≤ 1
  each : All (IsLogicalIn extended) logicals

good_logical : (extended : Slot) (at : ℕ) (bytes : List ℕ) → IsGoodRecord extended at bytes → AreFew extended (cons_option (logical_of at bytes) [])
unfolding own_logical
good_logical extended at bytes good =
    let own : Slot = own_of bytes in
    let logical : Logical = record { ebr = at; slot = record own { start = at + own.start } } in
    elim (is_used own) as (λ u. (is_used own ≡ u) → AreFew extended (cons_option (cond u (Some logical) None) [])) [
      | true ↦ λ used. let lies = good.own used in record {
        one = omega arith;
        each = All-cons (IsLogicalIn extended) logical [] (record {
          used = used;
          record_inside = good.inside.0;
          behind_record = omega (arith, lies.behind);
          ends_inside = omega (arith, lies.inside);
        }) (All-nil (IsLogicalIn extended));
      }
      | false ↦ λ unused. record { one = omega arith; each = All-nil (IsLogicalIn extended) }
    ] refl

pub within_more : (extended : Slot) (old new : Walk) (at place : ℕ) (bytes : List ℕ) (found : Record)
    → IsWalkWithin extended old → IsNew extended old.places.items at → IsFound extended place bytes found
    → new.places.items ≡ old.places.items ++ place ∷ [] → new.logicals.items ≡ old.logicals.items ++ cons_option found.logical []
    → IsWalkWithin extended new
within_more extended old new at place bytes found within is_new says places-are logicals-are =
    let one : AreFew extended (cons_option found.logical []) =
    subst (λ (o : Option Logical). AreFew extended (cons_option o [])) (sym says.logical) (good_logical extended place bytes says.good) in
    let long : length new.places.items ≡ length old.places.items + 1 = ap length places-are ∙ length_push old.places.items place in
    let more : length new.logicals.items ≡ length old.logicals.items + length (cons_option found.logical []) =
    ap length logicals-are ∙ length-append old.logicals.items (cons_option found.logical []) in
    record {
      few = omega (arith, is_new.few);
      counted = omega (arith, one.one, within.counted);
      each = All-same (IsLogicalIn extended) _ _ logicals-are (All-append (IsLogicalIn extended) _ _ within.each one.each);
    }

-- why no record may be read from the place that is due, or why it is bad
pub place_fault : (image : List ℕ) (extended : Slot) (walk : Walk) (at : ℕ) (fault : MbrFault) → IsWalkTo image extended walk at
    → IsPlaceFault extended walk.places.items at fault → IsChainFault image extended fault
place_fault image extended walk at NoSignature is why = absurd why
place_fault image extended walk at (Entry number) is why = absurd why
place_fault image extended walk at (Chain place) is why =
    let leads : LeadsTo image extended walk.places.items place =
    subst (LeadsTo image extended walk.places.items) (sym why.0) (leads_to image extended walk at is) in
    elim why.1 [
      | inl outside ↦ (walk.places.items, leads, inl (λ inside. outside (rw why.0 at inside)))
      | inr came ↦ (walk.places.items, leads, inr (inl (subst (Contains walk.places.items) (sym why.0) came)))
    ]
place_fault image extended walk at (TooMany place) is why = (
  walk.places.items,
  subst (LeadsTo image extended walk.places.items) (sym why.0) (leads_to image extended walk at is),
  rw why.0 why.1,
)
place_fault image extended walk at Device is why = absurd why
place_fault image extended walk at Memory is why = absurd why

pub record_fault : (image : List ℕ) (extended : Slot) (walk : Walk) (at place : ℕ) (fault : MbrFault) → place ≡ at
    → IsWalkTo image extended walk at → IsNew extended walk.places.items at → IsRecordFault image extended place fault
    → IsChainFault image extended fault
record_fault image extended walk at place NoSignature place-is is is_new why = absurd why
record_fault image extended walk at place (Entry number) place-is is is_new why = absurd why
record_fault image extended walk at place (Chain bad) place-is is is_new why =
    let leads : LeadsTo image extended walk.places.items place =
    subst (LeadsTo image extended walk.places.items) (sym place-is) (leads_to image extended walk at is) in
    let comes : ComesToBad image extended place = (walk.places.items, leads, inr (inr (is_new.few, why.1))) in
    subst (ComesToBad image extended) (sym why.0) comes
record_fault image extended walk at place (TooMany bad) place-is is is_new why = absurd why
record_fault image extended walk at place Device place-is is is_new why = tt
record_fault image extended walk at place Memory place-is is is_new why = tt

-- a walk after which nothing is due is the chain
pub walk_ends : (image : List ℕ) (extended : Slot) (walk : Walk) → IsWalk image extended walk → walk.next ≡ None
    → AreChained image extended walk.logicals.items
walk_ends image extended walk is none = record {
  places = walk.places.items;
  chain = record { begins = is.begins; ends = sym is.due ∙ none };
  logicals_are = is.logicals;
}
