-- Where layouts end: at one place alone, and further on the more sectors a part gets.
use Rattle.std.proofs.Common.{◌≡◌, ℕ, ◌+◌, ◌<◌, ◌≤◌, true, false, List, length, map, slice_index_or, sym, ◌∙◌, ap, subst, inl, inr, arith, Contains, IsPermutation, Some}
use Rattle.std.proofs.lemmas.Bool.{cases_eq}
use Rattle.std.proofs.lemmas.List.{get_or_default, get_or-map, length-map}
use Rattle.layout_plan.specs.declared.line.Piece.{Piece}
use Rattle.layout_plan.specs.declared.line.Spot.{Spot}
use Rattle.layout_plan.specs.declared.part.Kind.{Kind}
use Rattle.layout_plan.specs.declared.part.Part.{Part}
use Rattle.layout_plan.specs.declared.part.Role.{Role}
use Rattle.layout_plan.specs.declared.part.Role.TheVariants.{Slot, Extended, Logical}
use Rattle.layout_plan.specs.declared.wish.Layout.{Layout}
use Rattle.layout_plan.specs.declared.wish.Wish.{Wish}
use Rattle.layout_plan.specs.Faults.{AreAllowed}
use Rattle.layout_plan.specs.Layouts.{IsLayout, end_from, no_piece, piece_at, spot_at}
use Rattle.layout_plan.specs.Plans.{HasEnd, IsFitting, IsGreatest, IsLaid, IsTooMany, laid_piece}
use Rattle.layout_plan.specs.Roles.{is_extended_role}
use Rattle.layout_plan.specs.Source.{IsSource}
use Rattle.layout_plan.specs.Tables.{floor_of}
use Rattle.layout_plan.specs.Wishes.{flexible_part, is_flexible_wish, remaining, settled, wish_of}
use Rattle.layout_plan.proofs.Lines.{AtMost, last_end_none, last_rises}
use Rattle.layout_plan.proofs.Named.{flexible_is_plain, flexible_stays, found_passes, found_there}
use Rattle.layout_plan.proofs.Orders.{any_part, one_begin, one_order, some_part}
use Rattle.layout_plan.proofs.Settled.{remaining_stays, wanted_is, wanted_rises}
use Rattle.layout_plan.proofs.Standing.{by_last, is_laid, line, piece_is}

-- a search for the most sectors that fit: so many do, and so many are too many
pub record IsBetween (kind : Kind) (parts : List Part) (wishes : List Wish) (layout : Layout) (limit low high fitting too_many : ℕ) : Type 0 where
  pub fits : IsFitting kind parts wishes layout limit fitting
  pub many : IsTooMany kind parts wishes layout limit too_many
  pub from : low ≤ fitting
  pub order : fitting < too_many
  pub to : too_many ≤ high

length_plain : (role : Role) (count start : ℕ) → is_extended_role role ≡ false → count ≤ end_from role count start
length_plain Slot count start plain = omega arith
length_plain Extended count start plain = absurd (cc plain)
length_plain Logical count start plain = omega arith

module _ (kind : Kind) (parts : List Part) (wishes : List Wish) (layout : Layout) where
  -- the parts are laid out in one order, however long one of them is
  same_laid : (low high : ℕ) (laid other : List Part) (xs ys : List Spot) → IsLaid kind parts (settled low wishes) layout laid xs → IsLaid kind parts (settled high wishes) layout other ys → laid ≡ other
  same_laid low high laid other xs ys x y =
      let To : List Part → Type 0 = λ rest. IsPermutation rest laid in
      let From : List Part → Type 0 = λ rest. IsPermutation rest other in
      one_order parts (remaining wishes parts) laid other (subst To (remaining_stays low wishes parts) x.the_remaining) (subst From (remaining_stays high wishes parts) y.the_remaining)
      x.in_turn y.in_turn

  lengths_rise : (low high : ℕ) (laid : List Part) → low ≤ high → AtMost (map (laid_piece (settled low wishes)) laid) (map (laid_piece (settled high wishes)) laid)
  lengths_rise low high laid less =
      let long = length-map laid (laid_piece (settled low wishes)) in
      record {
        as_many = long ∙ sym (length-map laid (laid_piece (settled high wishes)));
        roles = λ k within.
            let inside : k < length laid = omega arith in
            let is_low = get_or-map (laid_piece (settled low wishes)) laid k any_part no_piece inside in
            let is_high = get_or-map (laid_piece (settled high wishes)) laid k any_part no_piece inside in
            ap (λ (piece : Piece). piece.role) is_low ∙ sym (ap (λ (piece : Piece). piece.role) is_high);
        counts = λ k within.
            let inside : k < length laid = omega arith in
            let is_low = ap (λ (piece : Piece). piece.count) (get_or-map (laid_piece (settled low wishes)) laid k any_part no_piece inside) in
            let is_high = ap (λ (piece : Piece). piece.count) (get_or-map (laid_piece (settled high wishes)) laid k any_part no_piece inside) in
            omega (arith, is_low, is_high, wanted_rises low high wishes (slice_index_or laid k any_part) less);
      }

  -- the more sectors, the later the end
  pub end_rises : (low high a b : ℕ) → HasEnd kind parts wishes layout low a → HasEnd kind parts wishes layout high b → low ≤ high → a ≤ b
  end_rises low high a b x y less =
      let Laid : List Part → Type 0 = λ laid. IsLaid kind parts (settled high wishes) layout laid y.spots in
      let same = sym (same_laid low high x.laid y.laid x.spots y.spots x.order y.order) in
      let order = subst Laid same y.order in
      let lows = map (laid_piece (settled low wishes)) x.laid in
      let highs = map (laid_piece (settled high wishes)) x.laid in
      let long_low : length x.spots ≡ length x.laid = x.order.stand.as_many ∙ length-map x.laid (laid_piece (settled low wishes)) in
      let long_high : length y.spots ≡ length x.laid = order.stand.as_many ∙ length-map x.laid (laid_piece (settled high wishes)) in
      elim (cases_eq (length x.laid) 0) [
        | inl none ↦ omega (arith, x.is_last, y.is_last, last_end_none (floor_of kind) x.spots (long_low ∙ none), last_end_none (floor_of kind) y.spots (long_high ∙ none))
        | inr some ↦
            let begin : x.order.begin ≡ order.begin =
            one_begin kind layout parts x.order.begin order.begin (some_part kind parts (settled low wishes) layout x.laid x.order.the_remaining some) x.order.begins order.begins in
            let At : ℕ → Type 0 = λ begin. IsLayout layout.align begin lows x.spots in
            let rise = last_rises (floor_of kind) layout.align order.begin lows highs x.spots y.spots (lengths_rise low high x.laid less) (subst At begin x.order.stand) order.stand in
            omega (arith, x.is_last, y.is_last, rise)
      ]

  -- and so there is one end
  pub one_end : (sectors a b : ℕ) → HasEnd kind parts wishes layout sectors a → HasEnd kind parts wishes layout sectors b → a ≡ b
  one_end sectors a b x y = omega (arith, end_rises sectors sectors a b x y (omega arith), end_rises sectors sectors b a y x (omega arith))

  -- the part that takes or gives up is laid out with its sectors
  pub flexible_ends : IsSource kind parts → AreAllowed parts wishes → (sectors last : ℕ) (part : Part) → flexible_part wishes parts ≡ Some part → HasEnd kind parts wishes layout sectors last → sectors ≤ last
  flexible_ends source fine sectors last part is x =
      let test = λ (one : Part). is_flexible_wish (wish_of wishes one.number) in
      let flexible : is_flexible_wish (wish_of wishes part.number) ≡ true = found_passes test parts part is in
      let there : Contains parts part = found_there test parts part is in
      let plain = flexible_is_plain parts wishes fine part there flexible in
      let stands = is_laid kind parts source wishes fine layout sectors x.laid x.spots x.order part (flexible_stays parts wishes part fine there flexible) in
      let place = stands.0 in
      let within : place < length x.laid = stands.1 in
      let is_part : slice_index_or x.laid place any_part ≡ part = get_or_default x.laid place any_part part within ∙ stands.2 in
      let piece = piece_at (map (laid_piece (settled sectors wishes)) x.laid) place in
      let is_piece : piece ≡ laid_piece (settled sectors wishes) part =
      piece_is kind parts source wishes fine layout sectors x.laid x.spots x.order place within ∙ ap (laid_piece (settled sectors wishes)) is_part in
      let role : is_extended_role piece.role ≡ false = ap (λ (one : Piece). is_extended_role one.role) is_piece ∙ plain in
      let count : piece.count ≡ sectors = ap (λ (one : Piece). one.count) is_piece ∙ wanted_is sectors wishes part flexible in
      let past = (line kind parts source wishes fine layout sectors x.laid x.spots x.order place within).past in
      let by = by_last kind parts source wishes fine layout sectors x.laid x.spots x.order place within in
      omega (arith, x.is_last, by, count, past.ends, length_plain piece.role piece.count (spot_at x.spots place).start role)

  -- so with too many of them the layout ends behind the limit
  pub too_many_is : IsSource kind parts → AreAllowed parts wishes → (limit sectors last : ℕ) (part : Part) → flexible_part wishes parts ≡ Some part → HasEnd kind parts wishes layout sectors last → limit < sectors
      → IsTooMany kind parts wishes layout limit sectors
  too_many_is source fine limit sectors last part is x many = record { last = last; is_last = x; too_long = omega (arith, flexible_ends source fine sectors last part is x) }

  -- those next to too many are the most that fit
  pub greatest_is : (limit sectors more : ℕ) → IsFitting kind parts wishes layout limit sectors → IsTooMany kind parts wishes layout limit more → more ≤ sectors + 1
      → IsGreatest kind parts wishes layout limit sectors
  greatest_is limit sectors more x y next = record {
    fitting = x;
    no_more = λ later last above z. omega (arith, y.too_long, end_rises more later y.last last y.is_last z (omega arith));
  }
