use Rattle.std.proofs.Common.{◌≡◌, ℕ, ◌<◌, ◌≤◌, false, slice_index_or, length, inl, inr, arith}
use Rattle.std.proofs.lemmas.Bool.{both_ways}
use Rattle.std.proofs.lemmas.List.Folds.{list_any_none}
use Rattle.layout_plan.specs.declared.part.Part.{Part}
use Rattle.layout_plan.specs.Roles.{is_logical}
use Rattle.layout_plan.proofs.places.logical_end.Goals as goal

pub returns : goal.returns
returns c =
    let laid = c.args.laid.now in
    let n = c.loop-place.place in
    let to : n ≤ length laid = c.loop-place.auto.place-end in
    let all : length laid ≤ n = c.loop-place-test.false in
    elim c.loop-place.invariant [
      | inl none ↦
          let no : (k : ℕ) (d : Part) → k < length laid → is_logical (slice_index_or laid k d).role ≡ false = λ k d within. none k d (omega arith) in
          absurd (both_ways _ (list_any_none (λ (one : Part). is_logical one.role) laid no) c.requires.some)
      | inr one ↦ record {
        place = one.place;
        within = omega (arith, one.within);
        logical = one.logical;
        no_later = λ k d later within. one.no_later k d later (omega arith);
        there = one.there;
      }
    ]
