use Rattle.std.proofs.Common.{◌≡◌, ℕ, ◌+◌, false, List, [], ◌∷◌, ◌++◌, map, IsTrue, refl, sym, ap, subst, ◌∙◌, arith, append_assoc}
use Rattle.std.specs.List.{All, range_with_len}
use Rattle.std.proofs.lemmas.List.{map_push}
use Rattle.std.proofs.lemmas.List.Elements.{All-push}
use Rattle.std.proofs.lemmas.List.FromFn.{map-range_with_len_more}
use Rattle.xfs_super.specs.Super.{geometry_of}
use Rattle.xfs_tree.specs.inside.Rows.{setting_of_row}
use Rattle.xfs_tree.specs.Form.{Setting}
use Rattle.xfs_tree.specs.Block.{pointer_at, leads_to, points_inside}
use Rattle.xfs_tree.proofs.Blocks.{pointer_outside}
use Rattle.xfs_tree.proofs.taking.push_children.Goals as goal

pub returns-in-None-clause-fault : goal.returns-in-None-clause-fault
returns-in-None-clause-fault g c =
    λ claimed.
    let t : Setting g.row.R.Denot = setting_of_row g.R.Record.form c.args.row.now in
    let out : points_inside t (geometry_of c.args.row.now.geo) (pointer_at g.R.Record.form c.args.bytes.now c.loop-i.i) ≡ false = ap (λ (p : ℕ). points_inside t (geometry_of c.args.row.now.geo) p) (sym c.pointer_in.ensures) ∙ c.in-None.ensures.outside refl in
    ((c.place_of-place.ensures.group, c.place_of-place.ensures.block), pointer_outside t (geometry_of c.args.row.now.geo) c.args.row.now.height c.args.row.now.least c.args.at c.args.bytes.now c.loop-i.i c.requires.node (omega arith) out)

pub loop-i-preserved : goal.loop-i-preserved
loop-i-preserved g c =
    let t : Setting g.row.R.Denot = setting_of_row g.R.Record.form c.args.row.now in
    let f : ℕ → ℕ = pointer_at g.R.Record.form c.args.bytes.now in
    let so_far : List ℕ = map f (range_with_len 0 c.loop-i.i) in
    let p : ℕ = c.pointer_in.result in
    let step : so_far ++ p ∷ [] ≡ map f (range_with_len 0 (c.loop-i.i + 1)) = ap (λ (n : ℕ). so_far ++ n ∷ []) c.pointer_in.ensures ∙ sym (map-range_with_len_more f 0 c.loop-i.i c.loop-i.i (omega arith)) in
    record {
      children = c.in_ok-push-in-Some.ensures.items ∙ ap (λ l. l ++ c.in-Some.child ∷ []) c.loop-i.invariant.children ∙ append_assoc c.args.below.now.items (map (leads_to t) so_far) (c.in-Some.child ∷ [])
          ∙ ap (λ l. c.args.below.now.items ++ l) (ap (λ (n : ℕ). map (leads_to t) so_far ++ n ∷ []) c.in-Some.ensures.number ∙ sym (map_push (leads_to t) so_far p) ∙ ap (map (leads_to t)) step);
      inside = subst (λ l. All (λ q. IsTrue (points_inside t (geometry_of c.args.row.now.geo) q)) l) step (All-push (λ q. IsTrue (points_inside t (geometry_of c.args.row.now.geo) q)) so_far p c.loop-i.invariant.inside c.in-Some.ensures.inside);
    }
