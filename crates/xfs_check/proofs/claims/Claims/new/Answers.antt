use Rattle.std.proofs.Common.{◌≡◌, ℕ, ap, ◌∙◌, subst, sym, false, arith, List, [], ◌∷◌, ◌++◌, replicate}
use Rattle.std.proofs.lemmas.List.FromFn.{map-range_with_len_more}
use Rattle.std.specs.Prelude.{Bool}
use Rattle.xfs_check.proofs.Marking.{all_admitted, all_marks, group_marks, none_marked}
use Rattle.xfs_check.specs.inside.Claiming.{admitted_in, claimed_in}
use Rattle.xfs_super.specs.Super.{geometry_of}
use Rattle.xfs_tree.specs.Marks.{AdmitsVolume}
use Rattle.xfs_check.proofs.claims.Claims.new.Goals as goal

pub returns-clause-none : goal.returns-clause-none
returns-clause-none c = λ g b. ap (λ (l : List (List Bool)). claimed_in l g b) c.loop-group.invariant.are ∙ none_marked (geometry_of c.args.geo.now) c.loop-group.group g b

pub returns-clause-admits : goal.returns-clause-admits
returns-clause-admits c =
    let geo = c.args.geo.now in
    let last : c.loop-group.group ≡ geo.agcount = omega (arith, c.loop-group-test.false, c.loop-group.invariant.within) in
    let are : c.loop-group.groups.items ≡ all_marks (geometry_of geo) geo.agcount = c.loop-group.invariant.are ∙ ap (λ (n : ℕ). all_marks (geometry_of geo) n) last in
    subst (λ (l : List (List Bool)). AdmitsVolume geo (admitted_in l)) (sym are) (λ n inside. all_admitted (geometry_of geo) n geo.groups inside)

pub loop-group-preserved : goal.loop-group-preserved
loop-group-preserved c = record {
  are =
      c.in_ok-push.ensures.items ∙ ap (λ (l : List (List Bool)). l ++ c.in_ok-new.field-0 ∷ []) c.loop-group.invariant.are
      ∙ ap (λ (m : List Bool). all_marks (geometry_of c.args.geo.now) c.loop-group.group ++ m ∷ []) (c.in_ok-new.ensures ∙ ap (λ (n : ℕ). replicate n false) (c.from.ensures ∙ c.group_len.ensures))
      ∙ sym (map-range_with_len_more (group_marks (geometry_of c.args.geo.now)) 0 c.loop-group.group c.loop-group.group (omega arith));
  within = omega (arith, c.loop-group-test.true);
}
