use Rattle.std.proofs.Common.{ℕ, ◌%◌, List, map, get_or, take, ap, ◌∙◌, arith}
use Rattle.std.proofs.lemmas.List.{map_push}
use Rattle.std.proofs.lemmas.Grind.{take_at_read}
use Rattle.xfs_alloc.proofs.Spaces.{group_more}
use Rattle.xfs_alloc.proofs.free.blocks_in_group.Goals as goal

pub loop-level-preserved : goal.loop-level-preserved
loop-level-preserved c =
    let i : ℕ = c.loop-level.level-index in
    let made = ap (λ l. map (λ v. v.items) l) c.in_ok-push.ensures.items ∙ map_push (λ v. v.items) c.loop-level.out.items c.in_ok-numbers_in_group.field-0 in
    let x = get_or c.args.levels.now i c.level-item.result in
    let next = ap (λ l. map (λ v. v.items) l) (take_at_read c.args.levels.now i c.level-item.result (omega arith)).1 ∙ map_push (λ v. v.items) (take i c.args.levels.now) x in
    group_more c.args.agblocks _ _ _ _ _ _ c.loop-level.invariant made next
    (c.in_ok-numbers_in_group.ensures ∙ ap (λ (l : List ℕ). map (λ n. n % c.args.agblocks) l) c.deref.ensures.value ∙ ap (λ v. map (λ n. n % c.args.agblocks) v.items) c.level-item.is)
