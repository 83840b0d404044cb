use Rattle.std.proofs.Common.{ℕ, ◌+◌, ◌-◌, ◌/◌, ◌<◌, ◌≤◌, subst, arith, false}
use Rattle.std.proofs.lemmas.Bool.{iff_false}
use Rattle.std.proofs.lemmas.List.{get_or_default}
use Rattle.std.proofs.lemmas.Nat.{div-add-mod'}
use Rattle.xfs_tree.specs.declared.extent.Extent.{Extent}
use Rattle.xfs_inode.proofs.Searches.{narrowed_up, narrowed_down}
use Rattle.xfs_inode.proofs.search.halve.Goals as goal

half_less : (low high : ℕ) → low < high → low + (high - low) / 2 < high
half_less low high h = omega (arith, h, div-add-mod' (high - low) 2)

abbrev none : Extent
none = record { unwritten = false; file = 0; block = 0; count = 0 }

behind_if : (a b : ℕ) → (b ≤ a → ⊥) → a < b
behind_if a b h = omega (arith, h)

pub returns-then-ends_by-clause-narrowed : goal.returns-then-ends_by-clause-narrowed
returns-then-ends_by-clause-narrowed c =
    let less = half_less c.args.low c.args.high c.requires.some in
    narrowed_up c.args.block c.args.extents.now c.args.low c.args.high _ c.requires.apart c.requires.narrowed less
    (λ d. subst (λ (x : Extent). x.file + x.count ≤ c.args.block) (get_or_default c.args.extents.now _ _ d (omega (arith, less, c.requires.narrowed.within))) (c.ends_by.ensures.0 c.if-ends_by.true))

pub returns-clause-narrowed : goal.returns-clause-narrowed
returns-clause-narrowed c =
    let less = half_less c.args.low c.args.high c.requires.some in
    let not_by = iff_false c.ends_by.ensures c.if-ends_by.false in
    let middle : ℕ = c.args.low + (c.args.high - c.args.low) / 2 in
    narrowed_down c.args.block c.args.extents.now c.args.low c.args.high middle c.requires.apart c.requires.narrowed (omega arith) less
    (λ d. subst (λ (x : Extent). c.args.block < x.file + x.count) (get_or_default c.args.extents.now middle none d (omega (arith, less, c.requires.narrowed.within))) (behind_if c.args.block _ not_by))
