use Rattle.std.proofs.Common.{◌≡◌, ℕ, map, List, sym, subst, ◌∙◌}
use Rattle.std.specs.List.Sorted.{IsPermutation}
use Rattle.disk_base.specs.Memory.{true_is_not_false}
use Rattle.xfs_alloc.proofs.Runs.{same_if_equal, equal_if_same}
use Rattle.xfs_alloc.proofs.judging.hold_same.Goals as goal

pub returns-clause-yes : goal.returns-clause-yes
returns-clause-yes c =
    λ yes.
    let sorted : List (ℕ × ℕ) = c.sort_unstable.new.self.items in
    let moved = subst (λ (l : List (ℕ × ℕ)). IsPermutation l sorted) c.in_ok-pairs.ensures c.sort_unstable.ensures.permutation in
    same_if_equal c.args.starts.now c.args.counts.now sorted moved (sym c.deref.ensures.value ∙ c.are_equal.ensures.0 yes ∙ c.deref-2.ensures.value ∙ c.in_ok-others.ensures)

pub returns-clause-no : goal.returns-clause-no
returns-clause-no c =
    λ no same.
    let sorted : List (ℕ × ℕ) = c.sort_unstable.new.self.items in
    let moved = subst (λ (l : List (ℕ × ℕ)). IsPermutation l sorted) c.in_ok-pairs.ensures c.sort_unstable.ensures.permutation in
    let is : sorted ≡ map (λ r. (r.count, r.start)) c.args.counts.now =
    equal_if_same c.args.starts.now c.args.counts.now sorted moved c.sort_unstable.ensures.sorted c.requires.fits_starts c.requires.fits_counts c.requires.order same in
    true_is_not_false (sym (c.are_equal.ensures.1 (c.deref.ensures.value ∙ is ∙ sym c.in_ok-others.ensures ∙ sym c.deref-2.ensures.value)) ∙ no)
