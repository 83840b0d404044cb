use Rattle.std.proofs.Common.{List, map, ap, ◌∙◌}
use Rattle.xfs_tree.specs.declared.free_run.ByStart.{ByStart}
use Rattle.xfs_alloc.proofs.free.Free.of.Goals as goal

pub returns-clause-runs : goal.returns-clause-runs
returns-clause-runs c = c.in_ok-runs.ensures ∙ ap (λ (l : List ByStart). map (λ r. (r.start, r.count)) l) c.items.ensures
