use Rattle.xfs_alloc.proofs.judging.judge.Goals as goal

pub returns-clause-same : goal.returns-clause-same
returns-clause-same c = c.in_ok-same.ensures.yes c.if-not-same.false
