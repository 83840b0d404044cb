use Rattle.group_content.proofs.standing.group_with.Goals as goal

pub returns-in-Err-clause-fault : goal.returns-in-Err-clause-fault
returns-in-Err-clause-fault c = c.in-Err.ensures.fault c.args.partitions.now
