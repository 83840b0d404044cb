use Rattle.std.proofs.Common.{◌<◌, ltb, rules, length, All, sym}
use Rattle.std.proofs.lemmas.List.{take_all}
use Rattle.std.proofs.lemmas.List.Sorted.{IsPartitionPoint-from_clause, IsPartitionedBy-ltb}
use Rattle.run_set.specs.Runs.{past_of}
use Rattle.run_set.proofs.Rising.{ends_rise, last_ends_below, last_starts_by, all_below_place, all_past_place}
use Rattle.run_set.proofs.run.place.Goals as goal

pub returns-then-ends_below-clause-below : goal.returns-then-ends_below-clause-below
returns-then-ends_below-clause-below c =
    rw (take_all (length c.args.runs.now) c.args.runs.now (omega Rattle.std.proofs.Common.arith))
    (last_ends_below c.args.runs.now c.in-Some.last.now c.args.number c.requires (sym c.in-Some.ensures.value) (search rules))

pub returns-clause-below : goal.returns-clause-below
returns-clause-below c =
    let parted = IsPartitionedBy-ltb past_of c.args.runs.now c.args.number (ends_rise c.args.runs.now c.requires) in
    let point = IsPartitionPoint-from_clause (λ run. ltb (past_of run) c.args.number) _ _ c.partition_point.ensures.partitioned parted (λ a r q k. search rules) in
    all_below_place c.args.runs.now c.args.number c.partition_point.result c.partition_point.ensures.bound point.0

pub returns-clause-rest : goal.returns-clause-rest
returns-clause-rest c =
    let parted = IsPartitionedBy-ltb past_of c.args.runs.now c.args.number (ends_rise c.args.runs.now c.requires) in
    let point = IsPartitionPoint-from_clause (λ run. ltb (past_of run) c.args.number) _ _ c.partition_point.ensures.partitioned parted (λ a r q k. search rules) in
    all_past_place c.args.runs.now c.args.number c.partition_point.result point.1

pub returns-then-last-number-clause-below : goal.returns-then-last-number-clause-below
returns-then-last-number-clause-below c =
    last_starts_by c.args.runs.now c.in-Some.last.now c.args.number c.requires (sym c.in-Some.ensures.value) c.if-last-number.true
