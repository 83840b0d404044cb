use Rattle.free_sectors.proofs.Free.{ends_by, is_free}
use Rattle.free_sectors.proofs.freeing.free_runs.Goals as goal

pub returns-clause-inside : goal.returns-clause-inside
returns-clause-inside c =
    ends_by c.args.guest.now.sectors c.in_ok-free.free c.count.ensures.runs
    (λ x h. ((is_free c.args.guest.now c.args.choices.now c.in_ok-free.free _ _ c.in_ok-given.ensures c.in_ok-kept.ensures c.in_ok-free.ensures x).0 h).on_disk)
