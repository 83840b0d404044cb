-- By the record of the call, or where there is none.
use Rattle.std.proofs.Common.{◌≤◌, length, arith, ap}
use Rattle.std.proofs.lemmas.List.{length-map, get_or_past}
use Rattle.disk_base.specs.Past.{Idle, event_of, events_of, is_created}
use Rattle.disk_base.proofs.memory.none_created.Goals as goal

pub returns : goal.returns
returns c = λ written.
    let past : length (events_of written c.args.history.now) ≤ c.args.call = omega (arith, length-map c.args.history.now (event_of written)) in
    ap is_created (get_or_past (events_of written c.args.history.now) c.args.call Idle past)
