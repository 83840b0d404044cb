-- A call that is not recorded changes nothing that a stop leaves.
use Rattle.std.proofs.Common.{arith}
use Rattle.std.proofs.lemmas.List.{length-map}
use Rattle.disk_base.specs.Past.{event_of, events_of}
use Rattle.disk_base.proofs.Replaying.{unrecorded}
use Rattle.disk_base.proofs.memory.MemDisk.fail.Goals as goal

pub returns-clause-waits : goal.returns-clause-waits
returns-clause-waits c =
    let d = c.args.self.now in
    unrecorded d.first.items (events_of d.written.items d.history.items) d.calls _ (omega arith)
    (omega (arith, d.in_step, length-map d.history.items (event_of d.written.items)))
