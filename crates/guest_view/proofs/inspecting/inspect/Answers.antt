use Rattle.guest_view.proofs.Guests.{no_guest_is}
use Rattle.guest_view.proofs.inspecting.inspect.Goals as goal

pub returns-in-Err-clause-fault : goal.returns-in-Err-clause-fault
returns-in-Err-clause-fault g c = λ t.
    no_guest_is (g.B.Blocks.size c.args.disk.now) (g.B.Blocks.image c.args.disk.now) c.in_ok-table.table c.in-Err.fault c.in_ok-table.ensures.sound.few
    (c.in_ok-table.ensures.table t) c.in-Err.ensures.fault
