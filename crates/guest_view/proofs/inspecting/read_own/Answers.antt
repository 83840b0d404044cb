use Rattle.guest_view.proofs.Guests.{mbr_fault_is}
use Rattle.guest_view.proofs.inspecting.read_own.Goals as goal

pub returns-in-Ok-clause-table : goal.returns-in-Ok-clause-table
returns-in-Ok-clause-table g c = λ t. (c.requires.own t, c.in-Ok.ensures.table t)

pub returns-in-Err-clause-fault : goal.returns-in-Err-clause-fault
returns-in-Err-clause-fault g c = λ t. rw c.of_mbr.ensures (mbr_fault_is _ _ _ c.requires.few (c.requires.own t) (c.in-Err.ensures.fault t))
