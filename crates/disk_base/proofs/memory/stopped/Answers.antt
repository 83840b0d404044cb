-- The parts of the record, as they are replayed.
use Rattle.std.proofs.Common.{arith}
use Rattle.disk_base.proofs.Stoppings.{front_inside, back_inside, back_created, is_stopped, is_left}
use Rattle.disk_base.proofs.memory.stopped.Goals as goal

pub replay_all-requires-clause-inside : goal.replay_all-requires-clause-inside
replay_all-requires-clause-inside c =
    front_inside c.args.first.now c.args.written.now c.args.history.now c.args.call c.lasting-lasting.result c.min-before.result c.min-end.result (omega arith) (omega arith)
    (c.lasting-lasting.ensures.lasting c.args.written.now) c.requires.inside

pub replay_first-requires-clause-inside : goal.replay_first-requires-clause-inside
replay_first-requires-clause-inside c =
    back_inside c.args.first.now c.args.written.now c.args.history.now c.args.call c.lasting-lasting.result c.min-before.result c.min-end.result (omega arith) (omega arith)
    (c.lasting-lasting.ensures.lasting c.args.written.now) c.requires.inside c.in_ok-image.image.items c.in_ok-image.ensures

pub replay_first-requires-clause-none_created : goal.replay_first-requires-clause-none_created
replay_first-requires-clause-none_created c =
    back_created c.args.first.now c.args.written.now c.args.history.now c.args.call c.lasting-lasting.result c.min-before.result c.min-end.result (omega arith) (omega arith)
    (c.lasting-lasting.ensures.lasting c.args.written.now) c.requires.inside c.in_ok-image.image.items c.in_ok-image.ensures c.requires.not_created

pub returns-clause-left : goal.returns-clause-left
returns-clause-left c =
    is_left c.args.first.now c.args.written.now c.args.history.now c.args.call c.lasting-lasting.result c.min-before.result c.min-end.result (omega arith) (omega arith)
    (c.lasting-lasting.ensures.lasting c.args.written.now) c.requires.inside c.in_ok-image.image.items c.in_ok-image.ensures c.args.keep c.args.byte c.replay_first.new.image.items c.replay_first.ensures

pub returns-clause-stopped : goal.returns-clause-stopped
returns-clause-stopped c =
    is_stopped c.args.first.now c.args.written.now c.args.history.now c.args.call c.lasting-lasting.result c.min-before.result c.min-end.result (omega arith) (omega arith)
    (c.lasting-lasting.ensures.lasting c.args.written.now) c.requires.inside c.in_ok-image.image.items c.in_ok-image.ensures c.args.keep c.args.byte c.replay_first.new.image.items c.replay_first.ensures
