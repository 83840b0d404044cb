-- One more write: what it put goes to the invariant by `piece_more`.
use Rattle.std.proofs.Common.{◌+◌, IsTrue, arith, refl, subst, sym}
use Rattle.disk_base.specs.Devices.{SameAsks}
use Rattle.disk_base.specs.Log.{Log}
use Rattle.disk_base.proofs.Moments.{follows_on, follows_weaker}
use Rattle.disk_base.proofs.Uses.{used_on}
use Rattle.target_work.specs.inside.Phases.{ArePut, OnlyInWrites}
use Rattle.target_work.proofs.Putting.{only_in_writes_on, piece_more, piece_within, put_within}
use Rattle.target_work.proofs.carrying.put_all.Goals as goal

pub returns-in_err-write-clause-within : goal.returns-in_err-write-clause-within
returns-in_err-write-clause-within g c = λ t.
    only_in_writes_on c.args.writes.now _ _ _ (c.loop-piece.invariant.within t)
    (piece_within c.args.writes.now c.loop-piece.piece-index c.piece-item.result c.bytes.result.now _ c.piece-item.is c.bytes.ensures c.requires.places (omega arith)
    _ _ (c.in_err-write.ensures.half t).outside)

pub returns-in_err-write-clause-stops : goal.returns-in_err-write-clause-stops
returns-in_err-write-clause-stops g c = λ t.
    follows_on _ _ _ _ _ (OnlyInWrites c.args.writes.now) (only_in_writes_on c.args.writes.now)
    (g.met.T.Disk.stops_are c.args.target.now t) (g.met.T.Disk.stops_are c.loop-piece.target t) (c.loop-piece.invariant.may_leave t)
    (follows_weaker _ _ _ (OnlyInWrites c.args.writes.now)
    (λ x y half. piece_within c.args.writes.now c.loop-piece.piece-index c.piece-item.result c.bytes.result.now _ c.piece-item.is c.bytes.ensures c.requires.places (omega arith) x y half.outside)
    (c.in_err-write.ensures.stops t))

pub loop-piece-preserved : goal.loop-piece-preserved
loop-piece-preserved g c =
    let before = c.loop-piece.invariant in
    let now = c.in_ok-write.ensures in
    let writes = c.args.writes.now in
    let index = c.loop-piece.piece-index in
    let put : IsTrue g.T.Blocks.tells → ArePut writes (index + 1) (g.T.Blocks.image c.args.target.now) (g.T.Blocks.image c.write.new.self) = λ t.
    piece_more writes index c.piece-item.result c.bytes.result.now (g.T.Blocks.size c.args.target.now) c.piece-item.is c.bytes.ensures c.requires.places (omega arith)
    _ _ _ (before.put t) (now.written t) (g.met.T.Blocks.whole c.args.target.now t) c.requires.apart in
    let Same : Log → Type 0 = λ log. SameAsks (g.T.Disk.log c.loop-piece.target) log in
    record {
      bound = omega arith;
      put = put;
      within = λ t. put_within writes (index + 1) _ _ (omega arith) (put t);
      used = used_on g.T.Blocks g.T.Disk _ _ _ before.used
          (record {
            size = now.size;
            mode = now.mode;
            discards = now.discards;
            later = now.cause.later;
            asks = λ t. subst Same (sym (now.log t)) (record { name = refl; asks = refl; last = refl; greatest = refl });
          });
      may_leave = λ t.
          follows_on _ _ _ _ _ (OnlyInWrites writes) (only_in_writes_on writes)
          (g.met.T.Disk.stops_are c.args.target.now t) (g.met.T.Disk.stops_are c.loop-piece.target t) (before.may_leave t)
          (follows_weaker _ _ _ (OnlyInWrites writes)
          (λ x y half. piece_within writes index c.piece-item.result c.bytes.result.now _ c.piece-item.is c.bytes.ensures c.requires.places (omega arith) x y half.outside)
          (now.stops t));
    }
