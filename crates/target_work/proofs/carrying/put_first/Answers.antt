-- A write of sector 0 that failed left it as it was, or whole.
use Rattle.std.proofs.Common.{rules, ◌≡◌, ℕ, ◌≤◌, List, length, arith, subst}
use Rattle.disk_base.specs.Image.{HalfWritten}
use Rattle.disk_base.specs.Stops.{Adds, adds_on}
use Rattle.disk_base.proofs.Moments.{adds_nothing, follows_settled}
use Rattle.target_work.specs.inside.Phases.{OldOrWith}
use Rattle.target_work.proofs.Finishing.{old_or_with, on_err}
use Rattle.target_work.proofs.carrying.put_first.Goals as goal

pub returns-in_err-write-clause-half : goal.returns-in_err-write-clause-half
returns-in_err-write-clause-half g c = λ t.
    let whole = g.met.T.Blocks.whole c.flush.new.self t in
    let same : g.T.Blocks.size c.flush.new.self ≡ g.T.Blocks.size c.args.target.now = search rules in
    let long : length c.args.first.now ≡ 512 = search rules in
    let some : 512 ≤ length (g.T.Blocks.image c.flush.new.self) = omega (arith, whole, same, c.requires.some) in
    let Half : List ℕ → Type 0 = λ image. OldOrWith 0 c.args.first.now image (g.T.Blocks.image c.write.new.self) in
    on_err _ (subst Half (c.in_ok-flush.ensures.held t) (old_or_with _ _ c.args.first.now long some (c.in_err-write.ensures.half t)))

-- a stop leaves the target as it was, or with the table or a part of it in its place
pub returns-in_err-flush-clause-stops : goal.returns-in_err-flush-clause-stops
returns-in_err-flush-clause-stops g c = λ t. adds_nothing _ _ _ (c.flush.ensures.stops t)

pub returns-in_err-write-clause-stops : goal.returns-in_err-write-clause-stops
returns-in_err-write-clause-stops g c = λ t.
    let P : List ℕ → Type 0 = HalfWritten 0 c.args.first.now (g.T.Blocks.image c.args.target.now) in
    let Written : List ℕ → Type 0 = λ image. Adds (HalfWritten 0 c.args.first.now image) (g.T.Disk.stops c.flush.new.self) (g.T.Disk.stops c.write.new.self) in
    let written = subst Written (c.in_ok-flush.ensures.held (g.met.T.Disk.stops_told t))
    (follows_settled (g.T.Blocks.image c.flush.new.self) _ _ (HalfWritten 0 c.args.first.now) (c.in_ok-flush.ensures.settled t) (c.in_err-write.ensures.stops t)) in
    adds_on _ _ _ P (adds_nothing _ _ P (c.in_ok-flush.ensures.stops t)) written

pub returns-in_err-flush-2-clause-stops : goal.returns-in_err-flush-2-clause-stops
returns-in_err-flush-2-clause-stops g c = λ t.
    let P : List ℕ → Type 0 = HalfWritten 0 c.args.first.now (g.T.Blocks.image c.args.target.now) in
    let Written : List ℕ → Type 0 = λ image. Adds (HalfWritten 0 c.args.first.now image) (g.T.Disk.stops c.flush.new.self) (g.T.Disk.stops c.write.new.self) in
    let written = subst Written (c.in_ok-flush.ensures.held (g.met.T.Disk.stops_told t))
    (follows_settled (g.T.Blocks.image c.flush.new.self) _ _ (HalfWritten 0 c.args.first.now) (c.in_ok-flush.ensures.settled t) (c.in_ok-write.ensures.stops t)) in
    adds_on _ _ _ P (adds_nothing _ _ P (c.in_ok-flush.ensures.stops t)) (adds_on _ _ _ P written (adds_nothing _ _ P (c.in_err-flush-2.ensures.stops t)))

pub returns-clause-stops : goal.returns-clause-stops
returns-clause-stops g c = λ t.
    let P : List ℕ → Type 0 = HalfWritten 0 c.args.first.now (g.T.Blocks.image c.args.target.now) in
    let Written : List ℕ → Type 0 = λ image. Adds (HalfWritten 0 c.args.first.now image) (g.T.Disk.stops c.flush.new.self) (g.T.Disk.stops c.write.new.self) in
    let written = subst Written (c.in_ok-flush.ensures.held (g.met.T.Disk.stops_told t))
    (follows_settled (g.T.Blocks.image c.flush.new.self) _ _ (HalfWritten 0 c.args.first.now) (c.in_ok-flush.ensures.settled t) (c.in_ok-write.ensures.stops t)) in
    adds_on _ _ _ P (adds_nothing _ _ P (c.in_ok-flush.ensures.stops t)) (adds_on _ _ _ P written (adds_nothing _ _ P (c.in_ok-flush-2.ensures.stops t)))
