-- What is read behind a look at sector 0 is of the same disk.
use Rattle.std.proofs.Common.{ℕ, IfOk, IfErr, arith, subst, sym, ◌∙◌}
use Rattle.std.proofs.lemmas.Bool.{false≢true}
use Rattle.guest_view.specs.Guests.{IsLeftToGpt, IsNoGuest, IsSoundTable, IsTableOf}
use Rattle.guest_view.proofs.Guests.{of_same_disk}
use Rattle.guest_view.proofs.inspecting.read_table.Goals as goal

pub read_left-requires-clause-few : goal.read_left-requires-clause-few
read_left-requires-clause-few g c = rw (g.met.B.Blocks.same_size _ _ c.in_ok-left.ensures.read) c.requires.few

pub read_left-requires-clause-left : goal.read_left-requires-clause-left
read_left-requires-clause-left g c = λ t.
    of_same_disk IsLeftToGpt _ _ _ _ (sym (g.met.B.Blocks.same_size _ _ c.in_ok-left.ensures.read)) (sym (g.met.B.Blocks.same_image _ _ c.in_ok-left.ensures.read t))
    ((c.in_ok-left.ensures.left t).0 c.if-left.true)

pub read_own-requires-clause-few : goal.read_own-requires-clause-few
read_own-requires-clause-few g c = rw (g.met.B.Blocks.same_size _ _ c.in_ok-left.ensures.read) c.requires.few

pub read_own-requires-clause-own : goal.read_own-requires-clause-own
read_own-requires-clause-own g c = λ t is.
    let left : IsLeftToGpt (g.B.Blocks.size c.args.disk.now) (g.B.Blocks.image c.args.disk.now) =
    of_same_disk IsLeftToGpt _ _ _ _ (g.met.B.Blocks.same_size _ _ c.in_ok-left.ensures.read) (g.met.B.Blocks.same_image _ _ c.in_ok-left.ensures.read t) is in
    false≢true (sym c.if-left.false ∙ (c.in_ok-left.ensures.left t).1 left)

pub returns-then-left-clause-read : goal.returns-then-left-clause-read
returns-then-left-clause-read g c = g.met.B.Blocks.read_on _ _ _ c.in_ok-left.ensures.read c.read_left.ensures.read

pub returns-then-left-clause-table : goal.returns-then-left-clause-table
returns-then-left-clause-table g c = λ t.
    of_same_disk (λ n image. IfOk c.read_left.result (IsTableOf n image)) _ _ _ _ (g.met.B.Blocks.same_size _ _ c.in_ok-left.ensures.read)
    (g.met.B.Blocks.same_image _ _ c.in_ok-left.ensures.read t) (c.read_left.ensures.table t)

pub returns-then-left-clause-sound : goal.returns-then-left-clause-sound
returns-then-left-clause-sound g c =
    let Of : ℕ → Type 0 = λ n. IfOk c.read_left.result (IsSoundTable n) in
    subst Of (g.met.B.Blocks.same_size _ _ c.in_ok-left.ensures.read) c.read_left.ensures.sound

pub returns-then-left-clause-fault : goal.returns-then-left-clause-fault
returns-then-left-clause-fault g c = λ t.
    of_same_disk (λ n image. IfErr c.read_left.result (IsNoGuest n image)) _ _ _ _ (g.met.B.Blocks.same_size _ _ c.in_ok-left.ensures.read)
    (g.met.B.Blocks.same_image _ _ c.in_ok-left.ensures.read t) (c.read_left.ensures.fault t)

pub returns-then-left-clause-device : goal.returns-then-left-clause-device
returns-then-left-clause-device g c = λ is. omega (arith, c.read_left.ensures.device is, g.met.B.Blocks.no_fewer _ _ c.in_ok-left.ensures.read)

pub returns-else-left-clause-read : goal.returns-else-left-clause-read
returns-else-left-clause-read g c = g.met.B.Blocks.read_on _ _ _ c.in_ok-left.ensures.read c.read_own.ensures.read

pub returns-else-left-clause-table : goal.returns-else-left-clause-table
returns-else-left-clause-table g c = λ t.
    of_same_disk (λ n image. IfOk c.read_own.result (IsTableOf n image)) _ _ _ _ (g.met.B.Blocks.same_size _ _ c.in_ok-left.ensures.read)
    (g.met.B.Blocks.same_image _ _ c.in_ok-left.ensures.read t) (c.read_own.ensures.table t)

pub returns-else-left-clause-sound : goal.returns-else-left-clause-sound
returns-else-left-clause-sound g c =
    let Of : ℕ → Type 0 = λ n. IfOk c.read_own.result (IsSoundTable n) in
    subst Of (g.met.B.Blocks.same_size _ _ c.in_ok-left.ensures.read) c.read_own.ensures.sound

pub returns-else-left-clause-fault : goal.returns-else-left-clause-fault
returns-else-left-clause-fault g c = λ t.
    of_same_disk (λ n image. IfErr c.read_own.result (IsNoGuest n image)) _ _ _ _ (g.met.B.Blocks.same_size _ _ c.in_ok-left.ensures.read)
    (g.met.B.Blocks.same_image _ _ c.in_ok-left.ensures.read t) (c.read_own.ensures.fault t)

pub returns-else-left-clause-device : goal.returns-else-left-clause-device
returns-else-left-clause-device g c = λ is. omega (arith, c.read_own.ensures.device is, g.met.B.Blocks.no_fewer _ _ c.in_ok-left.ensures.read)
