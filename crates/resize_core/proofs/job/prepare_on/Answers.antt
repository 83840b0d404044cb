-- What the steps answer is what is due of the two disks.
use Rattle.std.proofs.Common.{◌≡◌, ℕ, sym, subst}
use Rattle.disk_base.specs.Image.{sectors_of}
use Rattle.guest_view.specs.Guests.{IsGuest}
use Rattle.resize_core.specs.inside.Deciding.{IsRefusedFor}
use Rattle.resize_core.proofs.WorkLemmas.{bad_source, prepared_of, refused_for, sectors_is, shown_by}
use Rattle.resize_core.proofs.job.prepare_on.Goals as goal

pub returns-in-Err-clause-stop : goal.returns-in-Err-clause-stop
returns-in-Err-clause-stop g c = λ s target is.
    rw c.unready_of.ensures
    (bad_source c.args.job.now (g.S.Blocks.image c.args.source.now) target _ c.in-Err.fault (sectors_is _ _ (g.met.S.Blocks.whole c.args.source.now s)) (c.in-Err.ensures.fault s))

pub returns-in-Ok-prepare_for-clause-work : goal.returns-in-Ok-prepare_for-clause-work
returns-in-Ok-prepare_for-clause-work g c = λ s target is.
    let size : sectors_of (g.S.Blocks.image c.args.source.now) ≡ _ = sectors_is _ _ (g.met.S.Blocks.whole c.args.source.now s) in
    let Guest : ℕ → Type 0 = λ n. IsGuest n (g.S.Blocks.image c.args.source.now) c.in-Ok.found.guest in
    prepared_of c.args.job.now (g.S.Blocks.image c.args.source.now) target c.in-Ok.found.guest c.in-Ok.found.head c.args.sectors c.in-Ok-prepare_for.prepared
    (subst Guest (sym size) (c.in-Ok.ensures.guest s)) (c.in-Ok.ensures.head s) is c.in-Ok-prepare_for.ensures.ready

pub returns-clause-stop : goal.returns-clause-stop
returns-clause-stop g c = λ s target is.
    let size : sectors_of (g.S.Blocks.image c.args.source.now) ≡ _ = sectors_is _ _ (g.met.S.Blocks.whole c.args.source.now s) in
    let Guest : ℕ → Type 0 = λ n. IsGuest n (g.S.Blocks.image c.args.source.now) c.in-Ok.found.guest in
    let Refused : ℕ → Type 0 = λ n. IsRefusedFor c.args.job.now c.in-Ok.found.guest n c.in-Err-prepare_for.refusal in
    refused_for c.args.job.now (g.S.Blocks.image c.args.source.now) target c.in-Ok.found.guest c.in-Err-prepare_for.refusal
    (subst Guest (sym size) (c.in-Ok.ensures.guest s)) (subst Refused (sym is) c.in-Err-prepare_for.ensures.refused)

pub returns-in-Ok-prepare_for-clause-shown : goal.returns-in-Ok-prepare_for-clause-shown
returns-in-Ok-prepare_for-clause-shown g c =
    shown_by c.args.job.now c.in-Ok.found.guest c.in-Ok.found.head c.args.sectors c.in-Ok-prepare_for.prepared c.in-Ok-prepare_for.ensures.ready
