use Rattle.std.proofs.Common.{◌≡◌, ℕ, Bool, IsTrue, List, arith, ap, subst, refl, ◌∙◌}
use Rattle.std.specs.Prelude.{Some, slice_get}
use Rattle.std.proofs.lemmas.Option.{slice_get_read}
use Rattle.disk_base.specs.declared.run.Run.{Run}
use Rattle.disk_view.specs.Join.{IsInOne}
use Rattle.volume_choice.specs.Chosen.{is_ignored_logical}
use Rattle.free_sectors.specs.Free.{LogicalKeeps, SomeLogical}
use Rattle.free_sectors.specs.inside.Adding.{Gathers, SomeBelow}
use Rattle.free_sectors.proofs.Adding.{Gathers-as, Gathers-start}
use Rattle.free_sectors.proofs.Free.{Gathers-volume, DoesVolume, logical_some, some_logical}
use Rattle.free_sectors.proofs.logical.keep_logicals.Goals as goal

pub loop-index-init : goal.loop-index-init
loop-index-init c = Gathers-start c.args.out.now (DoesVolume c.args.volumes.now (LogicalKeeps c.args.choices.now c.args.holder))

pub loop-index-preserved : goal.loop-index-preserved
loop-index-preserved c =
    let volumes = c.args.volumes.now in
    let choices = c.args.choices.now in
    let n = c.loop-index.index in
    let volume = c.index-volumes-index.result in
    let is : slice_get volumes n ≡ Some volume = slice_get_read volumes _ n volume refl (omega arith) c.index-volumes-index.is in
    let ignored : c.is_ignored_logical-is_ignored.result ≡ is_ignored_logical choices c.args.holder n =
    c.is_ignored_logical-is_ignored.ensures ∙ ap (λ (lv : ℕ). is_ignored_logical choices c.args.holder lv) c.in_ok-lv.ensures in
    let more : Gathers c.loop-index.out c.put_all_if.new.out (λ x. IsTrue c.is_ignored_logical-is_ignored.result × IsInOne volume.runs.items x) =
    subst (λ (runs : List Run). Gathers c.loop-index.out c.put_all_if.new.out (λ x. IsTrue c.is_ignored_logical-is_ignored.result × IsInOne runs x)) c.deref.ensures.value c.in_ok-put_all_if.ensures in
    Gathers-volume c.args.out.now c.loop-index.out c.put_all_if.new.out volumes (LogicalKeeps choices c.args.holder) n volume c.loop-index.invariant is
    (subst (λ (t : Bool). Gathers c.loop-index.out c.put_all_if.new.out (λ x. IsTrue t × IsInOne volume.runs.items x)) ignored more)

pub returns : goal.returns
returns c =
    let volumes = c.args.volumes.now in
    let does = LogicalKeeps c.args.choices.now c.args.holder in
    let n = c.loop-index.index in
    Gathers-as c.args.out.now c.loop-index.out (SomeBelow n (DoesVolume volumes does)) (λ x. SomeLogical (λ lv volume. does lv volume x) volumes) c.loop-index.invariant
    (λ x on some. some_logical volumes does n x some)
    (λ x on some. logical_some volumes does n x (omega arith) some)
