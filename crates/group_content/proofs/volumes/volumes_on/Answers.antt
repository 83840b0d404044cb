use Rattle.std.proofs.Common.{◌≡◌, ℕ, ◌*◌, ◌<◌, ◌++◌, ◌∷◌, [], List, length, All, arith, sym, ap, subst, ◌∙◌, IsTrue}
use Rattle.std.proofs.lemmas.List.Elements.{All-push, All-same}
use Rattle.disk_base.specs.Run.{IsWithin}
use Rattle.group_runs.proofs.Lying.{runs_on_disk}
use Rattle.group_runs.specs.Places.{disk_runs}
use Rattle.group_content.specs.Grouped.{HoldsInner, VolumeFits}
use Rattle.group_content.specs.declared.types.GroupVolume.{GroupVolume}
use Rattle.group_content.proofs.Splitting.{place_more, volume_apart, volume_lies}
use Rattle.group_content.proofs.volumes.volumes_on.Goals as goal

pub volume_on-requires-clause-lie : goal.volume_on-requires-clause-lie
volume_on-requires-clause-lie g c =
    volume_lies c.args.members.now c.args.group.now.volumes c.loop-lv.lv c.runs_of.result.now (omega arith) c.runs_of.ensures c.requires.lie

pub volume_on-requires-clause-inside : goal.volume_on-requires-clause-inside
volume_on-requires-clause-inside g c =
    subst (λ (n : ℕ). All (IsWithin n) (disk_runs c.args.members.now c.runs_of.result.now)) (sym (g.met.B.Blocks.same_size _ _ c.loop-lv.invariant.read))
    (runs_on_disk (g.B.Blocks.size c.args.disk.now) c.args.members.now c.runs_of.result.now c.requires.inside
    (volume_lies c.args.members.now c.args.group.now.volumes c.loop-lv.lv c.runs_of.result.now (omega arith) c.runs_of.ensures c.requires.lie))

pub volume_on-requires-clause-apart : goal.volume_on-requires-clause-apart
volume_on-requires-clause-apart g c =
    volume_apart c.args.members.now c.args.group.now.volumes c.loop-lv.lv c.runs_of.result.now (omega arith) c.runs_of.ensures c.requires.apart

pub loop-lv-preserved : goal.loop-lv-preserved
loop-lv-preserved g c = record {
  read = g.met.B.Blocks.read_on _ _ _ c.loop-lv.invariant.read c.in_ok-volume.ensures.read;
  place = place_more c.args.members.now c.args.group.now.volumes c.loop-lv.volumes.items c.in_ok-volumes.volumes.items c.in_ok-volume.volume c.loop-lv.lv c.runs_of.result.now (omega arith)
      c.runs_of.ensures c.in_ok-volumes.ensures.added c.in_ok-volume.ensures.place c.loop-lv.invariant.place;
  inners = λ t.
      let image : g.B.Blocks.image c.loop-lv.disk ≡ g.B.Blocks.image c.args.disk.now = g.met.B.Blocks.same_image _ _ c.loop-lv.invariant.read t in
      All-same (HoldsInner (g.B.Blocks.image c.args.disk.now)) c.in_ok-volumes.volumes.items (c.loop-lv.volumes.items ++ c.in_ok-volume.volume ∷ []) c.in_ok-volumes.ensures.added
      (All-push (HoldsInner (g.B.Blocks.image c.args.disk.now)) c.loop-lv.volumes.items c.in_ok-volume.volume (c.loop-lv.invariant.inners t)
      (subst (λ (i : List ℕ). HoldsInner i c.in_ok-volume.volume) image (c.in_ok-volume.ensures.inner t)));
  fits = All-same VolumeFits c.in_ok-volumes.volumes.items (c.loop-lv.volumes.items ++ c.in_ok-volume.volume ∷ []) c.in_ok-volumes.ensures.added
      (All-push VolumeFits c.loop-lv.volumes.items c.in_ok-volume.volume c.loop-lv.invariant.fits c.in_ok-volume.ensures.fits);
}
