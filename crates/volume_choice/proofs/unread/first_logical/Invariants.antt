use Rattle.std.proofs.Common.{◌≡◌, drop}
use Rattle.std.specs.Prelude.{slice_get}
use Rattle.volume_choice.specs.Unread.{unread_logicals}
use Rattle.volume_choice.proofs.unread.first_logical.Given as goal

abbrev pub invariant-loop-volume : goal.invariant-loop-volume
invariant-loop-volume l = record {
  place : l.lv ≡ l.volume-index;
  left : slice_get (unread_logicals l.choices l.parts l.holder l.lv (drop l.volume-index l.volumes)) 0
      ≡ slice_get (unread_logicals l.choices l.parts l.holder 0 l.volumes) 0;
}
