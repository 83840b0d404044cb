use Rattle.std.proofs.Common.{◌≡◌, ℕ, List, ◌++◌, ◌∷◌, [], length, All, arith, sym, ap, subst, ◌∙◌}
use Rattle.std.proofs.lemmas.List.{length_push}
use Rattle.std.proofs.lemmas.List.Elements.{All-push, All-same}
use Rattle.group_content.specs.Standing.{HoldInners, IsStanding, StandingFits}
use Rattle.group_content.specs.declared.types.FoundPartition.{FoundPartition}
use Rattle.group_content.specs.declared.types.Standing.{Standing}
use Rattle.std.specs.Prelude.{slice_index_or}
use Rattle.group_content.proofs.Seeing.{one_more_known}
use Rattle.group_content.proofs.standing.standings.Goals as goal

pub loop-partition-preserved : goal.loop-partition-preserved
loop-partition-preserved g c = record {
  read = g.met.B.Blocks.read_on _ _ _ c.loop-partition.invariant.read c.in_ok-standing.ensures.read;
  long = ap (λ (xs : List Standing). length xs) c.in_ok-standings.ensures.added ∙ omega (arith, length_push c.loop-partition.standings.items c.in_ok-standing.standing, c.loop-partition.invariant.long);
  known = one_more_known c.args.partitions.now c.loop-partition.standings.items c.in_ok-standings.standings.items c.in_ok-standing.standing c.in_ok-standings.ensures.added c.loop-partition.invariant.known
      (λ (d : FoundPartition). subst (λ (known : List Standing). IsStanding c.args.partitions.now (slice_index_or c.args.partitions.now (length known) d) c.in_ok-standing.standing) c.as_slice.ensures.value (c.in_ok-standing.ensures.standing d));
  inners = λ t.
      let image : g.B.Blocks.image c.loop-partition.disk ≡ g.B.Blocks.image c.args.disk.now = g.met.B.Blocks.same_image _ _ c.loop-partition.invariant.read t in
      All-same (HoldInners (g.B.Blocks.image c.args.disk.now)) c.in_ok-standings.standings.items (c.loop-partition.standings.items ++ c.in_ok-standing.standing ∷ []) c.in_ok-standings.ensures.added
      (All-push (HoldInners (g.B.Blocks.image c.args.disk.now)) c.loop-partition.standings.items c.in_ok-standing.standing (c.loop-partition.invariant.inners t)
      (subst (λ (i : List ℕ). HoldInners i c.in_ok-standing.standing) image (c.in_ok-standing.ensures.inners t)));
  fits = All-same StandingFits c.in_ok-standings.standings.items (c.loop-partition.standings.items ++ c.in_ok-standing.standing ∷ []) c.in_ok-standings.ensures.added
      (All-push StandingFits c.loop-partition.standings.items c.in_ok-standing.standing c.loop-partition.invariant.fits c.in_ok-standing.ensures.fits);
}
