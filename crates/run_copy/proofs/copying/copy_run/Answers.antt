-- One more piece: what it put, or left out, goes to the invariant by `piece_more`.
use Rattle.std.proofs.Common.{◌≡◌, ℕ, ◌+◌, ◌-◌, ◌*◌, ◌<◌, min, List, arith, ap, subst, ◌∙◌}
use Rattle.disk_base.proofs.Images.{agrees_on}
use Rattle.disk_base.proofs.Moments.{follows_on}
use Rattle.disk_base.proofs.Uses.{used_on}
use Rattle.run_copy.specs.Copies.{piece_of, IsCopied, WritesAtMost, OnlyIn}
use Rattle.run_copy.specs.inside.Puts.{put_of, writes_of}
use Rattle.run_copy.proofs.Copies.{piece_more, writes_more}
use Rattle.run_copy.proofs.copying.copy_run.Goals as goal

pub returns-in_err-copy_piece-clause-stops : goal.returns-in_err-copy_piece-clause-stops
returns-in_err-copy_piece-clause-stops g c = λ t.
    follows_on _ _ _ _ _ (OnlyIn c.args.transfer.now) (λ x y z. agrees_on _ _ x y z)
    (g.met.T.Disk.stops_are c.args.target.now t) (g.met.T.Disk.stops_are c.loop-number.target t) (c.loop-number.invariant.may_leave t) (c.copy_piece.ensures.stops t)

pub loop-number-preserved : goal.loop-number-preserved
loop-number-preserved g c =
    let before = c.loop-number.invariant in
    let now = c.in_ok-copy_piece.ensures in
    let transfer = c.args.transfer.now in
    let number = c.loop-number.number in
    let some : 2048 * number < transfer.count = omega arith in
    record {
      read = g.met.S.Blocks.read_on _ _ _ before.read now.read;
      bound = tt;
      copied = λ s t.
          let source_whole = g.met.S.Blocks.whole c.args.source.now s in
          let target_whole = g.met.T.Blocks.whole c.args.target.now t in
          let source_same = g.met.S.Blocks.same_image _ _ before.read s in
          let start = g.S.Blocks.image c.args.source.now in
          let first = g.T.Blocks.image c.args.target.now in
          let mid = g.T.Blocks.image c.loop-number.target in
          let Done : ℕ → List ℕ → Type 0 = λ n image. IsCopied transfer n start first image in
          let far : min (2048 * number) transfer.count ≡ 2048 * number = omega arith in
          let next : 2048 * number + min 2048 (transfer.count - 2048 * number) ≡ min (2048 * (number + 1)) transfer.count = omega arith in
          let so_far : Done (2048 * number) mid = subst (λ n. Done n mid) far (before.copied s t) in
          let put = now.put s t ∙ ap (λ (image : List ℕ). put_of transfer.sparse (transfer.to + 2048 * number) (piece_of image transfer number) mid) source_same in
          let source_fits = c.requires.between.source in
          let target_fits = c.requires.between.target in
          subst (λ n. Done n (g.T.Blocks.image c.copy_piece.new.target)) next
          (piece_more transfer number start first mid (g.T.Blocks.image c.copy_piece.new.target) so_far put some
          (omega (arith, source_whole, source_fits)) (omega (arith, target_whole, target_fits)));
      writes = λ s t.
          let source_same = g.met.S.Blocks.same_image _ _ before.read s in
          let start = g.S.Blocks.image c.args.source.now in
          let Writes : List ℕ → Type 0 = λ image. WritesAtMost (writes_of transfer.sparse (piece_of image transfer number)) (g.T.Disk.log c.loop-number.target) (g.T.Disk.log c.copy_piece.new.target) in
          writes_more start transfer number (g.T.Disk.log c.args.target.now) (g.T.Disk.log c.loop-number.target) (g.T.Disk.log c.copy_piece.new.target)
          (before.writes s t) (subst Writes source_same (now.writes s t));
      others = λ t. agrees_on _ _ _ _ _ (before.others t) (now.within t);
      used = used_on g.T.Blocks g.T.Disk _ _ _ before.used now.used;
      may_leave = λ t.
          follows_on _ _ _ _ _ (OnlyIn transfer) (λ x y z. agrees_on _ _ x y z)
          (g.met.T.Disk.stops_are c.args.target.now t) (g.met.T.Disk.stops_are c.loop-number.target t) (before.may_leave t) (now.stops t);
    }
