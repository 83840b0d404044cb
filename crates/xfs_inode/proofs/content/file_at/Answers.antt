use Rattle.std.proofs.Common.{◌≡◌, ◌∙◌, ℕ, ◌+◌, ◌-◌, ◌/◌, ◌%◌, ◌<◌, ◌≤◌, List, ap, arith, refl, length, mod-lt}
use Rattle.xfs_inode.specs.Content.{file_block}
use Rattle.block_claims.specs.Agreement.{block}
use Rattle.xfs_super.specs.Super.{geometry_of}
use Rattle.xfs_inode.proofs.Contents.{fills_more, put_length}
use Rattle.xfs_inode.proofs.content.file_at.Goals as goal

pub loop-done-preserved : goal.loop-done-preserved
loop-done-preserved g c =
    let at : ℕ = c.args.offset + c.loop-done.done in
    let kept = c.loop-done.invariant in
    let less : at % 4096 < 4096 = mod-lt at (omega arith) in
    let room : c.min-len.result ≤ c.min-n.result - c.loop-done.done = omega (arith, c.min-len.ensures) in
    let short : at % 4096 + c.min-len.result ≤ 4096 = omega (arith, c.min-len.ensures, less) in
    let inside : c.min-n.result ≤ length c.args.out.now = omega (arith, c.min-n.ensures) in
    let within : c.loop-done.done + c.min-len.result ≤ c.min-n.result = omega (arith, room, c.loop-done-test.true) in
    let fits : c.loop-done.done + c.min-len.result ≤ length c.loop-done.out = omega (arith, within, inside, kept.long) in
    record {
      only = g.met.B.Blocks.read_on c.args.disk.now c.loop-done.disk c.load.new.disk kept.only c.in_ok-load.ensures.read;
      within = within;
      long = ap length c.put.ensures.written ∙ put_length c.loop-done.out c.part.result.now c.loop-done.done (omega (arith, fits, c.part.ensures.long)) ∙ kept.long;
      fills = λ told.
          let same : g.B.Blocks.image c.loop-done.disk ≡ g.B.Blocks.image c.args.disk.now = g.met.B.Blocks.same_image c.args.disk.now c.loop-done.disk kept.only told in
          let buffer = c.in_ok-load.ensures.bytes told ∙ ap (λ (i : List ℕ). file_block (block i) (geometry_of c.args.geo.now) c.args.extents.now (at / 4096)) same in
          fills_more (block (g.B.Blocks.image c.args.disk.now)) (geometry_of c.args.geo.now) c.args.extents.now c.args.offset c.loop-done.done (at % 4096) c.min-len.result c.load.new.out c.part.result.now c.args.out.now c.loop-done.out c.put.new.out
          (kept.fills told) refl short buffer c.part.ensures.bytes c.part.ensures.long fits c.put.ensures.written;
    }
