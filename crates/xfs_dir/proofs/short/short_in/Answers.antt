use Rattle.std.proofs.Common.{◌≡◌, ◌∙◌, sym, arith, true}
use Rattle.xfs_dir.specs.ShortScan.{begins_with_short}
use Rattle.xfs_dir.proofs.Shorts.{short_front}
use Rattle.xfs_dir.proofs.short.short_in.Goals as goal

pub returns : goal.returns
returns c =
    let there : begins_with_short c.args.wide c.args.rest.now ≡ true = sym c.begins_with_short.ensures ∙ c.if-not-begins_with_short.false in
    let f = short_front c.args.wide c.args.rest.now there in
    record {
      there = there;
      long = omega (arith, c.short_name_len.ensures.len, c.inumber_width.ensures.width);
      inside = omega (arith, f.inside, c.short_name_len.ensures.len, c.inumber_width.ensures.width);
      least = omega (arith, f.named, c.short_name_len.ensures.len, c.inumber_width.ensures.least);
      most = omega (arith, c.short_name_len.ensures.bound, c.inumber_width.ensures.most);
    }
