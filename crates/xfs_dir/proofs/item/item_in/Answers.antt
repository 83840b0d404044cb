use Rattle.std.proofs.Common.{◌≡◌, ◌∙◌, sym, arith, true}
use Rattle.xfs_dir.specs.Scan.{begins_with_item}
use Rattle.xfs_dir.proofs.Items.{front}
use Rattle.xfs_dir.proofs.item.item_in.Goals as goal

pub dir_item_len-requires : goal.dir_item_len-requires
dir_item_len-requires c = let f = front c.args.at c.args.rest.now (sym c.begins_with_item.ensures.front ∙ c.if-not-begins_with_item.false) in omega (arith, f.big, f.inside)

pub returns : goal.returns
returns c =
    let there : begins_with_item c.args.at c.args.rest.now ≡ true = sym c.begins_with_item.ensures.front ∙ c.if-not-begins_with_item.false in
    let f = front c.args.at c.args.rest.now there in
    record {
      there = there;
      long = c.dir_item_len.ensures.long;
      least = omega (arith, f.big, c.dir_item_len.ensures.long);
      inside = omega (arith, f.inside, c.dir_item_len.ensures.long);
      near = c.begins_with_item.ensures.near c.if-not-begins_with_item.false;
      short = c.dir_item_len.ensures.short;
    }
