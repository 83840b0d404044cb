use Rattle.std.proofs.Common.{arith}
use Rattle.xfs_dir.proofs.Shorts.{short_front, seen_short}
use Rattle.xfs_dir.proofs.short.short_entry.Goals as goal

pub part-requires-clause-inside : goal.part-requires-clause-inside
part-requires-clause-inside c = let f = short_front c.args.wide c.args.rest.now c.requires in omega (arith, f.inside, c.short_name_len-len.ensures.len)

pub inumber_in-requires : goal.inumber_in-requires
inumber_in-requires c = let f = short_front c.args.wide c.args.rest.now c.requires in omega (arith, f.inside, c.short_name_len-len.ensures.len)

pub bounds-rest-len : goal.bounds-rest-len
bounds-rest-len c = let f = short_front c.args.wide c.args.rest.now c.requires in omega (arith, f.inside, c.short_name_len-len.ensures.len)

pub returns : goal.returns
returns c = seen_short c.args.wide c.args.rest.now c.short_name_len-len.result c.part.result.now c.inumber_in.result c.short_name_len-len.ensures.len c.part.ensures c.inumber_in.ensures
