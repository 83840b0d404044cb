use Rattle.group_content.proofs.Seeing.{later_is}
use Rattle.group_content.proofs.standing.next_standing.Goals as goal

pub returns-then-first-known-clause-standing : goal.returns-then-first-known-clause-standing
returns-then-first-known-clause-standing g c =
    later_is c.args.partitions.now c.args.known.now c.first_with-first.result c.text-text.result.now c.in-Physical.physical c.index-partitions-known.result c.index-known-first.result c.later_standing.result
    c.requires.on_disk.numbers c.requires.known c.requires.more c.if-first-known.true c.first_with-first.ensures.there c.first_with-first.ensures.first
    c.index-partitions-known.is c.in-Physical.is c.text-text.ensures c.index-known-first.is c.later_standing.ensures.seen

pub returns-then-first-known-clause-inners : goal.returns-then-first-known-clause-inners
returns-then-first-known-clause-inners g c = λ t. c.later_standing.ensures.inners (g.B.Blocks.image c.args.disk.now)
