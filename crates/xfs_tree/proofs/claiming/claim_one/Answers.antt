use Rattle.xfs_tree.proofs.Claims.{twice_one}
use Rattle.xfs_tree.proofs.claiming.claim_one.Goals as goal

pub returns-then-not-fresh-clause-fault : goal.returns-then-not-fresh-clause-fault
returns-then-not-fresh-clause-fault g c =
    twice_one c.args.geo.now.agblocks c.args.at c.place_of-place.result.group c.place_of-place.result.block (g.M.Mark.claimed c.args.marks.now) c.in_ok-fresh.fresh c.place_of-place.ensures.group c.place_of-place.ensures.block c.in_ok-fresh.ensures.fresh c.if-not-fresh.true
