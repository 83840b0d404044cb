use Rattle.free_sectors.proofs.Sets.{known, put_whole}
use Rattle.free_sectors.proofs.putting.put_rest.Goals as goal

pub returns : goal.returns
returns c =
    put_whole c.args.set.now c.add_all.new.set _ _ c.args.from c.args.n c.in_ok-set_of.ensures c.in_ok-rest.ensures c.in_ok-add_all.ensures (known c.args.set.now)
