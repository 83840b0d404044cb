use Rattle.gpt_table.proofs.Headers.{summed_put}
use Rattle.gpt_table.proofs.header.summed_bytes.Goals as goal

pub returns : goal.returns
returns c = summed_put c.args.sector.now _ _ c.told-sector c.put.ensures.written c.put-2.ensures.written
