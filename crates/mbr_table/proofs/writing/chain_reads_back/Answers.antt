use Rattle.mbr_table.proofs.Records.{chain_written, logicals_written}
use Rattle.mbr_table.proofs.writing.chain_reads_back.Goals as goal

pub returns : goal.returns
returns c = λ image extended logicals fits are.
    (chain_written image extended logicals fits are, logicals_written image extended logicals fits are)
