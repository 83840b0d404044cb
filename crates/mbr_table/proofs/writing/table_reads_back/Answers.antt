use Rattle.mbr_table.proofs.Records.{table_written_back}
use Rattle.mbr_table.proofs.writing.table_reads_back.Goals as goal

pub returns : goal.returns
returns c = λ sectors image table few is records. table_written_back sectors image table few is records
