use Rattle.std.proofs.Common.{arith, below_more, ◌<◌, length, subst, sym}
use Rattle.mbr_table.specs.Mbr.{ReadsBack}
use Rattle.mbr_table.proofs.Steps.{written_more, back_here, written_all}
use Rattle.mbr_table.proofs.Tables.{sector_reads_back, table_read_back}
use Rattle.mbr_table.proofs.writing.mbr_sector.Goals as goal

pub loop-i-preserved : goal.loop-i-preserved
loop-i-preserved c =
    let lt : c.loop-i.i < length c.args.slots.now = omega arith in
    record {
      written = written_more c.args.head.now c.args.slots.now c.loop-i.i _ c.loop-i.out _ c.entry.result lt c.loop-i.invariant.written c.entry.ensures.bytes c.put-in-loop-i.ensures.appended;
      read_back = below_more _ _ c.loop-i.invariant.read_back (back_here c.args.slots.now c.loop-i.i _ c.entry.result lt c.entry.ensures.bytes c.entry.ensures.read_back);
    }

pub returns-clause-bytes : goal.returns-clause-bytes
returns-clause-bytes c =
    written_all c.args.head.now c.args.slots.now c.loop-i.i c.loop-i.out c.put-2.new.out (omega arith) (omega arith) (omega arith) c.loop-i.invariant.written c.put-2.ensures.appended

pub returns-clause-read_back : goal.returns-clause-read_back
returns-clause-read_back c =
    subst (ReadsBack c.args.head.now c.args.slots.now) (sym (returns-clause-bytes c))
    (sector_reads_back c.args.head.now c.args.slots.now (omega arith) (omega arith) (λ k lt. c.loop-i.invariant.read_back k (omega arith)))

pub returns-clause-table : goal.returns-clause-table
returns-clause-table c =
    λ sectors some sound. table_read_back sectors c.args.head.now c.args.slots.now c.put-2.new.out some (returns-clause-read_back c) sound
