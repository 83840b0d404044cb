use Rattle.std.proofs.Common.{◌∙◌, length, sym}
use Rattle.disk_base.specs.Run.{run_of}
use Rattle.disk_view.proofs.Joins.{one_run}
use Rattle.disk_view.proofs.reading.read_runs.Goals as goal

pub returns-in_ok-read-in-len1-clause-bytes : goal.returns-in_ok-read-in-len1-clause-bytes
returns-in_ok-read-in-len1-clause-bytes g c = λ told.
    c.in_ok-read-in-len1.ensures.bytes told
    ∙ sym (one_run (g.B.Blocks.image c.args.disk.now) (g.B.Blocks.size c.args.disk.now) c.args.runs.now (run_of 0 0) c.args.at (length c.args.out.now) c.in-len1.len_at_least c.in-len1.len_below (g.met.B.Blocks.whole c.args.disk.now told)
    c.requires.inside c.requires.reach)
