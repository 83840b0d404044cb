use Rattle.std.proofs.Common.{◌≡◌, sym, ◌∙◌, true, false}
use Rattle.run_end.specs.declared.end.Refusal.TheVariants.{NotYet}
use Rattle.resize_core.specs.Resizing.{resize_of}
use Rattle.run_end.specs.Ended.{Ended, world}
use Rattle.run_end.proofs.EndLemmas.{uncalled}
use Rattle.virt_run.proofs.RunLemmas.{resize_by}
use Rattle.virt_run.proofs.running.resize_served.Goals as goal

pub returns-then-not-is_served-clause-ended : goal.returns-then-not-is_served-clause-ended
returns-then-not-is_served-clause-ended g c =
    resize_by c.args.job.now false _ _ _ (sym c.is_served.ensures ∙ c.if-not-is_served.true) (uncalled _ NotYet (g.met.T.Disk.stops_are c.args.target.now))

pub returns-clause-ended : goal.returns-clause-ended
returns-clause-ended g c =
    let ended : Ended (resize_of c.args.job.now (g.S.Blocks.image c.args.source.now) (g.T.Blocks.image c.args.target.now))
    (world g.S.Blocks g.S.Disk g.T.Blocks g.T.Disk g.O.Sink c.args.source.now c.args.target.now c.args.out.now)
    (world g.S.Blocks g.S.Disk g.T.Blocks g.T.Disk g.O.Sink c.resize.new.source c.resize.new.target c.resize.new.out) c.resize.result =
    record {
      cause = c.resize.ensures.cause;
      attached = c.resize.ensures.attached;
      source = c.resize.ensures.source;
      asked = c.resize.ensures.asked;
      due = λ tells. c.resize.ensures.due tells.0 tells.1;
      left = λ tells. c.resize.ensures.left tells.0 tells.1;
      moments = λ stops tells. c.resize.ensures.moments tells.0 tells.1 stops;
      settled = c.resize.ensures.settled;
      unprinted = c.resize.ensures.unprinted;
      printed = λ o tells. c.resize.ensures.printed tells.0 tells.1 o;
    } in
    resize_by c.args.job.now true _ _ _ (sym c.is_served.ensures ∙ c.if-not-is_served.false) ended
