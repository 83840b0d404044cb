use Rattle.virt_run.proofs.RunLemmas.{ran_of}
use Rattle.virt_run.proofs.running.run.Goals as goal

pub returns-clause-ran : goal.returns-clause-ran
returns-clause-ran g c = ran_of _ _ _ _ _ c.act-end.result c.report.result c.tool_of.result _ c.act-end.ensures.ended c.report.ensures.told c.tool_of.ensures c.report.ensures.line c.status_of.ensures
