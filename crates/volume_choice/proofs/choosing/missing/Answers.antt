use Rattle.volume_choice.specs.Chosen.{missing_places}
use Rattle.volume_choice.proofs.Least.{least_of_both}
use Rattle.volume_choice.proofs.choosing.missing.Goals as goal

pub returns : goal.returns
returns c =
    let parts = c.args.parts.now in
    least_of_both (missing_places parts c.args.job.now.ignore) (missing_places parts c.args.job.now.zero) c.lesser.result (cc)
