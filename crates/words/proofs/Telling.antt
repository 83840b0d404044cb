-- An answer that is a fault may be told.
use Rattle.std.proofs.Common.{◌≡◌, Result, Err}
use Rattle.words.specs.declared.job.Job.{Job}
use Rattle.words.specs.declared.usage.Usage.{Usage}
use Rattle.words.specs.declared.usage.Usage.TheVariants.{Tool, Unknown, Value, Missing, Extra, Excluded, Twice, Size, Same, Memory}
use Rattle.words.specs.JobOf.{IsToldOf}

pub told : (answer : Result Job Usage) (fault : Usage) → answer ≡ Err fault → IsToldOf answer fault
told answer Tool h = h
told answer (Unknown place) h = h
told answer (Value place) h = h
told answer Missing h = h
told answer (Extra place) h = h
told answer (Excluded place) h = h
told answer (Twice place) h = h
told answer (Size place) h = h
told answer Same h = h
told answer Memory h = tt
