use Rattle.std.proofs.Common.{inl}
use Rattle.partition_content.proofs.reading.found_alone.Goals as goal

pub returns-in-Ok-clause-found : goal.returns-in-Ok-clause-found
returns-in-Ok-clause-found g c = λ t. inl (c.requires t, c.in-Ok.ensures.content t)
