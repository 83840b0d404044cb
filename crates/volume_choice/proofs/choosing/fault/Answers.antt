use Rattle.std.proofs.Common.{◌∙◌, sym}
use Rattle.volume_choice.proofs.Firsts.{none_without_first}
use Rattle.volume_choice.proofs.choosing.fault.Goals as goal

pub returns-in-Ok-Some : goal.returns-in-Ok-Some
returns-in-Ok-Some c = record {
  choices = c.args.choices.now;
  are = c.requires;
  first = sym c.in-Ok-Some.ensures ∙ c.in-Ok-Some.field-0-is;
}

pub returns-in-Some : goal.returns-in-Some
returns-in-Some c = record {
  choices = c.args.choices.now;
  are = c.requires;
  read = none_without_first _ (sym c.in-Ok-None.ensures ∙ c.in-Ok-None.field-0-is);
  least = c.in-Some.ensures;
}

pub returns-in-None : goal.returns-in-None
returns-in-None c = record {
  are = c.requires;
  read = none_without_first _ (sym c.in-Ok-None.ensures ∙ c.in-Ok-None.field-0-is);
  there = c.in-None.ensures;
}
