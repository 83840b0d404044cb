use Rattle.words.proofs.options.resize_option.Goals as goal

pub returns : goal.returns
returns c = cc
