use Rattle.words.proofs.options.sparsify_option.Goals as goal

pub returns : goal.returns
returns c = cc
