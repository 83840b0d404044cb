use Rattle.std.proofs.lemmas.Bool.Decides.{same_from_decides}
use Rattle.run_copy.proofs.Copies.{zero_each, zero_list}
use Rattle.run_copy.proofs.copying.is_zero.Goals as goal

pub returns : goal.returns
returns c = same_from_decides _ _ c.all_zero.ensures (zero_each c.args.piece.now, zero_list c.args.piece.now)
