use Rattle.std.proofs.Common.{◌+◌, ◌*◌, ℕ, rules}
use Rattle.std.proofs.lemmas.List.FromFn.{fill_by_all}
use Rattle.disk_base.specs.Fields.{big_at}
use Rattle.xfs_super.proofs.agi.unlinked_in.Goals as goal

pub returns : goal.returns
returns c = fill_by_all (λ (k : ℕ). big_at 4 c.args.bytes.now (40 + 4 * k)) c.loop-i.out 64 0 c.loop-i.invariant.0 (search rules)
