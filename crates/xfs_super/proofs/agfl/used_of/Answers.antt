use Rattle.std.proofs.Common.{◌≡◌, ℕ, ◌+◌, ◌%◌, nat_lt, List, length, take, sym, ap, ◌∙◌, arith}
use Rattle.std.specs.List.{list_all}
use Rattle.std.proofs.lemmas.List.{take_all}
use Rattle.std.proofs.lemmas.List.FromFn.{length-map-range_with_len}
use Rattle.xfs_super.specs.Geometry.{group_len}
use Rattle.xfs_super.specs.Super.{geometry_of}
use Rattle.xfs_super.specs.Headers.{agfl_entry, list_capacity, used_entries}
use Rattle.xfs_super.proofs.agfl.used_of.Goals as goal

pub returns-clause-inside : goal.returns-clause-inside
unfolding used_entries
returns-clause-inside c =
    let bytes : List ℕ = c.args.bytes.now in
    let used : List ℕ = used_entries c.args.agf.now bytes in
    let many : length used ≡ c.args.agf.now.flcount = length-map-range_with_len (λ i. agfl_entry bytes ((c.args.agf.now.flfirst + i) % list_capacity (length bytes))) 0 c.args.agf.now.flcount in
    let whole : take c.loop-i.i used ≡ used = take_all c.loop-i.i used (omega arith) in
    ap (list_all (λ block. nat_lt block (group_len (geometry_of c.args.geo.now) c.args.group))) (sym whole) ∙ c.loop-i.invariant
