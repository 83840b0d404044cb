use Rattle.std.proofs.Common.{ℕ, ◌+◌, ◌%◌, length, sym, ◌∙◌, arith}
use Rattle.std.proofs.lemmas.List.FromFn.{get_or-map-range_with_len}
use Rattle.xfs_super.specs.Headers.{agfl_entry, list_capacity, used_entries}
use Rattle.xfs_super.proofs.agfl.used_entry.Goals as goal

pub returns : goal.returns
unfolding used_entries
returns c =
    let entry = λ (i : ℕ). agfl_entry c.args.bytes.now ((c.args.agf.now.flfirst + i) % list_capacity (length c.args.bytes.now)) in
    c.agfl_entry.ensures ∙ sym (get_or-map-range_with_len entry 0 c.args.agf.now.flcount c.args.i c.args.i 0 c.requires.used (omega arith))
