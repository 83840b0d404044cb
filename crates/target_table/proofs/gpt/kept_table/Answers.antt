use Rattle.std.proofs.Common.{◌∙◌, ap, arith, sym, length, slice_index_or, [], Option, None}
use Rattle.std.proofs.lemmas.List.{length-replicate}
use Rattle.gpt_table.specs.declared.entry.Entry.{Entry}
use Rattle.gpt_table.specs.Gpt.{EntryTable}
use Rattle.target_table.specs.Entries.{kept_entries, without_extra}
use Rattle.target_table.proofs.Entering.{length-target, none_used, same_entries, table_is, target_at}
use Rattle.target_table.proofs.gpt.kept_table.Goals as goal

pub loop-index-init : goal.loop-index-init
loop-index-init c =
    let new = c.in_ok-made.ensures in
    record {
      disk = ap (λ (t : EntryTable). t.disk) new ∙ c.disk.ensures;
      own = ap (λ (t : EntryTable). t.from_backup) new;
      count = ap (λ (t : EntryTable). length t.entries) new ∙ length-replicate {A = Option Entry} 128 None;
      done = λ k h. absurd (omega arith);
      rest = λ k h. ap (λ (t : EntryTable). slice_index_or t.entries k None) new ∙ none_used k;
    }

pub returns : goal.returns
returns c =
    let before = c.loop-index.invariant in
    let plan = c.args.planned.now in
    let entries = c.args.gpt.now.entries in
    table_is c.loop-index.made c.args.gpt.now.disk (kept_entries entries plan) before.disk
    (same_entries c.loop-index.made.entries (kept_entries entries plan) before.count (length-target [] entries (without_extra plan))
    (λ k h. before.done k (omega arith) ∙ sym (target_at [] entries (without_extra plan) k None h)))
    before.own
