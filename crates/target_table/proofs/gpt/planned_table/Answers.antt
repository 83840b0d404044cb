use Rattle.std.proofs.Common.{rules, ◌≡◌, ℕ, ◌-◌, ◌∙◌, List, ap, sym, subst, slice_set, IfSome, Option, Some, None}
use Rattle.layout_plan.specs.declared.part.Placed.{Placed}
use Rattle.gpt_table.specs.declared.entry.Entry.{Entry}
use Rattle.gpt_table.specs.Gpt.{EntryTable}
use Rattle.target_table.specs.Entries.{extra_entry, extra_id, extra_in, fresh_id, kept_entries, planned_entries}
use Rattle.target_table.specs.inside.Entering.{IsEnteredBeside}
use Rattle.target_table.proofs.Entering.{all_kept, extra_beside, table_is}
use Rattle.target_table.proofs.gpt.planned_table.Goals as goal

pub returns-in_default : goal.returns-in_default
returns-in_default c =
    let disk = c.args.gpt.now.disk in
    let entries = c.args.gpt.now.entries in
    let plan = c.args.planned.now in
    let kept = c.in_ok-made.ensures in
    let none : plan.extra ≡ None = search rules in
    table_is c.in_ok-made.made disk (planned_entries disk entries plan) (ap (λ (t : EntryTable). t.disk) kept)
    (ap (λ (t : EntryTable). t.entries) kept ∙ all_kept disk entries plan none) (ap (λ (t : EntryTable). t.from_backup) kept)

pub returns : goal.returns
returns c =
    let disk = c.args.gpt.now.disk in
    let entries = c.args.gpt.now.entries in
    let plan = c.args.planned.now in
    let extra = c.in-Some.extra in
    let kept = c.in_ok-made.ensures in
    let is : plan.extra ≡ Some extra = sym c.extra.ensures ∙ c.in-Some.is in
    let Beside : Option Placed → Type 0 = λ o. IfSome o (IsEnteredBeside plan) in
    let beside : IsEnteredBeside plan extra = subst Beside is c.requires.extra in
    let id : c.fresh_id-id.result ≡ extra_id disk entries plan =
    c.fresh_id-id.ensures ∙ ap (λ (t : EntryTable). fresh_id 128 t.entries (extra_in t.disk)) kept in
    let entry : c.extra_entry.result ≡ extra_entry (extra_id disk entries plan) extra = c.extra_entry.ensures ∙ ap (λ (i : List ℕ). extra_entry i extra) id in
    let set = c.set.ensures in
    table_is c.set.new.self disk (planned_entries disk entries plan)
    (ap (λ (t : EntryTable). t.disk) set ∙ ap (λ (t : EntryTable). t.disk) kept)
    (ap (λ (t : EntryTable). t.entries) set
    ∙ ap (λ (t : EntryTable). slice_set t.entries (extra.number - 1) (Some c.extra_entry.result)) kept
    ∙ ap (λ (e : Entry). slice_set (kept_entries entries plan) (extra.number - 1) (Some e)) entry
    ∙ extra_beside disk entries plan extra is beside.enterable.counted beside.own_number)
    (ap (λ (t : EntryTable). t.from_backup) set ∙ ap (λ (t : EntryTable). t.from_backup) kept)
