use Rattle.std.proofs.Common.{◌≡◌, ℕ, ◌+◌, List, [], ◌∷◌, ◌∙◌, ap, sym, arith, get_or}
use Rattle.xfs_dir.specs.Item.{item_entries, DirectoryEntry}
use Rattle.xfs_dir.proofs.Items.{front, first_unused, first_used, inside_used}
use Rattle.disk_base.specs.Image.{bytes_at}
use Rattle.xfs_dir.proofs.Fields.{field_of_part}
use Rattle.xfs_dir.proofs.item.entry_in.Goals as goal

abbrev entry : List ℕ → ℕ → ℕ → List DirectoryEntry
entry name ino ftype = record { name = name; ino = ino; ftype = ftype } ∷ []

same_entry : {a d : List ℕ} {b c e f : ℕ} → a ≡ d → b ≡ e → c ≡ f → entry a b c ≡ entry d e f
same_entry {a} {d} {b} {c} {e} {f} p q r = ap (λ (x : List ℕ). entry x b c) p ∙ ap (λ (x : ℕ). entry d x c) q ∙ ap (λ (x : ℕ). entry d e x) r

pub is_unused_item-requires : goal.is_unused_item-requires
is_unused_item-requires c = let f = front c.args.at c.args.rest.now c.requires in omega (arith, f.big, f.inside)

pub returns-then-is_unused_item : goal.returns-then-is_unused_item
returns-then-is_unused_item c = ap item_entries (first_unused c.args.rest.now (sym c.is_unused_item.ensures ∙ c.if-is_unused_item.true))

pub part-requires-clause-inside : goal.part-requires-clause-inside
part-requires-clause-inside c = let f = inside_used c.args.at c.args.rest.now c.requires (sym c.is_unused_item.ensures ∙ c.if-is_unused_item.false) in omega (arith, f, c.item_name_len-len.ensures.long)

pub big_u64-requires : goal.big_u64-requires
big_u64-requires c = let f = inside_used c.args.at c.args.rest.now c.requires (sym c.is_unused_item.ensures ∙ c.if-is_unused_item.false) in omega (arith, f)

pub bounds-rest-len : goal.bounds-rest-len
bounds-rest-len c = let f = inside_used c.args.at c.args.rest.now c.requires (sym c.is_unused_item.ensures ∙ c.if-is_unused_item.false) in omega (arith, f, c.item_name_len-len.ensures.long)

pub returns : goal.returns
returns c =
    let rest = c.args.rest.now in
    ap item_entries (first_used rest (sym c.is_unused_item.ensures ∙ c.if-is_unused_item.false))
    ∙ same_entry (ap (λ (k : ℕ). bytes_at rest 9 k) (sym c.item_name_len-len.ensures.long) ∙ sym (c.part.ensures ∙ ap (λ (k : ℕ). bytes_at rest 9 k) (omega arith))) (field_of_part 8 rest 0 ∙ sym c.big_u64.ensures)
    (ap (λ (k : ℕ). get_or rest (k + 9) 0) (sym c.item_name_len-len.ensures.long))
