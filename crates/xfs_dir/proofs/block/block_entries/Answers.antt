use Rattle.std.proofs.Common.{◌≡◌, ℕ, ◌-◌, List, sym, ap, ◌∙◌, subst, arith, inr}
use Rattle.xfs_dir.specs.Item.{SpellsItems, IsFirstUnspelled}
use Rattle.xfs_dir.specs.Scan.{dir_items_in}
use Rattle.xfs_dir.specs.Block.{items_end, item_area}
use Rattle.xfs_dir.proofs.Lists.{passed_none, passed_on, spelled_at_end, unspelled_at_end}
use Rattle.std.proofs.lemmas.Bool.{eqb-true, eqb-false}
use Rattle.disk_base.specs.Image.{bytes_at}
use Rattle.xfs_dir.proofs.block.block_entries.Goals as goal

pub loop-len-init : goal.loop-len-init
loop-len-init c = passed_none 64 c.part-items.result.now

pub loop-len-preserved : goal.loop-len-preserved
loop-len-preserved c = passed_on 64 c.part-items.result.now c.loop-len.at c.loop-len.rest.now c.in-Some-item_in.len c.behind-rest.result.now c.loop-len.invariant c.in-Some-item_in.ensures c.behind-rest.ensures

area_is : (bytes items : List ℕ) (end : ℕ) → items ≡ bytes_at bytes 64 (end - 64) → end ≡ items_end bytes → items ≡ item_area bytes
area_is bytes items end e h = e ∙ ap (λ (k : ℕ). bytes_at bytes 64 (k - 64)) h

pub returns-clause-spelled : goal.returns-clause-spelled
returns-clause-spelled c =
    let area = area_is c.args.bytes.now c.part-items.result.now c.in-Some.end c.part-items.ensures c.in-Some.ensures.block.1 in
    let all = spelled_at_end 64 c.part-items.result.now c.loop-len.at c.loop-len.rest.now c.loop-len.invariant (eqb-true _ _ (sym c.is_empty.ensures ∙ c.if-not-is_empty.false)) in
    record { block = c.in-Some.ensures.block.0; spelled = subst (λ (ys : List ℕ). SpellsItems 64 ys (dir_items_in 64 ys)) area all }

pub returns-then-not-is_empty-clause-fault : goal.returns-then-not-is_empty-clause-fault
returns-then-not-is_empty-clause-fault c =
    let area = area_is c.args.bytes.now c.part-items.result.now c.in-Some.end c.part-items.ensures c.in-Some.ensures.block.1 in
    let some = eqb-false _ _ (sym c.is_empty.ensures ∙ c.if-not-is_empty.true) in
    let first = unspelled_at_end 64 c.part-items.result.now c.loop-len.at c.loop-len.rest.now c.loop-len.invariant (omega (arith, some)) c.in_default-item_in.ensures in
    inr (c.in-Some.ensures.block.0, subst (λ (ys : List ℕ). IsFirstUnspelled 64 ys c.loop-len.at) area first)
