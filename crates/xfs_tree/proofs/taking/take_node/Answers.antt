use Rattle.std.proofs.Common.{◌≡◌, ℕ, ◌<◌, ◌≤◌, ◌-◌, List, ◌++◌, length, map, take, drop, sym, ap, subst, ◌∙◌}
use Rattle.std.proofs.lemmas.List.Elements.{All-append}
use Rattle.std.proofs.lemmas.Result.{err_from_is_err_and}
use Rattle.xfs_super.specs.Super.{geometry_of}
use Rattle.xfs_tree.specs.inside.Rows.{setting_of_row}
use Rattle.xfs_tree.specs.Form.{Setting}
use Rattle.disk_base.specs.Memory.{true_is_not_false}
use Rattle.xfs_tree.specs.Block.{count_in, node_capacity, Sight, block_seen, children, pointers, leads_to}
use Rattle.xfs_tree.specs.Marks.{marked}
use Rattle.block_claims.specs.Agreement.{Claimed}
use Rattle.xfs_tree.specs.inside.Reading.{AreInVolume}
use Rattle.xfs_tree.proofs.Blocks.{pushed_slice, leads_all, children_are, spells_judged, claim_node_fault, sound_node, keys_out, room_in_node}
use Rattle.xfs_tree.proofs.taking.take_node.Goals as goal

pub returns-then-not-have_rising_keys-clause-fault : goal.returns-then-not-have_rising_keys-clause-fault
returns-then-not-have_rising_keys-clause-fault g c = (
  (c.place_of-place.ensures.group, c.place_of-place.ensures.block),
  keys_out g.R.Record.form c.args.row.now.height c.args.bytes.now c.requires.node (λ rise. true_is_not_false (sym (c.have_rising_keys.ensures.1 rise) ∙ c.if-not-have_rising_keys.true)),
)

pub push_children-requires-clause-room : goal.push_children-requires-clause-room
push_children-requires-clause-room g c =
    subst (λ (n : ℕ). n ≤ node_capacity g.R.Record.form) (sym c.in_ok-count.ensures.judged.count_is)
    (room_in_node g.R.Record.form c.args.row.now.height (count_in c.args.bytes.now) c.requires.node c.in_ok-count.ensures.judged.room)

pub returns-in_err-push_children-clause-fault : goal.returns-in_err-push_children-clause-fault
returns-in_err-push_children-clause-fault g c =
    let p = err_from_is_err_and c.from_residual-in_err-push_children.result c.from_residual-in_err-push_children.ensures.1 in
    rw (p.1, p.2) (c.in_err-push_children.ensures.fault (marked c.args.row.now.geo.agblocks (g.M.Mark.claimed c.args.marks.now)))

pub claim_all-requires-clause-inside : goal.claim_all-requires-clause-inside
claim_all-requires-clause-inside g c =
    let t : Setting g.row.R.Denot = setting_of_row g.R.Record.form c.args.row.now in
    let xs : List ℕ = map (leads_to t) (pointers g.R.Record.form c.args.bytes.now) in
    subst (λ (l : List ℕ). AreInVolume (geometry_of c.args.row.now.geo) l) (sym (pushed_slice c.args.below.now.items xs c.push_children.new.below.items c.deref.result.now (length c.as_slice-start.result.now) c.in_ok-push_children.ensures.children c.deref.ensures.value (ap (λ (l : List ℕ). length l) c.as_slice-start.ensures.value)))
    (leads_all t (geometry_of c.args.row.now.geo) (pointers g.R.Record.form c.args.bytes.now) c.in_ok-push_children.ensures.inside)

pub returns-in_err-claim_all-clause-fault : goal.returns-in_err-claim_all-clause-fault
returns-in_err-claim_all-clause-fault g c =
    let p = err_from_is_err_and c.from_residual-in_err-claim_all.result c.from_residual-in_err-claim_all.ensures.1 in
    let t : Setting g.row.R.Denot = setting_of_row g.R.Record.form c.args.row.now in
    let s : Sight = block_seen c.args.row.now.height c.args.row.now.least c.args.at c.args.bytes.now in
    let xs : List ℕ = map (leads_to t) (pointers g.R.Record.form c.args.bytes.now) in
    let lent : take (length c.deref.result.now - length c.as_slice-start.result.now) (drop (length c.as_slice-start.result.now) c.deref.result.now) ≡ xs =
    pushed_slice c.args.below.now.items xs c.push_children.new.below.items c.deref.result.now (length c.as_slice-start.result.now) c.in_ok-push_children.ensures.children c.deref.ensures.value (ap (λ (l : List ℕ). length l) c.as_slice-start.ensures.value) in
    let kids : children t s ≡ xs = children_are t (geometry_of c.args.row.now.geo) s (spells_judged t s c.in_ok-count.count c.in_ok-count.ensures.judged) c.in_ok-push_children.ensures.inside in
    rw (p.1, p.2) (claim_node_fault t (geometry_of c.args.row.now.geo) s (marked c.args.row.now.geo.agblocks (g.M.Mark.claimed c.args.marks.now)) (take (length c.deref.result.now - length c.as_slice-start.result.now) (drop (length c.as_slice-start.result.now) c.deref.result.now)) _ (lent ∙ sym kids) c.in_err-claim_all.ensures.fault)

pub returns-clause-node : goal.returns-clause-node
returns-clause-node g c =
    let t : Setting g.row.R.Denot = setting_of_row g.R.Record.form c.args.row.now in
    let s : Sight = block_seen c.args.row.now.height c.args.row.now.least c.args.at c.args.bytes.now in
    let xs : List ℕ = map (leads_to t) (pointers g.R.Record.form c.args.bytes.now) in
    let old : ℕ → ℕ = marked c.args.row.now.geo.agblocks (g.M.Mark.claimed c.args.marks.now) in
    let new : ℕ → ℕ = marked c.args.row.now.geo.agblocks (g.M.Mark.claimed c.claim_all.new.marks) in
    let lent : take (length c.deref.result.now - length c.as_slice-start.result.now) (drop (length c.as_slice-start.result.now) c.deref.result.now) ≡ xs =
    pushed_slice c.args.below.now.items xs c.push_children.new.below.items c.deref.result.now (length c.as_slice-start.result.now) c.in_ok-push_children.ensures.children c.deref.ensures.value (ap (λ (l : List ℕ). length l) c.as_slice-start.ensures.value) in
    let kids : children t s ≡ xs = children_are t (geometry_of c.args.row.now.geo) s (spells_judged t s c.in_ok-count.count c.in_ok-count.ensures.judged) c.in_ok-push_children.ensures.inside in
    record {
      sound = sound_node t (geometry_of c.args.row.now.geo) c.args.row.now.height c.args.row.now.least c.args.at c.args.bytes.now c.in_ok-count.count c.requires.node c.in_ok-count.ensures.judged (c.have_rising_keys.ensures.0 c.if-not-have_rising_keys.false) c.in_ok-push_children.ensures.inside;
      children_are = c.in_ok-push_children.ensures.children ∙ ap (λ (l : List ℕ). c.args.below.now.items ++ l) (sym kids);
      claimed = subst (λ (l : List ℕ). Claimed old l new) (lent ∙ sym kids) c.in_ok-claim_all.ensures.claimed;
    }

pub returns-clause-inside : goal.returns-clause-inside
returns-clause-inside g c =
    λ before.
    let t : Setting g.row.R.Denot = setting_of_row g.R.Record.form c.args.row.now in
    let xs : List ℕ = map (leads_to t) (pointers g.R.Record.form c.args.bytes.now) in
    subst (λ (l : List ℕ). AreInVolume (geometry_of c.args.row.now.geo) l) (sym c.in_ok-push_children.ensures.children)
    (All-append (λ (n : ℕ). n < (geometry_of c.args.row.now.geo).dblocks) c.args.below.now.items xs before (leads_all t (geometry_of c.args.row.now.geo) (pointers g.R.Record.form c.args.bytes.now) c.in_ok-push_children.ensures.inside))
