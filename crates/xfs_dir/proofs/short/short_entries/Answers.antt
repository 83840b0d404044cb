use Rattle.std.proofs.Common.{◌≡◌, ℕ, ◌+◌, ◌≤◌, List, ap, sym, ◌∙◌, arith, true, length}
use Rattle.std.proofs.lemmas.Bool.{eqb-true, eqb-false, le-leb}
use Rattle.xfs_dir.specs.Short.{inumber_width, has_wide_inumbers, short_head_len, has_short_head}
use Rattle.xfs_dir.proofs.Shorts.{short_passed_on, at_head, short_cut, short_over, short_spelled}
use Rattle.xfs_dir.proofs.short.short_entries.Goals as goal

head_is : (bytes : List ℕ) (w : ℕ) → w ≡ inumber_width (has_wide_inumbers bytes) → 2 + w ≤ length bytes → (2 + w ≡ short_head_len bytes) × (has_short_head bytes ≡ true)
head_is bytes w e h = (ap (λ (n : ℕ). 2 + n) e, le-leb _ _ (omega (arith, e, h)))

pub loop-k-preserved : goal.loop-k-preserved
loop-k-preserved c = short_passed_on (has_wide_inumbers c.args.bytes.now) (2 + c.inumber_width-head.result) c.behind-items.result.now c.loop-k._k c.loop-k.at c.loop-k.rest.now c.in-Some.len c.behind-rest.result.now c.loop-k.invariant c.in-Some.ensures c.behind-rest.ensures

pub returns-in_default-clause-fault : goal.returns-in_default-clause-fault
returns-in_default-clause-fault c =
    let bytes = c.args.bytes.now in
    let h = head_is bytes c.inumber_width-head.result c.inumber_width-head.ensures.width c.if-bytes-head.false in
    let p = at_head bytes (2 + c.inumber_width-head.result) c.behind-items.result.now c.loop-k._k c.loop-k.at c.loop-k.rest.now h.0 c.behind-items.ensures c.loop-k.invariant in
    short_cut bytes c.loop-k._k c.loop-k.at c.loop-k.rest.now h.1 p (omega (arith, c.loop-k-test.true, c.from-count.ensures)) c.in_default.ensures

pub returns-then-not-is_empty-clause-fault : goal.returns-then-not-is_empty-clause-fault
returns-then-not-is_empty-clause-fault c =
    let bytes = c.args.bytes.now in
    let h = head_is bytes c.inumber_width-head.result c.inumber_width-head.ensures.width c.if-bytes-head.false in
    let p = at_head bytes (2 + c.inumber_width-head.result) c.behind-items.result.now c.loop-k._k c.loop-k.at c.loop-k.rest.now h.0 c.behind-items.ensures c.loop-k.invariant in
    let some = eqb-false _ _ (sym c.is_empty.ensures ∙ c.if-not-is_empty.true) in
    short_over bytes c.loop-k._k c.loop-k.at c.loop-k.rest.now h.1 p (omega (arith, c.loop-k-test.false, c.loop-k.auto._k-end, c.from-count.ensures)) (omega (arith, some))

pub returns-clause-spelled : goal.returns-clause-spelled
returns-clause-spelled c =
    let bytes = c.args.bytes.now in
    let h = head_is bytes c.inumber_width-head.result c.inumber_width-head.ensures.width c.if-bytes-head.false in
    let p = at_head bytes (2 + c.inumber_width-head.result) c.behind-items.result.now c.loop-k._k c.loop-k.at c.loop-k.rest.now h.0 c.behind-items.ensures c.loop-k.invariant in
    short_spelled bytes c.loop-k._k c.loop-k.at c.loop-k.rest.now h.1 p (omega (arith, c.loop-k-test.false, c.loop-k.auto._k-end, c.from-count.ensures)) (eqb-true _ _ (sym c.is_empty.ensures ∙ c.if-not-is_empty.false))
