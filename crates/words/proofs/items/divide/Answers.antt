use Rattle.std.proofs.Common.{◌≡◌, ◌+◌, map, drop, slice_get, string_bytes, [], ◌∷◌, ◌++◌, ap, sym, ◌∙◌, append_assoc, append-nil}
use Rattle.words.proofs.Division.{items_step, none_behind}
use Rattle.words.specs.Items.{item_at, items_of}
use Rattle.words.proofs.items.divide.Goals as goal

pub loop-word-preserved : goal.loop-word-preserved
loop-word-preserved c =
    let l = c.loop-word in
    let words = map string_bytes c.args.words.now in
    let step = items_step c.args.tool l.ended l.at words l.at c.in-Some.word.now (sym c.in-Some.ensures) in
    let same : c.in_ok-item.item ≡ item_at c.args.tool l.ended l.at c.in-Some.word.now (slice_get words (l.at + 1)) = c.in_ok-item.ensures ∙ ap (item_at c.args.tool l.ended l.at c.in-Some.word.now) c.word_at-in-Some.ensures in
    let behind : c.in_ok-item.item ∷ items_of c.args.tool c.is_over-ended.result (l.at + c.count_words-at.result) (drop (l.at + c.count_words-at.result) words) ≡ items_of c.args.tool l.ended l.at (drop l.at words) = cc (step, same, c.is_over-ended.ensures, c.count_words-at.ensures.value) in
    ap (λ items. items ++ items_of c.args.tool c.is_over-ended.result (l.at + c.count_words-at.result) (drop (l.at + c.count_words-at.result) words)) c.in_ok-push.ensures.items
    ∙ append_assoc l.items.items (c.in_ok-item.item ∷ []) _
    ∙ ap (λ items. l.items.items ++ items) behind
    ∙ l.invariant

pub returns : goal.returns
returns c =
    let l = c.loop-word in
    let words = map string_bytes c.args.words.now in
    sym (append-nil l.items.items)
    ∙ sym (ap (λ items. l.items.items ++ items) (none_behind c.args.tool l.ended l.at words l.at c.in_default.ensures))
    ∙ l.invariant
