-- The boot code is left out of the head.
use Rattle.std.proofs.Common.{◌≡◌, ◌++◌, ◌∙◌, ℕ, arith, sym, ap, drop, replicate, List}
use Rattle.std.proofs.lemmas.List.{length-take-le}
use Rattle.resize_core.specs.Contents.{head_for}
use Rattle.resize_core.proofs.planning.head_for.Goals as goal

pub slice_bounds-copy_from_slice-end : goal.slice_bounds-copy_from_slice-end
slice_bounds-copy_from_slice-end c = sym (length-take-le 440 c.args.head.now (omega (arith, c.told-head)))

pub copy_from_slice-requires : goal.copy_from_slice-requires
copy_from_slice-requires c = length-take-le 440 c.args.head.now (omega (arith, c.told-head))

pub returns : goal.returns
returns c =
    let zeros : c.copy_from_slice.new.self ≡ replicate 440 0 = c.copy_from_slice.ensures.after in
    ap (λ (front : List ℕ). front ++ drop 440 c.args.head.now) zeros ∙ ap (λ b. head_for b c.args.head.now) (sym c.if-boot.false)
