use Rattle.std.proofs.Common.{◌∙◌, ◌++◌, ◌∷◌, [], List, ap, sym, arith}
use Rattle.std.proofs.lemmas.List.FromFn.{map-range_with_len_more}
use Rattle.xfs_tree.specs.declared.extent.Extent.{Extent}
use Rattle.xfs_inode.specs.Extents.{listed_extent, listed_extents}
use Rattle.xfs_inode.proofs.extent.listed_extents.Goals as goal

pub loop-k-preserved : goal.loop-k-preserved
loop-k-preserved c =
    let fork = c.args.fork.now in
    c.in_ok-push.ensures.ok ∙ ap (λ (es : List Extent). es ++ c.listed_extent.result ∷ []) c.loop-k.invariant
    ∙ ap (λ (e : Extent). listed_extents fork c.loop-k.k ++ e ∷ []) c.listed_extent.ensures
    ∙ sym (map-range_with_len_more (listed_extent fork) 0 c.loop-k.k c.loop-k.k (omega arith))
