use Rattle.std.proofs.Common.{◌≡◌, ◌++◌, drop}
use Rattle.resize_core.specs.Contents.{content_transfers}
use Rattle.resize_core.proofs.copied.contents.Given as goal

abbrev pub invariant-loop-part : goal.invariant-loop-part
invariant-loop-part l =
    l.transfers.items ++ content_transfers l.sparse l.planned (drop l.part-index l.parts) ≡ content_transfers l.sparse l.planned l.parts
