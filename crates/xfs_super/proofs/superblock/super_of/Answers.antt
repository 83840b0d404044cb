use Rattle.std.proofs.Common.{sym, ◌∙◌}
use Rattle.xfs_super.proofs.Laid.{laid_from_tests}
use Rattle.xfs_super.proofs.superblock.super_of.Goals as goal

pub to_super-requires : goal.to_super-requires
to_super-requires c =
    laid_from_tests c.superblock_in-fields.result c.in_ok-judge_start.ensures.sizes (sym c.has_places.ensures ∙ c.if-not-has_places.false)
