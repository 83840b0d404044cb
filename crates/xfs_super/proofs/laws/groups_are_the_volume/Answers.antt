use Rattle.xfs_super.proofs.Lying.{group_is_whole, group_has_blocks, group_lies_inside, block_has_group}
use Rattle.xfs_super.proofs.laws.groups_are_the_volume.Goals as goal

pub returns : goal.returns
returns c = λ d a n k g. record {
  some = λ group. group_has_blocks d a n k group g;
  inside = λ group. group_lies_inside d a n k group g;
  whole = λ group. group_is_whole d a n k group g;
  all = λ block. block_has_group d a n k block g;
}
