-- Going through what was found, partition by partition.
use Rattle.std.specs.Prelude.{◌≡◌, List, ◌∷◌}
use Rattle.group_content.specs.declared.types.FoundPartition.{FoundPartition}
use Rattle.group_content.specs.declared.types.Standing.{Standing}
use Rattle.layout_plan.specs.declared.part.Role.{Role}
use Rattle.guest_view.specs.declared.content.Content.{Content}
use Rattle.guest_view.specs.Contents.{content_by}

-- what the first of them holds, and what is left
pub record IsNextContent (role : Role) (found found' : List FoundPartition) (standings standings' : List Standing) (content : Content) : Type 0 where
  pub one : FoundPartition
  pub standing : Standing
  pub found_is : found ≡ one ∷ found'
  pub standings_are : standings ≡ standing ∷ standings'
  pub content_is : content ≡ content_by role one.found standing
