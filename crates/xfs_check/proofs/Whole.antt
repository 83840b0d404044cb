-- A group that is judged as a whole, and groups one after the other.
use Rattle.std.proofs.Common.{◌≡◌, ℕ, ◌+◌, ◌-◌, ◌<◌, Bool, ◌||◌, ◌==◌, List, [], ◌∷◌, ◌++◌, map, inl, inr, refl, sym, ap, ◌∙◌, subst, arith}
use Rattle.std.specs.List.{Contains, range_with_len}
use Rattle.std.proofs.lemmas.Grind.{flat_map-append}
use Rattle.std.proofs.lemmas.List.{append-nil, map-append}
use Rattle.std.proofs.lemmas.List.Elements.{All-append, All-cons, All-nil, Contains-append_left, Contains-append_right}
use Rattle.std.proofs.lemmas.List.Folds.{list_any-append}
use Rattle.std.proofs.lemmas.List.FromFn.{map-range_with_len_more}
use Rattle.xfs_alloc.specs.Free.{IsFreeSpace}
use Rattle.xfs_alloc.specs.FreeSpace.{FreeSpace, free_space}
use Rattle.xfs_check.proofs.Steps.{refused_first, refused_then, taken_none, taken_on}
use Rattle.xfs_check.specs.Parts.{Part, chunk_parts, group_parts, groups_parts, inodes_parts, space_parts}
use Rattle.xfs_check.specs.Seen.{GroupHead, SeenGroup, agf_seen, agi_seen, group_of, group_seen, inodes_of_group, inodes_of_groups}
use Rattle.xfs_check.specs.Valid.{AreSoundInodeTrees, HasBadGroup, HasBadInode, IsSoundGroup, IsSoundHead, SpeaksAgainstGroup, SpeaksAgainstInodes, SpeaksAgainstSpace, has_root, unclaimed}
use Rattle.xfs_check.specs.Volume.{GroupSpace, group_space}
use Rattle.xfs_check.specs.inside.Grouping.{AreGroupsChecked, AreGroupsRefused}
use Rattle.xfs_check.specs.inside.Reading.{HasHeadFault, inodes_of_chunks}
use Rattle.xfs_check.specs.inside.Steps.{AreChecked, AreRefused, AreTaken, IsStepRefused}
use Rattle.xfs_inode.specs.Chunks.{tree_chunks}
use Rattle.xfs_inode.specs.Seen.{SeenInode}
use Rattle.xfs_super.specs.Geometry.{Geometry}
use Rattle.xfs_super.specs.declared.agf.Agf.{Agf}
use Rattle.xfs_super.specs.declared.agi.Agi.{Agi}
use Rattle.xfs_super.specs.declared.reason.CheckFault.{CheckFault}
use Rattle.xfs_super.specs.declared.reason.CheckFault.TheVariants as check
use Rattle.xfs_super.specs.declared.reason.Reason.{Reason}
use Rattle.xfs_tree.proofs.Levels.{run_at}

stands_alone : (x : SeenGroup) → Contains (x ∷ []) x
stands_alone x = (0, omega arith, refl)

-- ---- one group

module _ (geo : Geometry) (x : SeenGroup) (old : ℕ → ℕ) where
  bad_alone : (reason : Reason) → SpeaksAgainstGroup geo x reason → HasBadGroup geo (x ∷ []) reason
  bad_alone reason due = record { group = x; stands = stands_alone x; refused = due }

  refused_alone : (fault : CheckFault) → IsStepRefused (HasBadGroup geo (x ∷ [])) geo (group_parts geo x) old fault → AreGroupsRefused geo (x ∷ []) old fault
  refused_alone fault due = subst (λ (l : List Part). IsStepRefused (HasBadGroup geo (x ∷ [])) geo l old fault) (sym (append-nil (group_parts geo x))) due

  pub head_refused : (fault : CheckFault) → HasHeadFault geo x.number x.head fault → AreGroupsRefused geo (x ∷ []) old fault
  head_refused (check.Bad reason) due = inl (bad_alone reason (inl due))
  head_refused check.Device due = tt
  head_refused check.Memory due = absurd due

  pub space_refused : (fault : CheckFault) → IsStepRefused (SpeaksAgainstSpace geo x) geo (space_parts x) old fault → AreGroupsRefused geo (x ∷ []) old fault
  space_refused fault due =
      refused_alone fault (refused_first geo old (space_parts x) (SpeaksAgainstSpace geo x) (HasBadGroup geo (x ∷ [])) (chunk_parts x ++ inodes_parts geo (inodes_of_group x)) fault (λ r h. bad_alone r (inr (inl h))) due)

  module _ (one : ℕ → ℕ) (space : AreTaken geo (space_parts x) old one) where
    pub trees_refused : (fault : CheckFault) → IsStepRefused (SpeaksAgainstInodes geo x) geo (chunk_parts x) one fault → AreGroupsRefused geo (x ∷ []) old fault
    trees_refused fault due =
        refused_alone fault
        (refused_then geo old one (space_parts x) (SpeaksAgainstInodes geo x) (HasBadGroup geo (x ∷ [])) (chunk_parts x ++ inodes_parts geo (inodes_of_group x)) fault space (λ r h. bad_alone r (inr (inr h)))
        (refused_first geo one (chunk_parts x) (SpeaksAgainstInodes geo x) (SpeaksAgainstInodes geo x) (inodes_parts geo (inodes_of_group x)) fault (λ r h. h) due))

    bad_inode : IsSoundHead geo x.number x.head → AreSoundInodeTrees geo x → (reason : Reason) → HasBadInode geo (inodes_of_group x) reason → SpeaksAgainstInodes geo x reason
    bad_inode sound trees reason due = (sound.agi, inr (inr (trees, due)))

    pub inodes_refused : (two : ℕ → ℕ) (fault : CheckFault) → IsSoundHead geo x.number x.head → AreSoundInodeTrees geo x → AreTaken geo (chunk_parts x) one two → AreRefused geo (inodes_of_group x) two fault → AreGroupsRefused geo (x ∷ []) old fault
    inodes_refused two fault sound trees chunks due =
        refused_alone fault
        (refused_then geo old one (space_parts x) (SpeaksAgainstInodes geo x) (HasBadGroup geo (x ∷ [])) (chunk_parts x ++ inodes_parts geo (inodes_of_group x)) fault space (λ r h. bad_alone r (inr (inr h)))
        (refused_then geo one two (chunk_parts x) (HasBadInode geo (inodes_of_group x)) (SpeaksAgainstInodes geo x) (inodes_parts geo (inodes_of_group x)) fault chunks (bad_inode sound trees) due))

    pub group_checked : (two new : ℕ → ℕ) → IsSoundHead geo x.number x.head → IsFreeSpace geo x.number (agf_seen x.head) x.free unclaimed → AreSoundInodeTrees geo x → AreTaken geo (chunk_parts x) one two
        → AreChecked geo (inodes_of_group x) two new → AreGroupsChecked geo (x ∷ []) old new
    group_checked two new sound free trees chunks inodes = record {
      sound = All-cons (IsSoundGroup geo) x [] (record { head = sound; free = free; trees = trees; inodes = inodes.sound }) (All-nil (IsSoundGroup geo));
      taken = subst (λ (l : List Part). AreTaken geo l old new) (sym (append-nil (group_parts geo x)))
          (taken_on geo old one (space_parts x) new (chunk_parts x ++ inodes_parts geo (inodes_of_group x)) space (taken_on geo one two (chunk_parts x) new (inodes_parts geo (inodes_of_group x)) chunks inodes.taken));
    }

-- what a group that is seen has
pub number_of_group : (geo : Geometry) (volume : ℕ → List ℕ) (group : ℕ) (head : GroupHead) → (group_of geo volume group head).number ≡ group
unfolding group_of
number_of_group geo volume group head = refl

pub head_of_group : (geo : Geometry) (volume : ℕ → List ℕ) (group : ℕ) (head : GroupHead) → (group_of geo volume group head).head ≡ head
unfolding group_of
head_of_group geo volume group head = refl

pub inodes_are : (geo : Geometry) (volume : ℕ → List ℕ) (group : ℕ) (head : GroupHead)
    → inodes_of_chunks geo volume group (tree_chunks geo group (group_of geo volume group head).inode_levels) ≡ inodes_of_group (group_of geo volume group head)
unfolding group_of
inodes_are geo volume group head = refl

-- ---- groups, one after the other

pub groups_none : (geo : Geometry) (old : ℕ → ℕ) → AreGroupsChecked geo [] old old
groups_none geo old = record { sound = All-nil (IsSoundGroup geo); taken = taken_none geo old }

pub groups_on : (geo : Geometry) (old mid new : ℕ → ℕ) (xs ys : List SeenGroup) → AreGroupsChecked geo xs old mid → AreGroupsChecked geo ys mid new → AreGroupsChecked geo (xs ++ ys) old new
groups_on geo old mid new xs ys p q = record {
  sound = All-append (IsSoundGroup geo) xs ys p.sound q.sound;
  taken = subst (λ (l : List Part). AreTaken geo l old new) (sym (flat_map-append (group_parts geo) xs ys)) (taken_on geo old mid (groups_parts geo xs) new (groups_parts geo ys) p.taken q.taken);
}

bad_left : (geo : Geometry) (xs ys : List SeenGroup) (reason : Reason) → HasBadGroup geo xs reason → HasBadGroup geo (xs ++ ys) reason
bad_left geo xs ys reason bad = record { group = bad.group; stands = Contains-append_left xs ys bad.group bad.stands; refused = bad.refused }

bad_right : (geo : Geometry) (xs ys : List SeenGroup) (reason : Reason) → HasBadGroup geo ys reason → HasBadGroup geo (xs ++ ys) reason
bad_right geo xs ys reason bad = record { group = bad.group; stands = Contains-append_right xs ys bad.group bad.stands; refused = bad.refused }

groups_refused_first : (geo : Geometry) (old : ℕ → ℕ) (xs ys : List SeenGroup) (fault : CheckFault) → AreGroupsRefused geo xs old fault → AreGroupsRefused geo (xs ++ ys) old fault
groups_refused_first geo old xs ys fault due =
    subst (λ (l : List Part). IsStepRefused (HasBadGroup geo (xs ++ ys)) geo l old fault) (sym (flat_map-append (group_parts geo) xs ys))
    (refused_first geo old (groups_parts geo xs) (HasBadGroup geo xs) (HasBadGroup geo (xs ++ ys)) (groups_parts geo ys) fault (bad_left geo xs ys) due)

pub groups_refused_in : (geo : Geometry) (old mid : ℕ → ℕ) (xs ys zs : List SeenGroup) (fault : CheckFault) → AreGroupsChecked geo xs old mid → AreGroupsRefused geo ys mid fault → AreGroupsRefused geo (xs ++ (ys ++ zs)) old fault
groups_refused_in geo old mid xs ys zs fault p due =
    subst (λ (l : List Part). IsStepRefused (HasBadGroup geo (xs ++ (ys ++ zs))) geo l old fault) (sym (flat_map-append (group_parts geo) xs (ys ++ zs)))
    (refused_then geo old mid (groups_parts geo xs) (HasBadGroup geo (ys ++ zs)) (HasBadGroup geo (xs ++ (ys ++ zs))) (groups_parts geo (ys ++ zs)) fault p.taken (bad_right geo xs (ys ++ zs)) (groups_refused_first geo mid ys zs fault due))

pub root_of_groups : (geo : Geometry) (xs ys : List SeenGroup) → has_root geo (inodes_of_groups (xs ++ ys)) ≡ (has_root geo (inodes_of_groups xs) || has_root geo (inodes_of_groups ys))
root_of_groups geo xs ys =
    ap (λ (l : List SeenInode). has_root geo l) (flat_map-append inodes_of_group xs ys) ∙ list_any-append (λ (i : SeenInode). i.ino == geo.rootino) (inodes_of_groups xs) (inodes_of_groups ys)

-- ---- a group that is seen on a volume

module _ (geo : Geometry) (volume : ℕ → List ℕ) (group : ℕ) (head : GroupHead) where
  abbrev z : SeenGroup
  z = group_of geo volume group head

  pub head_as : IsSoundHead geo group head → IsSoundHead geo z.number z.head
  unfolding group_of
  head_as h = h

  pub head_fault_as : (fault : CheckFault) → HasHeadFault geo group head fault → HasHeadFault geo z.number z.head fault
  unfolding group_of
  head_fault_as fault h = h

  pub free_as : IsFreeSpace geo group (agf_seen head) z.free unclaimed → IsFreeSpace geo z.number (agf_seen z.head) z.free unclaimed
  unfolding group_of
  free_as h = h

  pub space_is : (agf : Agf) (agi : Agi) (free : FreeSpace) → agf ≡ agf_seen head → agi ≡ agi_seen head → free ≡ free_space geo group z.free → record { agf = agf; agi = agi; free = free } ≡ group_space geo z
  unfolding group_of
  space_is agf agi free p q r = cc

-- ---- the groups of a volume, by their numbers

module _ (geo : Geometry) (volume : ℕ → List ℕ) where
  abbrev first_groups : ℕ → List SeenGroup
  first_groups n = map (group_seen geo volume) (range_with_len 0 n)

  next_group : (n : ℕ) → first_groups (n + 1) ≡ first_groups n ++ group_seen geo volume n ∷ []
  next_group n = map-range_with_len_more (group_seen geo volume) 0 n n (omega arith)

  pub first_more : (old mid new : ℕ → ℕ) (n : ℕ) → AreGroupsChecked geo (first_groups n) old mid → AreGroupsChecked geo (group_seen geo volume n ∷ []) mid new → AreGroupsChecked geo (first_groups (n + 1)) old new
  first_more old mid new n p q =
      subst (λ (l : List SeenGroup). AreGroupsChecked geo l old new) (sym (next_group n)) (groups_on geo old mid new (first_groups n) (group_seen geo volume n ∷ []) p q)

  pub first_refused : (old mid : ℕ → ℕ) (count n : ℕ) (fault : CheckFault) → n < count → AreGroupsChecked geo (first_groups n) old mid → AreGroupsRefused geo (group_seen geo volume n ∷ []) mid fault → AreGroupsRefused geo (first_groups count) old fault
  first_refused old mid count n fault lt p due =
      let rest : List SeenGroup = map (group_seen geo volume) (range_with_len ((0 + n) + 1) (count - (n + 1))) in
      let zero_first : 0 + n ≡ n = omega arith in
      let whole : first_groups count ≡ first_groups n ++ ((group_seen geo volume n ∷ []) ++ rest) =
      ap (λ (l : List ℕ). map (group_seen geo volume) l) (run_at 0 count n lt)
      ∙ map-append (group_seen geo volume) (range_with_len 0 n) ((0 + n) ∷ range_with_len ((0 + n) + 1) (count - (n + 1)))
      ∙ ap (λ (m : ℕ). first_groups n ++ (group_seen geo volume m ∷ rest)) zero_first in
      subst (λ (l : List SeenGroup). AreGroupsRefused geo l old fault) (sym whole) (groups_refused_in geo old mid (first_groups n) (group_seen geo volume n ∷ []) rest fault p due)

  pub first_root : (n : ℕ) (root found : Bool) → root ≡ has_root geo (inodes_of_groups (first_groups n)) → found ≡ has_root geo (inodes_of_group (group_seen geo volume n)) → (root || found) ≡ has_root geo (inodes_of_groups (first_groups (n + 1)))
  first_root n root found p q =
      ap (λ (b : Bool). b || found) p
      ∙ ap (λ (b : Bool). has_root geo (inodes_of_groups (first_groups n)) || b) (q ∙ ap (λ (l : List SeenInode). has_root geo l) (sym (append-nil (inodes_of_group (group_seen geo volume n)))))
      ∙ sym (root_of_groups geo (first_groups n) (group_seen geo volume n ∷ []))
      ∙ ap (λ (l : List SeenGroup). has_root geo (inodes_of_groups l)) (sym (next_group n))

  pub first_space : (n : ℕ) (spaces : List GroupSpace) (space : GroupSpace) → spaces ≡ map (group_space geo) (first_groups n) → space ≡ group_space geo (group_seen geo volume n) → spaces ++ space ∷ [] ≡ map (group_space geo) (first_groups (n + 1))
  first_space n spaces space p q =
      ap (λ (l : List GroupSpace). l ++ space ∷ []) p ∙ ap (λ (s : GroupSpace). map (group_space geo) (first_groups n) ++ s ∷ []) q
      ∙ sym (map-append (group_space geo) (first_groups n) (group_seen geo volume n ∷ [])) ∙ ap (λ (l : List SeenGroup). map (group_space geo) l) (sym (next_group n))
