-- The steps of a check, one after the other: what passes together, and that what speaks against a step speaks against the whole.
use Rattle.std.proofs.Common.{ℕ, List, [], ◌∷◌, ◌++◌, inl, inr, refl, sym, subst, arith}
use Rattle.std.proofs.lemmas.Grind.{flat_map-append}
use Rattle.std.proofs.lemmas.List.Elements.{All-append, All-nil, Contains-append_left, Contains-append_right}
use Rattle.block_claims.proofs.Agreements.{claimed_on, twice_on}
use Rattle.block_claims.specs.Agreement.{Claimed, IsTwice}
use Rattle.xfs_check.specs.Parts.{AreTwice, ClaimTwice, HasMeaning, IsLeftOf, Part, inodes_parts, inode_parts, part_claims, parts_claims}
use Rattle.xfs_check.specs.Valid.{HasBadInode, IsSoundSeen}
use Rattle.xfs_check.specs.inside.Steps.{AreChecked, AreRefused, AreTaken, IsStepRefused}
use Rattle.xfs_inode.specs.Seen.{SeenInode}
use Rattle.xfs_super.specs.Geometry.{Geometry}
use Rattle.xfs_super.specs.declared.reason.CheckFault.{CheckFault}
use Rattle.xfs_super.specs.declared.reason.CheckFault.TheVariants as check
use Rattle.xfs_super.specs.declared.reason.Reason.{Reason}
use Rattle.xfs_super.specs.declared.reason.Reason.TheVariants as why

-- ---- lists of which some is left out

pub left_none : {X : Type 0} (ys : List X) → IsLeftOf [] ys
left_none ys = tt

pub left_self : {X : Type 0} (xs : List X) → IsLeftOf xs xs
left_self [] = tt
left_self (x ∷ xs) = inl (refl, left_self xs)

pub left_more : {X : Type 0} (xs ys zs : List X) → IsLeftOf xs ys → IsLeftOf xs (ys ++ zs)
left_more [] ys zs left = tt
left_more (x ∷ xs) [] zs left = absurd left
left_more (x ∷ xs) (y ∷ ys) zs (inl both) = inl (both.0, left_more xs ys zs both.1)
left_more (x ∷ xs) (y ∷ ys) zs (inr later) = inr (left_more (x ∷ xs) ys zs later)

pub left_behind : {X : Type 0} (ws xs ys : List X) → IsLeftOf xs ys → IsLeftOf (ws ++ xs) (ws ++ ys)
left_behind [] xs ys left = left
left_behind (w ∷ ws) xs ys left = inl (refl, left_behind ws xs ys left)

-- ---- parts that are taken

pub taken_none : (geo : Geometry) (old : ℕ → ℕ) → AreTaken geo [] old old
taken_none geo old = record { meaning = All-nil (HasMeaning geo); claimed = λ n. omega arith }

module _ (geo : Geometry) (old mid : ℕ → ℕ) (xs : List Part) where
  pub taken_on : (new : ℕ → ℕ) (ys : List Part) → AreTaken geo xs old mid → AreTaken geo ys mid new → AreTaken geo (xs ++ ys) old new
  taken_on new ys p q = record {
    meaning = All-append (HasMeaning geo) xs ys p.meaning q.meaning;
    claimed = subst (λ (l : List ℕ). Claimed old l new) (sym (flat_map-append (part_claims geo) xs ys)) (claimed_on old mid new (parts_claims geo xs) (parts_claims geo ys) p.claimed q.claimed);
  }

  twice_then : (ys : List Part) (n : ℕ) → AreTaken geo xs old mid → AreTwice geo mid ys n → AreTwice geo old (xs ++ ys) n
  twice_then ys n p due = record {
    some = xs ++ due.some;
    among = left_behind xs due.some ys due.among;
    meaning = All-append (HasMeaning geo) xs due.some p.meaning due.meaning;
    twice = subst (λ (l : List ℕ). IsTwice old l n) (sym (flat_map-append (part_claims geo) xs due.some)) (twice_on old mid (parts_claims geo xs) (parts_claims geo due.some) n p.claimed due.twice);
  }

  pub claims_then : (ys : List Part) (reason : Reason) → AreTaken geo xs old mid → ClaimTwice geo mid ys reason → ClaimTwice geo old (xs ++ ys) reason
  claims_then ys (why.ClaimedTwice n) p due = twice_then ys n p due
  claims_then ys _ p due = due

  -- a later step is refused
  pub refused_then : (S T : Reason → Type 0) (ys : List Part) (fault : CheckFault) → AreTaken geo xs old mid → ((r : Reason) → S r → T r) → IsStepRefused S geo ys mid fault → IsStepRefused T geo (xs ++ ys) old fault
  refused_then S T ys (check.Bad reason) p more (inl due) = inl (more reason due)
  refused_then S T ys (check.Bad reason) p more (inr due) = inr (claims_then ys reason p due)
  refused_then S T ys check.Device p more due = tt
  refused_then S T ys check.Memory p more due = tt

module _ (geo : Geometry) (old : ℕ → ℕ) (xs : List Part) where
  pub claims_first : (ys : List Part) (reason : Reason) → ClaimTwice geo old xs reason → ClaimTwice geo old (xs ++ ys) reason
  claims_first ys (why.ClaimedTwice n) due = record { some = due.some; among = left_more due.some xs ys due.among; meaning = due.meaning; twice = due.twice }
  claims_first ys _ due = due

  -- the first step is
  pub refused_first : (S T : Reason → Type 0) (ys : List Part) (fault : CheckFault) → ((r : Reason) → S r → T r) → IsStepRefused S geo xs old fault → IsStepRefused T geo (xs ++ ys) old fault
  refused_first S T ys (check.Bad reason) more (inl due) = inl (more reason due)
  refused_first S T ys (check.Bad reason) more (inr due) = inr (claims_first ys reason due)
  refused_first S T ys check.Device more due = tt
  refused_first S T ys check.Memory more due = tt

  pub refused_as : (S T : Reason → Type 0) (fault : CheckFault) → ((r : Reason) → S r → T r) → IsStepRefused S geo xs old fault → IsStepRefused T geo xs old fault
  refused_as S T (check.Bad reason) more (inl due) = inl (more reason due)
  refused_as S T (check.Bad reason) more (inr due) = inr due
  refused_as S T check.Device more due = tt
  refused_as S T check.Memory more due = tt

-- ---- inodes that are judged

pub checked_none : (geo : Geometry) (old : ℕ → ℕ) → AreChecked geo [] old old
checked_none geo old = record { sound = All-nil (IsSoundSeen geo); taken = taken_none geo old }

pub checked_on : (geo : Geometry) (old mid new : ℕ → ℕ) (is js : List SeenInode) → AreChecked geo is old mid → AreChecked geo js mid new → AreChecked geo (is ++ js) old new
checked_on geo old mid new is js p q = record {
  sound = All-append (IsSoundSeen geo) is js p.sound q.sound;
  taken = subst (λ (l : List Part). AreTaken geo l old new) (sym (flat_map-append (inode_parts geo) is js)) (taken_on geo old mid (inodes_parts geo is) new (inodes_parts geo js) p.taken q.taken);
}

bad_left : (geo : Geometry) (is js : List SeenInode) (reason : Reason) → HasBadInode geo is reason → HasBadInode geo (is ++ js) reason
bad_left geo is js reason bad = record { inode = bad.inode; stands = Contains-append_left is js bad.inode bad.stands; refused = bad.refused }

bad_right : (geo : Geometry) (is js : List SeenInode) (reason : Reason) → HasBadInode geo js reason → HasBadInode geo (is ++ js) reason
bad_right geo is js reason bad = record { inode = bad.inode; stands = Contains-append_right is js bad.inode bad.stands; refused = bad.refused }

pub inodes_refused_first : (geo : Geometry) (old : ℕ → ℕ) (is js : List SeenInode) (fault : CheckFault) → AreRefused geo is old fault → AreRefused geo (is ++ js) old fault
inodes_refused_first geo old is js fault due =
    subst (λ (l : List Part). IsStepRefused (HasBadInode geo (is ++ js)) geo l old fault) (sym (flat_map-append (inode_parts geo) is js))
    (refused_first geo old (inodes_parts geo is) (HasBadInode geo is) (HasBadInode geo (is ++ js)) (inodes_parts geo js) fault (bad_left geo is js) due)

pub inodes_refused_then : (geo : Geometry) (old mid : ℕ → ℕ) (is js : List SeenInode) (fault : CheckFault) → AreChecked geo is old mid → AreRefused geo js mid fault → AreRefused geo (is ++ js) old fault
inodes_refused_then geo old mid is js fault p due =
    subst (λ (l : List Part). IsStepRefused (HasBadInode geo (is ++ js)) geo l old fault) (sym (flat_map-append (inode_parts geo) is js))
    (refused_then geo old mid (inodes_parts geo is) (HasBadInode geo js) (HasBadInode geo (is ++ js)) (inodes_parts geo js) fault p.taken (bad_right geo is js) due)

-- in the midst of others
pub inodes_refused_in : (geo : Geometry) (old mid : ℕ → ℕ) (is js ks : List SeenInode) (fault : CheckFault) → AreChecked geo is old mid → AreRefused geo js mid fault → AreRefused geo (is ++ (js ++ ks)) old fault
inodes_refused_in geo old mid is js ks fault p due = inodes_refused_then geo old mid is (js ++ ks) fault p (inodes_refused_first geo mid js ks fault due)
