-- A volume that was judged behind its superblock, and as a whole.
use Rattle.std.proofs.Common.{◌≡◌, ℕ, ◌*◌, ◌/◌, ◌%◌, ◌<◌, Bool, true, false, ◌&&◌, List, [], ◌∷◌, map, inl, inr, refl, sym, ap, ◌∙◌, subst, arith, ◌⊎◌}
use Rattle.std.specs.Prelude.{if◌then◌else◌, nat_le}
use Rattle.std.proofs.lemmas.Bool.{false≢true}
use Rattle.std.proofs.lemmas.Bool.Decides.{nat_tests}
use Rattle.xfs_check.proofs.Steps.{refused_first, refused_then, taken_on}
use Rattle.xfs_check.specs.Parts.{ClaimTwice, LogBlocks, Part, groups_parts, parts_claims}
use Rattle.xfs_check.specs.Seen.{SeenGroup, groups_seen, inodes_of_groups, volume_seen}
use Rattle.xfs_check.specs.Valid.{HasBadGroup, HasCheckFault, IsValidVolume, has_root, unclaimed}
use Rattle.xfs_check.specs.Volume.{GroupSpace, VolumeSpace, group_space, volume_space}
use Rattle.xfs_check.specs.inside.Behind.{HasFaultBehind, IsSoundBehind, all_parts}
use Rattle.xfs_check.specs.inside.Grouping.{AreGroupsChecked, AreGroupsRefused}
use Rattle.xfs_check.specs.inside.Reading.{IsHeadRefused}
use Rattle.xfs_check.specs.inside.Steps.{AreTaken, IsStepRefused}
use Rattle.xfs_log.specs.Log.{HasLogFault, IsCleanLog, SpeaksAgainstLog, log_seen}
use Rattle.xfs_super.specs.Geometry.{Geometry}
use Rattle.xfs_super.specs.Superblock.{IsSuperblock, SpeaksAgainst, geometry_in, has_places, has_sizes, superblock_in}
use Rattle.xfs_super.specs.declared.reason.CheckFault.{CheckFault}
use Rattle.xfs_super.specs.declared.reason.CheckFault.TheVariants as check
use Rattle.xfs_super.specs.declared.reason.Reason.{Reason}
use Rattle.xfs_super.specs.declared.reason.Reason.TheVariants as why
use Rattle.xfs_tree.proofs.Claims.{claimed_free}
use Rattle.xfs_tree.specs.Marks.{Claims, marked}

-- ---- nothing is claimed at first

abbrev mark_of : Bool → ℕ
mark_of b = if b then 1 else 0

unmarked : (b : Bool) → b ≡ false → mark_of b ≡ 0
unmarked false h = refl
unmarked true h = absurd (false≢true (sym h))

pub none_claimed : (agblocks : ℕ) (claims : Claims) → ((g b : ℕ) → claims g b ≡ false) → (n : ℕ) → marked agblocks claims n ≡ 0
none_claimed agblocks claims none n = unmarked (claims (n / agblocks) (n % agblocks)) (none (n / agblocks) (n % agblocks))

taken_afresh : (geo : Geometry) (parts : List Part) (old new : ℕ → ℕ) → ((n : ℕ) → old n ≡ 0) → AreTaken geo parts old new → AreTaken geo parts unclaimed new
taken_afresh geo parts old new none taken = record { meaning = taken.meaning; claimed = λ n. omega (arith, taken.claimed n, none n) }

twice_afresh : (geo : Geometry) (parts : List Part) (old : ℕ → ℕ) (reason : Reason) → ((n : ℕ) → old n ≡ 0) → ClaimTwice geo old parts reason → ClaimTwice geo unclaimed parts reason
twice_afresh geo parts old (why.ClaimedTwice n) none due = record { some = due.some; among = due.among; meaning = due.meaning; twice = omega (arith, due.twice, none n) }
twice_afresh geo parts old _ none due = due

-- ---- behind the superblock

pub log_turned : (geo : Geometry) (sectors : List (List ℕ)) (old mid : ℕ → ℕ) (fault : CheckFault) → HasLogFault sectors fault → IsStepRefused (SpeaksAgainstLog sectors) geo (LogBlocks ∷ []) old fault
log_turned geo sectors old mid (check.Bad reason) due = inl due
log_turned geo sectors old mid check.Device due = tt
log_turned geo sectors old mid check.Memory due = absurd due

module _ (geo : Geometry) (groups : List SeenGroup) (log : List (List ℕ)) (old : ℕ → ℕ) (none : (n : ℕ) → old n ≡ 0) where
  behind : (fault : CheckFault) → IsStepRefused (λ r. HasBadGroup geo groups r ⊎ SpeaksAgainstLog log r) geo (all_parts geo groups) old fault → HasFaultBehind geo groups log fault
  behind (check.Bad reason) (inl (inl bad)) = inl bad
  behind (check.Bad reason) (inl (inr due)) = inr (inr (inr due))
  behind (check.Bad reason) (inr twice) = inr (inr (inl (twice_afresh geo (all_parts geo groups) old reason none twice)))
  behind check.Device due = tt
  behind check.Memory due = tt

  pub groups_behind : (fault : CheckFault) → AreGroupsRefused geo groups old fault → HasFaultBehind geo groups log fault
  groups_behind fault due =
      behind fault (refused_first geo old (groups_parts geo groups) (HasBadGroup geo groups) (λ r. HasBadGroup geo groups r ⊎ SpeaksAgainstLog log r) (LogBlocks ∷ []) fault (λ r h. inl h) due)

  pub log_behind : (mid : ℕ → ℕ) (fault : CheckFault) → AreGroupsChecked geo groups old mid → IsStepRefused (SpeaksAgainstLog log) geo (LogBlocks ∷ []) mid fault → HasFaultBehind geo groups log fault
  log_behind mid fault p due =
      behind fault (refused_then geo old mid (groups_parts geo groups) (SpeaksAgainstLog log) (λ r. HasBadGroup geo groups r ⊎ SpeaksAgainstLog log r) (LogBlocks ∷ []) fault p.taken (λ r h. inr h) due)

  pub root_behind : (mid : ℕ → ℕ) → AreGroupsChecked geo groups old mid → has_root geo (inodes_of_groups groups) ≡ false → HasFaultBehind geo groups log (check.Bad (why.Inode geo.rootino))
  root_behind mid p root = inr (inl (refl, p.sound, root))

  pub sound_behind : (mid : ℕ → ℕ) (new : Claims) → AreGroupsChecked geo groups old mid → has_root geo (inodes_of_groups groups) ≡ true → AreTaken geo (LogBlocks ∷ []) mid (marked geo.agblocks new) → IsCleanLog log
      → IsSoundBehind geo groups log
  sound_behind mid new p root taken clean =
      let all : AreTaken geo (all_parts geo groups) old (marked geo.agblocks new) = taken_on geo old mid (groups_parts geo groups) (marked geo.agblocks new) (LogBlocks ∷ []) p.taken taken in
      let free = claimed_free old geo.agblocks new (parts_claims geo (all_parts geo groups)) all.claimed in
      record { sound = p.sound; root = root; apart = λ n. omega (arith, free n); clean = clean }

-- ---- the whole volume

and_false : (a b c d : Bool) → b ≡ false → ((a && (b && c)) && d) ≡ false
and_false true true c d h = absurd (false≢true (sym h))
and_false true false c d h = refl
and_false false b c d h = refl

pub few_sectors : (sectors : ℕ) (bytes : List ℕ) → sectors < 8 → SpeaksAgainst sectors bytes why.Geometry
few_sectors sectors bytes few =
    let s = superblock_in bytes in
    let no : nat_le 8 sectors ≡ false = grind (arith, nat_tests) in
    and_false (has_sizes s) (nat_le 8 sectors) (nat_le (8 * s.dblocks) sectors) (has_places s) no

pub superblock_refused : (sectors : ℕ) (d : ℕ → List ℕ) (fault : CheckFault) → IsHeadRefused (SpeaksAgainst sectors (d 0)) fault → HasCheckFault sectors (volume_seen d) fault
unfolding volume_seen
superblock_refused sectors d (check.Bad reason) due = inl due
superblock_refused sectors d check.Device due = tt
superblock_refused sectors d check.Memory due = absurd due

refused_behind : (sectors : ℕ) (d : ℕ → List ℕ) (fault : CheckFault) → IsSuperblock sectors (d 0) → HasFaultBehind (geometry_in (d 0)) (groups_seen (geometry_in (d 0)) d) (log_seen (geometry_in (d 0)) d) fault → HasCheckFault sectors (volume_seen d) fault
unfolding volume_seen
refused_behind sectors d (check.Bad reason) sound due = inr (sound, due)
refused_behind sectors d check.Device sound due = tt
refused_behind sectors d check.Memory sound due = tt

pub volume_refused : (sectors : ℕ) (d : ℕ → List ℕ) (geo : Geometry) (fault : CheckFault) → IsSuperblock sectors (d 0) → geo ≡ geometry_in (d 0) → HasFaultBehind geo (groups_seen geo d) (log_seen geo d) fault → HasCheckFault sectors (volume_seen d) fault
volume_refused sectors d geo fault sound is due = refused_behind sectors d fault sound (subst (λ (x : Geometry). HasFaultBehind x (groups_seen x d) (log_seen x d) fault) is due)

valid_behind : (sectors : ℕ) (d : ℕ → List ℕ) → IsSuperblock sectors (d 0) → IsSoundBehind (geometry_in (d 0)) (groups_seen (geometry_in (d 0)) d) (log_seen (geometry_in (d 0)) d) → IsValidVolume sectors (volume_seen d)
unfolding volume_seen
valid_behind sectors d sound behind = record { superblock = sound; groups = behind.sound; root = behind.root; apart = behind.apart; log = behind.clean }

pub volume_valid : (sectors : ℕ) (d : ℕ → List ℕ) (geo : Geometry) → IsSuperblock sectors (d 0) → geo ≡ geometry_in (d 0) → IsSoundBehind geo (groups_seen geo d) (log_seen geo d) → IsValidVolume sectors (volume_seen d)
volume_valid sectors d geo sound is behind = valid_behind sectors d sound (subst (λ (x : Geometry). IsSoundBehind x (groups_seen x d) (log_seen x d)) is behind)

space_behind : (d : ℕ → List ℕ) → record { geometry = geometry_in (d 0); groups = map (group_space (geometry_in (d 0))) (groups_seen (geometry_in (d 0)) d) } ≡ volume_space (volume_seen d)
unfolding volume_seen
space_behind d = refl

same_space : (v : VolumeSpace) (geo : Geometry) (spaces : List GroupSpace) → v.geometry ≡ geo → v.groups ≡ spaces → v ≡ record { geometry = geo; groups = spaces }
same_space v geo spaces p q = ap (λ (x : Geometry). record { geometry = x; groups = v.groups }) p ∙ ap (λ (x : List GroupSpace). record { geometry = geo; groups = x }) q

pub volume_is : (d : ℕ → List ℕ) (v : VolumeSpace) (geo : Geometry) (spaces : List GroupSpace) → geo ≡ geometry_in (d 0) → v.geometry ≡ geo → v.groups ≡ spaces → spaces ≡ map (group_space geo) (groups_seen geo d) → v ≡ volume_space (volume_seen d)
volume_is d v geo spaces is p q r =
    let one : v ≡ record { geometry = geo; groups = map (group_space geo) (groups_seen geo d) } = same_space v geo (map (group_space geo) (groups_seen geo d)) p (q ∙ r) in
    one ∙ ap (λ (x : Geometry). record { geometry = x; groups = map (group_space x) (groups_seen x d) }) is ∙ space_behind d
