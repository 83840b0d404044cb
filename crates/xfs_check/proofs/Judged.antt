-- An inode that is judged: what passes together, and what refuses it.
use Rattle.std.proofs.Common.{◌≡◌, ℕ, Bool, true, false, ◌&&◌, List, [], ◌∷◌, ◌++◌, map, inl, inr, refl, sym, ap, ◌∙◌, subst, arith}
use Rattle.std.specs.List.{Contains}
use Rattle.std.proofs.lemmas.Bool.{and_parts, false≢true}
use Rattle.std.proofs.lemmas.List.{append-nil}
use Rattle.std.proofs.lemmas.List.Elements.{All-cons, All-nil}
use Rattle.block_claims.specs.Agreement.{Claimed}
use Rattle.xfs_check.proofs.Steps.{refused_first, refused_then, taken_on}
use Rattle.xfs_check.proofs.Turning.{fork_turned, free_alone, two_taken}
use Rattle.xfs_check.specs.Parts.{ForkExtents, ForkTree, Part, fork_parts, inode_parts, inodes_parts}
use Rattle.xfs_check.specs.Valid.{HasBadInode, IsSoundSeen, SpeaksAgainstSeen, unclaimed}
use Rattle.xfs_check.specs.inside.Steps.{AreChecked, AreRefused, AreTaken, IsStepRefused}
use Rattle.xfs_files.specs.Directory.{HasDirectoryFault, IsSoundDirectory, SpeaksAgainstDirectory}
use Rattle.xfs_inode.proofs.Seeing.{extents_again}
use Rattle.xfs_inode.specs.Core.{InodeFork, attribute_fork, core_of, data_fork}
use Rattle.xfs_inode.specs.Extents.{AreSoundExtents}
use Rattle.xfs_inode.specs.ForkReading.{HasFaultInFork, IsSoundFork, SpeaksAgainstFork}
use Rattle.xfs_inode.specs.Inode.{HasInodeFault, has_target, is_root_sound, is_sound_inode}
use Rattle.xfs_inode.specs.Seen.{SeenFork, SeenInode, extent_seen, extents_seen, fork_claims, fork_extents, fork_seen, fork_tree, inode_of, shown_attributes, shown_data, shown_format, spells_inode}
use Rattle.xfs_super.specs.Geometry.{Geometry}
use Rattle.xfs_super.specs.declared.reason.CheckFault.{CheckFault}
use Rattle.xfs_super.specs.declared.reason.CheckFault.TheVariants as check
use Rattle.xfs_super.specs.declared.reason.Reason.{Reason}
use Rattle.xfs_tree.specs.declared.extent.Extent.{Extent}

-- ---- a fork

pub fork_taken : (geo : Geometry) (f : InodeFork) (s : SeenFork) (old new : ℕ → ℕ) → IsSoundFork geo f s old → Claimed old (fork_claims s) new → AreTaken geo (fork_parts f s) old new
fork_taken geo f s old new sound claimed = two_taken geo (ForkTree f s) (ForkExtents f s) old new sound.holds (sound.holds, sound.extents) claimed

fork_alone : (geo : Geometry) (f : InodeFork) (s : SeenFork) (old : ℕ → ℕ) → IsSoundFork geo f s old → IsSoundFork geo f s unclaimed
fork_alone geo f s old sound = record { holds = sound.holds; tree = sound.tree; extents = sound.extents; free = free_alone old (fork_claims s) sound.free }

-- the extents of a fork, seen again
pub extents_seen_again : (volume : ℕ → List ℕ) (geo : Geometry) (f : InodeFork) → map (extent_seen volume geo) (extents_seen (fork_seen volume geo f)) ≡ (fork_seen volume geo f).extents
unfolding fork_seen
extents_seen_again volume geo f = ap (λ (es : List Extent). map (extent_seen volume geo) es) (extents_again volume geo (fork_extents geo f (fork_tree volume geo f)))

shown_true : (b : Bool) (f : InodeFork) → b ≡ true → shown_format b f ≡ f
shown_true true f h = refl
shown_true false f h = absurd (false≢true h)

stands_alone : (i : SeenInode) → Contains (i ∷ []) i
stands_alone i = (0, omega arith, refl)

module _ (geo : Geometry) (volume : ℕ → List ℕ) (ino : ℕ) (bytes : List ℕ) where
  abbrev i : SeenInode
  i = inode_of geo volume ino bytes

  abbrev contents : InodeFork
  contents = data_fork geo (core_of geo bytes) bytes

  abbrev attributes : InodeFork
  attributes = attribute_fork geo (core_of geo bytes) bytes

  abbrev all_parts : List Part
  all_parts = fork_parts contents (fork_seen volume geo contents) ++ fork_parts attributes (fork_seen volume geo attributes)

  spelled : is_sound_inode geo i ≡ true → spells_inode geo ino bytes ≡ true
  unfolding is_sound_inode inode_of
  spelled sound = (and_parts (spells_inode geo ino bytes) (has_target geo (core_of geo bytes) i && is_root_sound geo ino (core_of geo bytes)) sound).0

  as_contents : (P : InodeFork → SeenFork → Type 0) → is_sound_inode geo i ≡ true → P contents (fork_seen volume geo contents) → P (shown_data geo i.ino i.bytes) i.contents
  unfolding inode_of
  as_contents P sound h = subst (λ (f : InodeFork). P f (fork_seen volume geo f)) (sym (shown_true (spells_inode geo ino bytes) contents (spelled sound))) h

  as_attributes : (P : InodeFork → SeenFork → Type 0) → is_sound_inode geo i ≡ true → P attributes (fork_seen volume geo attributes) → P (shown_attributes geo i.ino i.bytes) i.attributes
  unfolding inode_of
  as_attributes P sound h = subst (λ (f : InodeFork). P f (fork_seen volume geo f)) (sym (shown_true (spells_inode geo ino bytes) attributes (spelled sound))) h

  parts_are : is_sound_inode geo i ≡ true → inodes_parts geo (i ∷ []) ≡ all_parts
  parts_are sound =
      append-nil (inode_parts geo i)
      ∙ sym (as_contents (λ (f : InodeFork) (s : SeenFork). all_parts ≡ fork_parts f s ++ fork_parts (shown_attributes geo i.ino i.bytes) i.attributes) sound
      (as_attributes (λ (f : InodeFork) (s : SeenFork). all_parts ≡ fork_parts contents (fork_seen volume geo contents) ++ fork_parts f s) sound refl))

  bad_alone : (reason : Reason) → SpeaksAgainstSeen geo i reason → HasBadInode geo (i ∷ []) reason
  bad_alone reason due = record { inode = i; stands = stands_alone i; refused = due }

  refused_alone : (old : ℕ → ℕ) (fault : CheckFault) → is_sound_inode geo i ≡ true → IsStepRefused (HasBadInode geo (i ∷ [])) geo all_parts old fault → AreRefused geo (i ∷ []) old fault
  refused_alone old fault sound due = subst (λ (l : List Part). IsStepRefused (HasBadInode geo (i ∷ [])) geo l old fault) (sym (parts_are sound)) due

  pub core_refused : (old : ℕ → ℕ) (fault : CheckFault) → HasInodeFault geo i fault → AreRefused geo (i ∷ []) old fault
  core_refused old (check.Bad reason) due = inl (bad_alone reason (inl due))
  core_refused old check.Device due = tt
  core_refused old check.Memory due = absurd due

  bad_contents : is_sound_inode geo i ≡ true → (reason : Reason) → SpeaksAgainstFork geo contents (fork_seen volume geo contents) unclaimed reason → HasBadInode geo (i ∷ []) reason
  bad_contents sound reason due = bad_alone reason (inr (sound, inl (inl (as_contents (λ (f : InodeFork) (s : SeenFork). SpeaksAgainstFork geo f s unclaimed reason) sound due))))

  bad_attributes : is_sound_inode geo i ≡ true → (reason : Reason) → SpeaksAgainstFork geo attributes (fork_seen volume geo attributes) unclaimed reason → HasBadInode geo (i ∷ []) reason
  bad_attributes sound reason due = bad_alone reason (inr (sound, inl (inr (as_attributes (λ (f : InodeFork) (s : SeenFork). SpeaksAgainstFork geo f s unclaimed reason) sound due))))

  pub contents_refused : (old : ℕ → ℕ) (fault : CheckFault) → is_sound_inode geo i ≡ true → HasFaultInFork geo contents (fork_seen volume geo contents) old fault → AreRefused geo (i ∷ []) old fault
  contents_refused old fault sound due =
      let s : SeenFork = fork_seen volume geo contents in
      refused_alone old fault sound
      (refused_first geo old (fork_parts contents s) (SpeaksAgainstFork geo contents s unclaimed) (HasBadInode geo (i ∷ [])) (fork_parts attributes (fork_seen volume geo attributes)) fault (bad_contents sound) (fork_turned geo contents s old fault due))

  pub attributes_refused : (old mid : ℕ → ℕ) (fault : CheckFault) → is_sound_inode geo i ≡ true → IsSoundFork geo contents (fork_seen volume geo contents) old → Claimed old (fork_claims (fork_seen volume geo contents)) mid
      → HasFaultInFork geo attributes (fork_seen volume geo attributes) mid fault → AreRefused geo (i ∷ []) old fault
  attributes_refused old mid fault sound first claimed due =
      let s : SeenFork = fork_seen volume geo contents in
      let t : SeenFork = fork_seen volume geo attributes in
      refused_alone old fault sound
      (refused_then geo old mid (fork_parts contents s) (SpeaksAgainstFork geo attributes t unclaimed) (HasBadInode geo (i ∷ [])) (fork_parts attributes t) fault (fork_taken geo contents s old mid first claimed) (bad_attributes sound) (fork_turned geo attributes t mid fault due))

  bad_entries : is_sound_inode geo i ≡ true → (reason : Reason) → AreSoundExtents geo (extents_seen (fork_seen volume geo contents)) → SpeaksAgainstDirectory geo (core_of geo bytes) bytes (fork_seen volume geo contents).extents reason
      → SpeaksAgainstSeen geo i reason
  unfolding inode_of
  bad_entries sound reason extents due =
      let both = as_contents (λ (f : InodeFork) (s : SeenFork). AreSoundExtents geo (extents_seen s) × SpeaksAgainstDirectory geo (core_of geo bytes) bytes s.extents reason) sound (extents, due) in
      inr (sound, inr both)

  pub entries_refused : (old : ℕ → ℕ) (fault : CheckFault) → is_sound_inode geo i ≡ true → AreSoundExtents geo (extents_seen (fork_seen volume geo contents))
      → HasDirectoryFault geo (core_of geo bytes) bytes (fork_seen volume geo contents).extents fault → AreRefused geo (i ∷ []) old fault
  entries_refused old (check.Bad reason) sound extents due = inl (bad_alone reason (bad_entries sound reason extents due))
  entries_refused old check.Device sound extents due = tt
  entries_refused old check.Memory sound extents due = absurd due

  directory_is : is_sound_inode geo i ≡ true → IsSoundDirectory geo (core_of geo bytes) bytes (fork_seen volume geo contents).extents → IsSoundDirectory geo (core_of geo i.bytes) i.bytes i.contents.extents
  unfolding inode_of
  directory_is sound h = as_contents (λ (f : InodeFork) (s : SeenFork). IsSoundDirectory geo (core_of geo bytes) bytes s.extents) sound h

  pub inode_checked : (old mid new : ℕ → ℕ) → is_sound_inode geo i ≡ true → IsSoundFork geo contents (fork_seen volume geo contents) old → Claimed old (fork_claims (fork_seen volume geo contents)) mid
      → IsSoundFork geo attributes (fork_seen volume geo attributes) mid → Claimed mid (fork_claims (fork_seen volume geo attributes)) new
      → IsSoundDirectory geo (core_of geo bytes) bytes (fork_seen volume geo contents).extents → AreChecked geo (i ∷ []) old new
  inode_checked old mid new sound first p second q directory =
      let s : SeenFork = fork_seen volume geo contents in
      let t : SeenFork = fork_seen volume geo attributes in
      record {
        sound = All-cons (IsSoundSeen geo) i [] (record {
          inode = sound;
          contents = as_contents (λ (f : InodeFork) (u : SeenFork). IsSoundFork geo f u unclaimed) sound (fork_alone geo contents s old first);
          attributes = as_attributes (λ (f : InodeFork) (u : SeenFork). IsSoundFork geo f u unclaimed) sound (fork_alone geo attributes t mid second);
          directory = directory_is sound directory;
        }) (All-nil (IsSoundSeen geo));
        taken = subst (λ (l : List Part). AreTaken geo l old new) (sym (parts_are sound))
            (taken_on geo old mid (fork_parts contents s) new (fork_parts attributes t) (fork_taken geo contents s old mid first p) (fork_taken geo attributes t mid new second q));
      }
