-- An inode whose bytes were read is sound, or isn't.
use Rattle.std.proofs.Common.{◌≡◌, ℕ, suc, ◌+◌, ◌-◌, ◌/◌, ◌<◌, ◌≤◌, Bool, true, false, not, ◌&&◌, ◌||◌, ◌==◌, nat_lt, nat_le, Option, Some, None, List, [], ◌∷◌, map, inl, inr, refl, sym, ap, subst, ◌∙◌, arith}
use Rattle.std.specs.List.{range_with_len}
use Rattle.std.proofs.lemmas.Bool.{cases_Bool, and_parts, eqb-true, cond-true, cond-false, lt-ltb, ltb-true, leb-true}
use Rattle.std.proofs.lemmas.Bool.Decides.{nat_tests}
use Rattle.xfs_super.specs.Geometry.{Geometry}
use Rattle.xfs_tree.specs.declared.extent.Extent.{Extent}
use Rattle.xfs_inode.specs.declared.core_fields.Core.{Core}
use Rattle.xfs_inode.specs.Core.{core_of, InodeFork, data_fork, attribute_fork, fork_holds}
use Rattle.disk_base.specs.Fields.{big_at}
use Rattle.xfs_super.specs.Superblock.{has_checksum}
use Rattle.xfs_inode.specs.Extents.{block_named, listed_extents, covers, covering}
use Rattle.xfs_inode.specs.Inode.{needs_target_block, spells_target_block, is_target_block, has_target, is_root_sound, is_sound_inode}
use Rattle.xfs_inode.specs.Seen.{FileBlock, file_block_at, SeenExtent, extent_seen, head_block, first_file_block, fork_tree, fork_extents, fork_seen, shown_data, spells_inode, holds_forks, fits_core, inode_of}
use Rattle.xfs_inode.specs.inside.Judging.{is_judged, IsJudgedCore}
use Rattle.xfs_inode.specs.inside.Targets.{target_extent, HasNoPlace, IsPlace}
use Rattle.xfs_inode.proofs.Seeing.{listed_in}

not_below : (m n : ℕ) → n ≤ m → nat_lt m n ≡ false
not_below m n h = grind (arith, nat_tests)

-- ---- the block of a target

abbrev pub block_at_place : (ℕ → List ℕ) → Geometry → Option Extent → Option FileBlock
block_at_place volume geo None = None
block_at_place volume geo (Some e) = Some (file_block_at volume (block_named geo e.block))

head_of : (volume : ℕ → List ℕ) (b n m : ℕ) → n ≡ suc m → head_block (map (file_block_at volume) (range_with_len b n)) ≡ Some (file_block_at volume b)
head_of volume b n m e = ap (λ (k : ℕ). head_block (map (file_block_at volume) (range_with_len b k))) e

some_block : (e : Extent) → covers 0 e ≡ true → 0 < e.count
some_block e h =
    let parts = and_parts (nat_le e.file 0) (nat_lt 0 (e.file + e.count)) h in
    let begins : e.file ≤ 0 = leb-true e.file 0 parts.0 in
    let ends : 0 < e.file + e.count = ltb-true 0 (e.file + e.count) parts.1 in
    omega arith

pub first_of : (volume : ℕ → List ℕ) (geo : Geometry) (es : List Extent) → first_file_block (map (extent_seen volume geo) es) ≡ block_at_place volume geo (covering 0 es)
unfolding extent_seen
first_of volume geo [] = refl
first_of volume geo (e ∷ es) = elim (cases_Bool (covers 0 e)) [
  | inl there ↦
      cond-true (covers 0 e) _ _ there ∙ head_of volume (block_named geo e.block) e.count (e.count - 1) (omega (arith, some_block e there))
      ∙ ap (λ (o : Option Extent). block_at_place volume geo o) (sym (cond-true (covers 0 e) (Some e) (covering 0 es) there))
  | inr gone ↦
      cond-false (covers 0 e) _ _ gone ∙ first_of volume geo es
      ∙ ap (λ (o : Option Extent). block_at_place volume geo o) (sym (cond-false (covers 0 e) (Some e) (covering 0 es) gone))
]

contents_are : (geo : Geometry) (volume : ℕ → List ℕ) (ino : ℕ) (bytes : List ℕ) → (inode_of geo volume ino bytes).contents.extents ≡ map (extent_seen volume geo) (fork_extents geo (shown_data geo ino bytes) (fork_tree volume geo (shown_data geo ino bytes)))
unfolding inode_of fork_seen
contents_are geo volume ino bytes = refl

needs_listed : (core : Core) → needs_target_block core ≡ true → core.format ≡ 2
needs_listed core h = eqb-true core.format 2 (and_parts (core.format == 2) (nat_lt 0 core.size) (and_parts (core.mode / 4096 == 10) (core.format == 2 && nat_lt 0 core.size) h).1).0

first_block_is : (geo : Geometry) (volume : ℕ → List ℕ) (ino : ℕ) (bytes : List ℕ) → spells_inode geo ino bytes ≡ true → needs_target_block (core_of geo bytes) ≡ true
    → first_file_block (inode_of geo volume ino bytes).contents.extents ≡ block_at_place volume geo (target_extent geo (core_of geo bytes) bytes)
first_block_is geo volume ino bytes spelt needs =
    let f : InodeFork = shown_data geo ino bytes in
    let format : f.format ≡ 2 = cond-true (spells_inode geo ino bytes) _ _ spelt ∙ needs_listed (core_of geo bytes) needs in
    ap (λ (l : List SeenExtent). first_file_block l) (contents_are geo volume ino bytes)
    ∙ ap (λ (l : List Extent). first_file_block (map (extent_seen volume geo) l)) (listed_in geo f (fork_tree volume geo f) format)
    ∙ first_of volume geo (listed_extents f.bytes f.count)

no_target : (geo : Geometry) (volume : ℕ → List ℕ) (ino size : ℕ) (found : Option Extent) → HasNoPlace geo found → is_target_block geo ino size (block_at_place volume geo found) ≡ false
no_target geo volume ino size found (inl none) = ap (λ (o : Option Extent). is_target_block geo ino size (block_at_place volume geo o)) none
no_target geo volume ino size found (inr behind) =
    let at : ℕ = block_named geo behind.extent.block in
    let past : nat_lt at geo.dblocks ≡ false = not_below at geo.dblocks behind.outside in
    ap (λ (o : Option Extent). is_target_block geo ino size (block_at_place volume geo o)) behind.is
    ∙ ap (λ (b : Bool). b && spells_target_block geo ino size at (volume at)) past

some_target : (geo : Geometry) (volume : ℕ → List ℕ) (ino size at : ℕ) (found : Option Extent) → IsPlace geo found at → is_target_block geo ino size (block_at_place volume geo found) ≡ spells_target_block geo ino size at (volume at)
some_target geo volume ino size at found place =
    let named : ℕ = block_named geo place.extent.block in
    let below : nat_lt named geo.dblocks ≡ true = lt-ltb named geo.dblocks (subst (λ (n : ℕ). n < geo.dblocks) place.place place.inside) in
    ap (λ (o : Option Extent). is_target_block geo ino size (block_at_place volume geo o)) place.is
    ∙ ap (λ (b : Bool). b && spells_target_block geo ino size named (volume named)) below
    ∙ ap (λ (n : ℕ). spells_target_block geo ino size n (volume n)) (sym place.place)

-- ---- an inode

same_ino : (geo : Geometry) (volume : ℕ → List ℕ) (ino : ℕ) (bytes : List ℕ) → ino ≡ (inode_of geo volume ino bytes).ino
unfolding inode_of
same_ino geo volume ino bytes = refl

sound_is : (geo : Geometry) (volume : ℕ → List ℕ) (ino : ℕ) (bytes : List ℕ) → is_sound_inode geo (inode_of geo volume ino bytes)
    ≡ (spells_inode geo ino bytes && (has_target geo (core_of geo bytes) (inode_of geo volume ino bytes) && is_root_sound geo ino (core_of geo bytes)))
unfolding is_sound_inode inode_of
sound_is geo volume ino bytes = refl

none_of_both : (a t r : Bool) → (a && r) ≡ false → (a && (t && r)) ≡ false
none_of_both true true r h = h
none_of_both true false r h = refl
none_of_both false t r h = refl

all_of_both : (a t r : Bool) → (a && r) ≡ true → (a && (t && r)) ≡ t
all_of_both true true r h = h
all_of_both true false r h = refl
all_of_both false t r h = absurd (cc)

no_need : (needs t : Bool) → needs ≡ false → (not needs || t) ≡ true
no_need needs t h = ap (λ (b : Bool). not b || t) h

a_need : (needs t : Bool) → needs ≡ true → (not needs || t) ≡ t
a_need needs t h = ap (λ (b : Bool). not b || t) h

module _ (geo : Geometry) (volume : ℕ → List ℕ) (ino : ℕ) (bytes : List ℕ) where
  -- the bytes don't pass
  pub unjudged : is_judged geo ino bytes ≡ false → (ino ≡ (inode_of geo volume ino bytes).ino) × (is_sound_inode geo (inode_of geo volume ino bytes) ≡ false)
  unjudged h =
      (same_ino geo volume ino bytes, sound_is geo volume ino bytes ∙ none_of_both (spells_inode geo ino bytes) _ (is_root_sound geo ino (core_of geo bytes)) h)

  by_target : is_judged geo ino bytes ≡ true → is_sound_inode geo (inode_of geo volume ino bytes) ≡ has_target geo (core_of geo bytes) (inode_of geo volume ino bytes)
  by_target passes = sound_is geo volume ino bytes ∙ all_of_both (spells_inode geo ino bytes) _ (is_root_sound geo ino (core_of geo bytes)) passes

  -- they do, and no target is needed
  pub sound_alone : (core : Core) → IsJudgedCore geo ino bytes core → needs_target_block core ≡ false → is_sound_inode geo (inode_of geo volume ino bytes) ≡ true
  sound_alone core judged needs =
      let none : needs_target_block (core_of geo bytes) ≡ false = subst (λ (c : Core). needs_target_block c ≡ false) judged.is needs in
      by_target judged.passes ∙ no_need (needs_target_block (core_of geo bytes)) _ none

  target_of : (core : Core) → IsJudgedCore geo ino bytes core → needs_target_block core ≡ true → is_sound_inode geo (inode_of geo volume ino bytes) ≡ is_target_block geo ino core.size (block_at_place volume geo (target_extent geo core bytes))
  target_of core judged needs =
      let some : needs_target_block (core_of geo bytes) ≡ true = subst (λ (c : Core). needs_target_block c ≡ true) judged.is needs in
      let spelt : spells_inode geo ino bytes ≡ true = (and_parts (spells_inode geo ino bytes) (is_root_sound geo ino (core_of geo bytes)) judged.passes).0 in
      by_target judged.passes ∙ a_need (needs_target_block (core_of geo bytes)) _ some
      ∙ ap (λ (n : ℕ). is_target_block geo n (core_of geo bytes).size (first_file_block (inode_of geo volume ino bytes).contents.extents)) (sym (same_ino geo volume ino bytes))
      ∙ ap (λ (o : Option FileBlock). is_target_block geo ino (core_of geo bytes).size o) (first_block_is geo volume ino bytes spelt some)
      ∙ ap (λ (c : Core). is_target_block geo ino c.size (block_at_place volume geo (target_extent geo c bytes))) (sym judged.is)

  -- the target has no block
  pub without_target : (core : Core) → IsJudgedCore geo ino bytes core → needs_target_block core ≡ true → HasNoPlace geo (target_extent geo core bytes)
      → (ino ≡ (inode_of geo volume ino bytes).ino) × (is_sound_inode geo (inode_of geo volume ino bytes) ≡ false)
  without_target core judged needs none =
      (same_ino geo volume ino bytes, target_of core judged needs ∙ no_target geo volume ino core.size (target_extent geo core bytes) none)

  with_target : (core : Core) (at : ℕ) (block : List ℕ) → IsJudgedCore geo ino bytes core → needs_target_block core ≡ true → IsPlace geo (target_extent geo core bytes) at → block ≡ volume at
      → is_sound_inode geo (inode_of geo volume ino bytes) ≡ spells_target_block geo ino core.size at block
  with_target core at block judged needs place held =
      target_of core judged needs ∙ some_target geo volume ino core.size at (target_extent geo core bytes) place ∙ ap (λ (l : List ℕ). spells_target_block geo ino core.size at l) (sym held)

  -- it has one, which is right or isn't
  pub wrong_target : (core : Core) (at : ℕ) (block : List ℕ) → IsJudgedCore geo ino bytes core → needs_target_block core ≡ true → IsPlace geo (target_extent geo core bytes) at → block ≡ volume at
      → spells_target_block geo ino core.size at block ≡ false → (ino ≡ (inode_of geo volume ino bytes).ino) × (is_sound_inode geo (inode_of geo volume ino bytes) ≡ false)
  wrong_target core at block judged needs place held wrong = (same_ino geo volume ino bytes, with_target core at block judged needs place held ∙ wrong)

  pub right_target : (core : Core) (at : ℕ) (block : List ℕ) → IsJudgedCore geo ino bytes core → needs_target_block core ≡ true → IsPlace geo (target_extent geo core bytes) at → block ≡ volume at
      → spells_target_block geo ino core.size at block ≡ true → is_sound_inode geo (inode_of geo volume ino bytes) ≡ true
  right_target core at block judged needs place held right = with_target core at block judged needs place held ∙ right

-- the data fork of an inode that is spelt holds what it has to
last_of_four : (a b c d : Bool) → (a && (b && (c && d))) ≡ true → d ≡ true
last_of_four true true true d h = h
last_of_four true true false d h = absurd (cc)
last_of_four true false c d h = absurd (cc)
last_of_four false b c d h = absurd (cc)

pub holds_data : (geo : Geometry) (ino : ℕ) (bytes : List ℕ) (core : Core) → IsJudgedCore geo ino bytes core → fork_holds (data_fork geo core bytes) ≡ true
holds_data geo ino bytes core judged =
    let spelt : spells_inode geo ino bytes ≡ true = (and_parts (spells_inode geo ino bytes) (is_root_sound geo ino (core_of geo bytes)) judged.passes).0 in
    let both : holds_forks geo (core_of geo bytes) bytes ≡ true =
    last_of_four (big_at 2 bytes 0 == 0x494E) (has_checksum bytes 100) (fits_core geo ino (core_of geo bytes)) (holds_forks geo (core_of geo bytes) bytes) spelt in
    let first : fork_holds (data_fork geo (core_of geo bytes) bytes) ≡ true =
    (and_parts (fork_holds (data_fork geo (core_of geo bytes) bytes)) (fork_holds (attribute_fork geo (core_of geo bytes) bytes)) both).0 in
    subst (λ (c : Core). fork_holds (data_fork geo c bytes) ≡ true) (sym judged.is) first
