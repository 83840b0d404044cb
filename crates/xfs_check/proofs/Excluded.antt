-- Against a valid volume no reason speaks.
use Rattle.std.proofs.Common.{◌≡◌, ℕ, ◌≤◌, true, List, [], ◌∷◌, inl, inr, sym, ap, ◌∙◌, arith, ◌⊎◌}
use Rattle.std.proofs.lemmas.List.Elements.{All-contains}
use Rattle.block_claims.proofs.Agreements.{times_in-append}
use Rattle.block_claims.specs.Agreement.{times_in}
use Rattle.disk_base.specs.Memory.{true_is_not_false}
use Rattle.xfs_alloc.proofs.Faults as alloc
use Rattle.xfs_check.specs.Parts.{ClaimTwice, IsLeftOf, Part, part_claims, parts_claims, volume_claims, volume_parts}
use Rattle.xfs_check.specs.Seen.{GroupHead, SeenGroup, SeenVolume, agf_seen, geometry_seen, inodes_of_group, inodes_of_groups}
use Rattle.xfs_check.specs.Valid.{IsBadFreeInodeTree, IsSoundFreeInodeTree, IsSoundGroup, IsSoundHead, IsSoundSeen, IsValidVolume, LacksRoot, SpeaksAgainstEntries, SpeaksAgainstForks, SpeaksAgainstFreeInodes, SpeaksAgainstGroup, SpeaksAgainstHead, SpeaksAgainstInodes, SpeaksAgainstSeen, SpeaksAgainstVolume, SpeaksBehind, has_root, unclaimed}
use Rattle.xfs_files.proofs.Verdicts as files
use Rattle.xfs_inode.proofs.Excluded as inode
use Rattle.xfs_inode.specs.Chunks.{chunk_setting}
use Rattle.xfs_inode.specs.Core.{core_of}
use Rattle.xfs_inode.specs.ForkReading.{NamesTreeBlock}
use Rattle.xfs_inode.specs.Seen.{SeenInode, shown_attributes, shown_data}
use Rattle.xfs_log.proofs.Excluded as log
use Rattle.xfs_log.specs.Log.{log_sectors}
use Rattle.xfs_super.proofs.Reasons.{header_speaks, superblock_speaks}
use Rattle.xfs_super.specs.Geometry.{Geometry, header_sector}
use Rattle.xfs_super.specs.Headers.{SpeaksAgainstUsed, are_used_inside, is_agf, is_agfl, is_agi}
use Rattle.xfs_super.specs.declared.reason.Reason.{Reason}
use Rattle.xfs_super.specs.declared.reason.Reason.TheVariants as why
use Rattle.xfs_tree.proofs.TreeLaws.{in_order_excludes, sound_excludes}
use Rattle.xfs_tree.specs.Block.{Sight}
use Rattle.xfs_tree.specs.Form.{Setting}
use Rattle.xfs_tree.specs.Records.{by_free_inode, by_free_sparse_inode}
use Rattle.xfs_tree.specs.Tree.{HasTreeFault, IsSoundTree, all_sights, leaves_of}
use Rattle.xfs_tree.specs.declared.fault.TreeFault.{TreeFault}
use Rattle.xfs_tree.specs.declared.fault.TreeFault.TheVariants as tree

-- ---- an inode

no_forks_reason : (geo : Geometry) (i : SeenInode) (reason : Reason) → IsSoundSeen geo i → SpeaksAgainstForks geo i reason → ⊥
no_forks_reason geo i reason sound (inl due) = inode.no_fork_reason geo (shown_data geo i.ino i.bytes) i.contents unclaimed reason sound.contents due
no_forks_reason geo i reason sound (inr due) = inode.no_fork_reason geo (shown_attributes geo i.ino i.bytes) i.attributes unclaimed reason sound.attributes due

no_more_reason : (geo : Geometry) (i : SeenInode) (reason : Reason) → IsSoundSeen geo i → SpeaksAgainstForks geo i reason ⊎ SpeaksAgainstEntries geo i reason → ⊥
no_more_reason geo i reason sound (inl due) = no_forks_reason geo i reason sound due
no_more_reason geo i reason sound (inr due) = files.no_reason geo (core_of geo i.bytes) i.bytes i.contents.extents reason sound.directory due.1

no_seen_reason : (geo : Geometry) (i : SeenInode) (reason : Reason) → IsSoundSeen geo i → SpeaksAgainstSeen geo i reason → ⊥
no_seen_reason geo i reason sound (inl due) = inode.no_reason geo i reason sound.inode due
no_seen_reason geo i reason sound (inr due) = no_more_reason geo i reason sound due.1

-- ---- the tree of the chunks with free inodes

tree_excludes : {R : Type 0} (t : Setting R) (geo : Geometry) (levels : List (List Sight)) (claimed : ℕ → ℕ) (fault : TreeFault) (g b : ℕ) → IsSoundTree t geo levels → NamesTreeBlock g b fault → HasTreeFault t geo levels claimed fault → ⊥
tree_excludes t geo levels claimed (tree.Checksum h k) g b sound names due = sound_excludes t geo (all_sights levels) (tree.Checksum h k) sound.blocks due
tree_excludes t geo levels claimed (tree.Header h k) g b sound names due = sound_excludes t geo (all_sights levels) (tree.Header h k) sound.blocks due
tree_excludes t geo levels claimed (tree.Level h k) g b sound names due = sound_excludes t geo (all_sights levels) (tree.Level h k) sound.blocks due
tree_excludes t geo levels claimed (tree.Range h k) g b sound names due = sound_excludes t geo (all_sights levels) (tree.Range h k) sound.blocks due
tree_excludes t geo levels claimed (tree.Order h k) g b sound names (inl due) = sound_excludes t geo (all_sights levels) (tree.Order h k) sound.blocks due
tree_excludes t geo levels claimed (tree.Order h k) g b sound names (inr due) = in_order_excludes t (leaves_of levels) h k sound.order due
tree_excludes t geo levels claimed (tree.Marked h k) g b sound names due = names
tree_excludes t geo levels claimed tree.Device g b sound names due = names
tree_excludes t geo levels claimed tree.Memory g b sound names due = names

free_tree_excludes : (geo : Geometry) (group : ℕ) (levels : List (List Sight)) (g b : ℕ) → IsSoundFreeInodeTree geo group levels → IsBadFreeInodeTree geo group levels g b → ⊥
free_tree_excludes geo group levels g b sound bad = elim bad.due.1 [
  | inl due ↦ tree_excludes (chunk_setting by_free_sparse_inode geo group) geo levels unclaimed bad.fault g b (sound.sparse bad.due.0 due.0) bad.names due.1
  | inr due ↦ tree_excludes (chunk_setting by_free_inode geo group) geo levels unclaimed bad.fault g b (sound.full bad.due.0 due.0) bad.names due.1
]

no_free_inode_reason : (geo : Geometry) (group : ℕ) (levels : List (List Sight)) (reason : Reason) → IsSoundFreeInodeTree geo group levels → SpeaksAgainstFreeInodes geo group levels reason → ⊥
no_free_inode_reason geo group levels (why.Tree g b) sound due = free_tree_excludes geo group levels g b sound due
no_free_inode_reason geo group levels _ sound due = due

-- ---- a group

no_used_reason : (geo : Geometry) (group : ℕ) (head : GroupHead) (reason : Reason) → are_used_inside geo group (agf_seen head) head.agfl ≡ true → SpeaksAgainstUsed geo group (agf_seen head) head.agfl reason → ⊥
no_used_reason geo group head (why.Header n) inside due = true_is_not_false (sym inside ∙ due.1)
no_used_reason geo group head _ inside due = due

no_head_reason : (geo : Geometry) (group : ℕ) (head : GroupHead) (reason : Reason) → IsSoundHead geo group head → SpeaksAgainstHead geo group head reason → ⊥
no_head_reason geo group head reason sound (inl due) = header_speaks (header_sector geo group 1) 216 (is_agf geo group head.agf) head.agf sound.agf reason due
no_head_reason geo group head reason sound (inr due) = elim due [
  | inl agi ↦ header_speaks (header_sector geo group 2) 312 (is_agi geo group head.agi) head.agi sound.agi reason agi
  | inr more ↦ elim more [
    | inl agfl ↦ header_speaks (header_sector geo group 3) 32 (is_agfl geo group head.agfl) head.agfl sound.agfl reason agfl
    | inr used ↦ no_used_reason geo group head reason sound.used used.1
  ]
]

no_inodes_reason : (geo : Geometry) (x : SeenGroup) (reason : Reason) → IsSoundGroup geo x → SpeaksAgainstInodes geo x reason → ⊥
no_inodes_reason geo x reason sound due = elim due.1 [
  | inl chunks ↦ inode.no_chunk_reason geo x.number x.inode_levels unclaimed reason sound.trees.chunks chunks
  | inr more ↦ elim more [
    | inl free ↦ no_free_inode_reason geo x.number x.free_inode_levels reason sound.trees.free free
    | inr bad ↦ no_seen_reason geo bad.1.inode reason (All-contains (IsSoundSeen geo) (inodes_of_group x) bad.1.inode sound.inodes bad.1.stands) bad.1.refused
  ]
]

no_group_reason : (geo : Geometry) (x : SeenGroup) (reason : Reason) → IsSoundGroup geo x → SpeaksAgainstGroup geo x reason → ⊥
no_group_reason geo x reason sound (inl due) = no_head_reason geo x.number x.head reason sound.head due
no_group_reason geo x reason sound (inr due) = elim due [
  | inl space ↦ alloc.no_reason geo x.number (agf_seen x.head) x.free unclaimed reason sound.free space.1
  | inr inodes ↦ no_inodes_reason geo x reason sound inodes
]

-- ---- claims

-- what is left of a list of parts claims no more
left_claims_less : (geo : Geometry) (n : ℕ) (some parts : List Part) → IsLeftOf some parts → times_in n (parts_claims geo some) ≤ times_in n (parts_claims geo parts)
left_claims_less geo n [] parts left = omega arith
left_claims_less geo n (p ∷ ps) [] left = absurd left
left_claims_less geo n (p ∷ ps) (q ∷ qs) (inl both) =
    let rest = left_claims_less geo n ps qs both.1 in
    let same : times_in n (part_claims geo p) ≡ times_in n (part_claims geo q) = ap (λ (x : Part). times_in n (part_claims geo x)) both.0 in
    omega (arith, rest, same, times_in-append n (part_claims geo p) (parts_claims geo ps), times_in-append n (part_claims geo q) (parts_claims geo qs))
left_claims_less geo n (p ∷ ps) (q ∷ qs) (inr later) =
    let rest = left_claims_less geo n (p ∷ ps) qs later in
    omega (arith, rest, times_in-append n (part_claims geo q) (parts_claims geo qs))

no_claim_reason : (s : SeenVolume) (reason : Reason) → ((n : ℕ) → times_in n (volume_claims s) ≤ 1) → ClaimTwice (geometry_seen s) unclaimed (volume_parts (geometry_seen s) s) reason → ⊥
no_claim_reason s (why.ClaimedTwice n) apart due =
    omega (arith, apart n, due.twice, left_claims_less (geometry_seen s) n due.some (volume_parts (geometry_seen s) s) due.among)
no_claim_reason s _ apart due = due

-- ---- the volume

no_root_reason : (geo : Geometry) (groups : List SeenGroup) (reason : Reason) → has_root geo (inodes_of_groups groups) ≡ true → LacksRoot geo groups reason → ⊥
no_root_reason geo groups (why.Inode n) root due = true_is_not_false (sym root ∙ due.2)
no_root_reason geo groups _ root due = due

no_reason_behind : (sectors : ℕ) (s : SeenVolume) (reason : Reason) → IsValidVolume sectors s → SpeaksBehind s reason → ⊥
no_reason_behind sectors s reason valid (inl bad) =
    no_group_reason (geometry_seen s) bad.group reason (All-contains (IsSoundGroup (geometry_seen s)) s.groups bad.group valid.groups bad.stands) bad.refused
no_reason_behind sectors s reason valid (inr due) = elim due [
  | inl root ↦ no_root_reason (geometry_seen s) s.groups reason valid.root root
  | inr more ↦ elim more [
    | inl claims ↦ no_claim_reason s reason valid.apart claims
    | inr due ↦ log.no_reason (log_sectors s.log) reason valid.log due
  ]
]

pub no_reason : (sectors : ℕ) (s : SeenVolume) (reason : Reason) → IsValidVolume sectors s → SpeaksAgainstVolume sectors s reason → ⊥
no_reason sectors s reason valid (inl due) = superblock_speaks sectors s.superblock valid.superblock reason due
no_reason sectors s reason valid (inr due) = no_reason_behind sectors s reason valid due.1
