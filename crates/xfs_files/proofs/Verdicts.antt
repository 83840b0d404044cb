-- What speaks against a directory, and what doesn't.
use Rattle.std.proofs.Common.{◌≡◌, ℕ, false, Result, Ok, Err, List, [], ◌∷◌, get_or, inl, inr, refl, sym, subst, arith}
use Rattle.std.specs.List.{Contains}
use Rattle.std.specs.Result.{IfErr, is_ok}
use Rattle.std.proofs.lemmas.Bool.{both_ways}
use Rattle.std.proofs.lemmas.List.Elements.{All-contains}
use Rattle.xfs_dir.specs.Block.{IsBlockEntryFault, block_items}
use Rattle.xfs_dir.specs.Short.{IsShortEntryFault}
use Rattle.xfs_dir.specs.ShortScan.{short_items}
use Rattle.xfs_dir.specs.declared.entry.EntryFault.{EntryFault}
use Rattle.xfs_dir.specs.declared.short.ShortEntries.{ShortEntries}
use Rattle.xfs_dir.proofs.Exact.{block_laws, short_laws}
use Rattle.xfs_inode.specs.Seen.{SeenExtent}
use Rattle.xfs_inode.specs.declared.core_fields.Core.{Core}
use Rattle.xfs_super.specs.Geometry.{Geometry}
use Rattle.xfs_super.specs.declared.reason.CheckFault.{CheckFault}
use Rattle.xfs_super.specs.declared.reason.CheckFault.TheVariants as check
use Rattle.xfs_super.specs.declared.reason.Reason.{Reason}
use Rattle.xfs_super.specs.declared.reason.Reason.TheVariants as why
use Rattle.xfs_files.specs.Directory.{DirectoryBlock, entry_blocks, short_form, spells_entry_header, IsSoundEntryBlock, IsSoundShortForm, IsSoundDirectory, IsBadDirectory, SpeaksAgainstDirectory}
use Rattle.xfs_files.specs.inside.Judging.{IsBlocksFault}

-- ---- blocks

one_is : (a b : DirectoryBlock) → Contains (a ∷ []) b → a ≡ b
one_is a b one =
    let first : one.0 ≡ 0 = omega (arith, one.1) in
    subst (λ (k : ℕ). get_or (a ∷ []) k b ≡ b) first one.2

module _ (geo : Geometry) (ino : ℕ) where
  pub wrong_header : (b : DirectoryBlock) → spells_entry_header geo ino b ≡ false → IsSoundEntryBlock geo ino b → ⊥
  wrong_header b h sound = both_ways (spells_entry_header geo ino b) h sound.header

  pub wrong_items : (b : DirectoryBlock) (at : ℕ) → IsBlockEntryFault b.bytes at → IsSoundEntryBlock geo ino b → ⊥
  wrong_items b at fault sound = (block_laws b.bytes (block_items b.bytes)).excluded sound.items at fault

  pub bad_block : (b : DirectoryBlock) → (IsSoundEntryBlock geo ino b → ⊥) → IsBlocksFault geo ino (b ∷ []) (check.Bad (why.Directory ino b.file))
  bad_block b unsound = inr (record {
    file = b.file;
    names = refl;
    bad = record { bad = b; stands = (0, omega arith, refl); named = refl; unsound = unsound };
  })

  -- a fault of some blocks is one of more
  pub fault_of_more : (some all : List DirectoryBlock) (fault : CheckFault) → ((b : DirectoryBlock) → Contains some b → Contains all b) → IsBlocksFault geo ino some fault → IsBlocksFault geo ino all fault
  fault_of_more some all fault more (inl device) = inl device
  fault_of_more some all fault more (inr due) = inr (record {
    file = due.file;
    names = due.names;
    bad = record { bad = due.bad.bad; stands = more due.bad.bad due.bad.stands; named = due.bad.named; unsound = due.bad.unsound };
  })

  only_one : (all : List DirectoryBlock) (a b : DirectoryBlock) → Contains all a → Contains (a ∷ []) b → Contains all b
  only_one all a b there one = subst (Contains all) (one_is a b one) there

  pub fault_of_one : (all : List DirectoryBlock) (a b : DirectoryBlock) (fault : CheckFault) → a ≡ b → Contains all b → IsBlocksFault geo ino (a ∷ []) fault → IsBlocksFault geo ino all fault
  fault_of_one all a b fault same there due = fault_of_more (a ∷ []) all fault (λ x one. only_one all a x (subst (Contains all) (sym same) there) one) due

-- ---- a short form

pub wrong_short_form : (core : Core) (bytes : List ℕ) (at : ℕ) → IsShortEntryFault (short_form core bytes) at → IsSoundShortForm core bytes → ⊥
wrong_short_form core bytes at fault sound = (short_laws (short_form core bytes) (short_items (short_form core bytes))).excluded sound at fault

pub unspelled_short_form : (core : Core) (bytes : List ℕ) (read : Result ShortEntries EntryFault) → is_ok read ≡ false → IfErr read (λ fault. IsShortEntryFault (short_form core bytes) fault.at) → IsSoundShortForm core bytes → ⊥
unspelled_short_form core bytes (Ok entries) no_error due sound = absurd (cc)
unspelled_short_form core bytes (Err fault) no_error due sound = wrong_short_form core bytes fault.at due sound

-- ---- against a sound directory no reason speaks

bad_excluded : (geo : Geometry) (core : Core) (bytes : List ℕ) (es : List SeenExtent) (file : ℕ) → IsSoundDirectory geo core bytes es → IsBadDirectory geo core bytes es file → ⊥
bad_excluded geo core bytes es file sound bad = elim bad.due [
  | inl short ↦ short.2 (sound.short bad.directory short.0)
  | inr blocks ↦ blocks.1.unsound (All-contains (IsSoundEntryBlock geo core.ino) (entry_blocks es) blocks.1.bad (sound.blocks bad.directory blocks.0) blocks.1.stands)
]

pub no_reason : (geo : Geometry) (core : Core) (bytes : List ℕ) (es : List SeenExtent) (reason : Reason) → IsSoundDirectory geo core bytes es → SpeaksAgainstDirectory geo core bytes es reason → ⊥
no_reason geo core bytes es (why.Directory n file) sound due = bad_excluded geo core bytes es file sound due.1
no_reason geo core bytes es _ sound due = due
