-- A disk that is copied without its free sectors, which are given as runs.
use Rattle.std.specs.Prelude.{◌≡◌, ℕ, ◌-◌, ◌≤◌, List, [], ◌∷◌, length, replicate, true, All, IsTrue}
use Rattle.std.specs.List.{sum_by}
use Rattle.disk_base.specs.declared.device.Blocks.{Ghosts as BlocksGhosts}
use Rattle.disk_base.specs.declared.device.Disk.{Ghosts as DiskGhosts}
use Rattle.disk_base.specs.Image.{sector}
use Rattle.run_copy.specs.declared.transfer.Transfer.{Transfer}
use Rattle.run_copy.specs.Copies.{WritesAtMost, pieces_of, pieces_written}
use Rattle.run_set.specs.declared.run.Run.{Run}
use Rattle.run_set.specs.Runs.{Holds, past_of}

-- a disk that holds zeros in the sectors of the runs, and what the source holds in every other
pub record IsSparseCopy (runs : List Run) (source new : List ℕ) : Type 0 where
  pub same_length : length new ≡ length source
  pub freed : (k : ℕ) → Holds runs k → sector new k ≡ replicate 512 0
  pub kept : (k : ℕ) → (Holds runs k → ⊥) → sector new k ≡ sector source k

-- each run ends at that sector or before it
abbrev pub EndWithin : ℕ → List Run → Type 0
EndWithin sectors runs = All (λ (run : Run). past_of run ≤ sectors) runs

-- the sectors from `low` up to below `end` are copied to the same places, without pieces of zeros
abbrev pub between : ℕ → ℕ → Transfer
between low end = record { from = low; to = low; count = end - low; sparse = true }

-- what is copied of the sectors from `low` up to below `sectors`: the greatest runs of them that none of the runs has,
-- one before each run and one behind the last; where no sector lies there, it is empty
abbrev pub kept_from : ℕ → List Run → ℕ → List Transfer
kept_from low [] sectors = between low sectors ∷ []
kept_from low (run ∷ runs) sectors = between low run.start ∷ kept_from (past_of run) runs sectors

-- how many pieces of them aren't all zero; each of them is divided from its own first sector on
abbrev pub pieces_kept : List ℕ → ℕ → List Run → ℕ → ℕ
pieces_kept source low runs sectors = sum_by (λ (t : Transfer). pieces_written source t (pieces_of t)) (kept_from low runs sectors)

-- the same of a whole disk of so many sectors
abbrev pub kept_pieces : List ℕ → List Run → ℕ → ℕ
kept_pieces source runs sectors = pieces_kept source 0 runs sectors

-- of a call that was lent the two disks, where they tell what they hold: the target is a sparse copy
abbrev pub CopiedOut : {S T : Type 0} → BlocksGhosts S → S → BlocksGhosts T → T → List Run → Type 0
CopiedOut s source t target' runs = IsTrue s.tells → IsTrue t.tells → IsSparseCopy runs (s.image source) (t.image target')

-- it wrote at most once for each piece of what is kept that isn't all zero
abbrev pub KeptWrites : {S T : Type 0} → BlocksGhosts S → S → BlocksGhosts T → DiskGhosts T → T → T → List Run → Type 0
KeptWrites s source t disk target target' runs =
    IsTrue s.tells → IsTrue t.tells → WritesAtMost (kept_pieces (s.image source) runs (s.size source)) (disk.log target) (disk.log target')
