-- The book-keeping of a disk that tells what it holds, and what an attach does.
use Rattle.std.specs.Prelude.{◌≡◌, ℕ, ◌*◌, max, List, [], ◌∷◌, ◌++◌, replicate, Bool, IsTrue, ◌↔◌, Option, None, Some}
use Rattle.disk_base.specs.declared.device.Mode.{Mode}
use Rattle.disk_base.specs.declared.device.Mode.TheVariants.{Read, Change, Create}
use Rattle.disk_base.specs.declared.device.Ask.{Ask}
use Rattle.disk_base.specs.Faults.{counted}

pub record Log : Type 0 where
  pub name : List ℕ  -- its own name
  pub asks : ℕ  -- how often it was asked to attach, since it was made
  pub last : Option Ask  -- the last of these
  pub greatest : ℕ  -- the greatest Create asked for, in sectors; 0 where there was none
  pub discarded : List (ℕ × ℕ)  -- the runs of sectors given up since the last ask
  pub writes : ℕ  -- how many calls of `write` came since the last ask

-- a disk that nobody asked for yet
abbrev pub fresh : List ℕ → Log
fresh name = record { name = name; asks = 0; last = None; greatest = 0; discarded = []; writes = 0 }

-- the sectors that a mode asks to be created
abbrev pub created : Mode → ℕ
created Read = 0
created Change = 0
created (Create n) = n

-- a disk that is attached so may be written
abbrev pub IsWritable : Option Mode → Type 0
IsWritable None = ⊥
IsWritable (Some Read) = ⊥
IsWritable (Some Change) = Unit {0}
IsWritable (Some (Create n)) = Unit {0}

-- one more ask, by this name and mode, answered or not
pub record Asked (old new : Log) (name : List ℕ) (mode : Mode) : Type 0 where
  pub same_name : new.name ≡ old.name
  pub asks : new.asks ≡ counted old.asks
  pub last : (own : Bool) × (new.last ≡ Some (record { own = own; mode = mode })) × (IsTrue own ↔ (name ≡ old.name))
  pub greatest : new.greatest ≡ max old.greatest (created mode)
  pub discarded : new.discarded ≡ []
  pub writes : new.writes ≡ 0

-- an attach to what exists keeps it, answered or not
abbrev pub Keeps : Mode → List ℕ → List ℕ → Type 0
Keeps Read old new = new ≡ old
Keeps Change old new = new ≡ old
Keeps (Create n) old new = Unit {0}

-- a created disk is all zero
abbrev pub IsBlank : Mode → List ℕ → Type 0
IsBlank Read image = Unit {0}
IsBlank Change image = Unit {0}
IsBlank (Create n) image = image ≡ replicate (512 * n) 0

-- a created disk has as many sectors as were asked for
abbrev pub HasSectors : Mode → ℕ → Type 0
HasSectors Read size = Unit {0}
HasSectors Change size = Unit {0}
HasSectors (Create n) size = size ≡ n

-- one more call of `write`, answered or not
abbrev pub written : Log → Log
written log = record log { writes = counted log.writes }

-- one more run given up
abbrev pub gave_up : Log → ℕ → ℕ → Log
gave_up log at n = record log { discarded = log.discarded ++ (at, n) ∷ [] }
