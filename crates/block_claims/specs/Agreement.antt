-- Blocks that are claimed, and volumes that hold the same in some of their blocks. A volume is a function from a block's
-- number to its bytes; a claim on a block is one standing of its number in a list.
use Rattle.std.specs.Prelude.{◌≡◌, ℕ, ◌+◌, ◌*◌, ◌/◌, ◌<◌, ◌≤◌, Bool, true, ◌==◌, ◌&&◌, not, List, ◌++◌, length, slice_index, count_by}
use Rattle.std.specs.List.{flat_map, list_all, list_any}
use Rattle.disk_base.specs.Image.{bytes_at}

-- block n of an image, of 4096 bytes
abbrev pub block : List ℕ → ℕ → List ℕ
block image n = bytes_at image (4096 * n) 4096

-- how often block n stands in a list
abbrev pub times_in : ℕ → List ℕ → ℕ
times_in n blocks = count_by (λ b. n == b) blocks

-- no block stands twice
abbrev pub StandApart : List ℕ → Type 0
StandApart blocks = (n : ℕ) → times_in n blocks ≤ 1

-- two volumes hold the same in each block of the list, and in each block that isn't in it
abbrev pub AgreeOn : List ℕ → (ℕ → List ℕ) → (ℕ → List ℕ) → Type 0
AgreeOn blocks old new = (n : ℕ) → 0 < times_in n blocks → new n ≡ old n

abbrev pub AgreeElsewhere : List ℕ → (ℕ → List ℕ) → (ℕ → List ℕ) → Type 0
AgreeElsewhere blocks old new = (n : ℕ) → times_in n blocks ≡ 0 → new n ≡ old n

-- two images of one length that are equal at each byte outside the blocks
pub record DiffersIn (blocks old new : List ℕ) : Type 0 where
  pub same_length : length new ≡ length old
  pub same : (i : ℕ) → times_in (i / 4096) blocks ≡ 0 → slice_index new i ≡ slice_index old i

-- ---- claims, one after the other: `old` and `new` say how often each block was claimed, before and after

-- these blocks were claimed; where no block is ever claimed twice, each once, and none of them before
abbrev pub Claimed : (ℕ → ℕ) → List ℕ → (ℕ → ℕ) → Type 0
Claimed old blocks new = (n : ℕ) → new n ≡ old n + times_in n blocks

-- block n was claimed before and stands in the list, or stands in it twice
abbrev pub IsTwice : (ℕ → ℕ) → List ℕ → ℕ → Type 0
IsTwice old blocks n = 2 ≤ old n + times_in n blocks

-- things that were taken one after the other: each passes its test, and its blocks were claimed
pub record Passed {X : Type 0} (test : X → Bool) (blocks : X → List ℕ) (xs : List X) (old new : ℕ → ℕ) : Type 0 where
  pub sound : list_all test xs ≡ true
  pub claimed : Claimed old (flat_map blocks xs) new

-- one of them that a number names doesn't pass
abbrev pub SomeFails : {X : Type 0} → (X → Bool) → (X → ℕ) → List X → ℕ → Type 0
SomeFails test name xs k = list_any (λ x. name x == k && not (test x)) xs ≡ true

-- ---- what follows, as laws

-- what is claimed isn't free: volumes that agree outside the free blocks agree on what is claimed
abbrev pub FreeIsElsewhere : Type 0
FreeIsElsewhere =
    (claimed free : List ℕ) (old new : ℕ → List ℕ)
    → StandApart (claimed ++ free) → AgreeElsewhere free old new → AgreeOn claimed old new

-- images that differ in some blocks hold the same in each other block
abbrev pub DiffersInBlocks : Type 0
DiffersInBlocks = (blocks old new : List ℕ) → DiffersIn blocks old new → AgreeElsewhere blocks (block old) (block new)
