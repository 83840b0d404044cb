-- The part of the line that one physical volume has.
use Rattle.std.specs.Prelude.{◌≡◌, ℕ, ◌+◌, ◌<◌, ◌^◌, List, map}
use Rattle.lvm_group.specs.declared.part.Part.{Part}
use Rattle.lvm_group.specs.Free.{free_run}
use Rattle.lvm_group.specs.inside.Line.{gaps, from_place, line_begin}

-- gaps as sectors
abbrev pub as_runs : Part → List (ℕ × ℕ) → List (ℕ × ℕ × ℕ)
as_runs part list = map (free_run part.member part.start part.extent) list

-- the gaps of the part
abbrev pub gaps_of : Part → List (ℕ × ℕ) → List (ℕ × ℕ)
gaps_of part es = gaps part.lo part.lo part.end (from_place part.lo es)

-- the part of physical volume `member`
pub record IsPartOf (member start count extent : ℕ) (part : Part) : Type 0 where
  pub member_is : part.member ≡ member
  pub start_is : part.start ≡ start
  pub extent_is : part.extent ≡ extent
  pub lo_is : part.lo ≡ line_begin member
  pub end_is : part.end ≡ line_begin member + count
  pub low : part.lo < 2 ^ 127
