-- Layouts: where partitions come to stand one behind the other.
use Rattle.std.specs.Prelude.{◌≡◌, ℕ, ◌+◌, ◌-◌, ◌<◌, ◌≤◌, ◌==◌, if◌then◌else◌, List, length, slice_index_or}
use Rattle.layout_plan.specs.declared.line.Piece.{Piece}
use Rattle.layout_plan.specs.declared.line.Spot.{Spot}
use Rattle.layout_plan.specs.declared.part.Role.{Role}
use Rattle.layout_plan.specs.declared.part.Role.TheVariants.{Slot, Extended, Logical}
use Rattle.layout_plan.specs.Alignment.{IsNext}

-- what lists are read with beyond their ends
abbrev pub no_piece : Piece
no_piece = record { role = Slot; count = 0 }

abbrev pub no_spot : Spot
no_spot = record { ebr = 0; start = 0; end = 0 }

abbrev pub piece_at : List Piece → ℕ → Piece
piece_at pieces k = slice_index_or pieces k no_piece

abbrev pub spot_at : List Spot → ℕ → Spot
spot_at spots k = slice_index_or spots k no_spot

-- the end of a partition that starts there; that of the extended one, so far, is its start
abbrev pub end_from : Role → ℕ → ℕ → ℕ
end_from Slot count start = start + count
end_from Extended count start = start
end_from Logical count start = start + count

-- the first partition starts at begin
pub record StandsFirst (begin : ℕ) (role : Role) (count : ℕ) (spot : Spot) : Type 0 where
  pub no_record : spot.ebr ≡ 0
  pub starts : spot.start ≡ begin
  pub ends : spot.end ≡ end_from role count spot.start

-- a slot, an entry or the extended partition starts at the next multiple of align
pub record StandsBehind (align behind : ℕ) (role : Role) (count : ℕ) (spot : Spot) : Type 0 where
  pub no_record : spot.ebr ≡ 0
  pub starts : IsNext align behind spot.start
  pub ends : spot.end ≡ end_from role count spot.start

-- the first boot record stands on the extended partition's first sector, a later one at the next multiple of align
abbrev pub IsRecordPlace : ℕ → Role → ℕ → ℕ → Type 0
IsRecordPlace align Extended behind ebr = ebr ≡ behind
IsRecordPlace align Slot behind ebr = IsNext align behind ebr
IsRecordPlace align Logical behind ebr = IsNext align behind ebr

-- a logical partition starts at the next multiple of align behind its boot record
pub record StandsInside (align : ℕ) (before : Role) (behind count : ℕ) (spot : Spot) : Type 0 where
  pub record_place : IsRecordPlace align before behind spot.ebr
  pub starts : IsNext align (spot.ebr + 1) spot.start
  pub ends : spot.end ≡ spot.start + count

-- a partition of that role and length stands behind a sector, where one of the role before ends
abbrev pub Stands : ℕ → Role → ℕ → Role → ℕ → Spot → Type 0
Stands align before behind Slot count spot = StandsBehind align behind Slot count spot
Stands align before behind Extended count spot = StandsBehind align behind Extended count spot
Stands align before behind Logical count spot = StandsInside align before behind count spot

-- the first piece starts at begin, and each later one stands behind the one before it
-- (a logical one is never the first of a plan, since the extended one comes before it)
pub record IsLayout (align begin : ℕ) (pieces : List Piece) (spots : List Spot) : Type 0 where
  pub as_many : length spots ≡ length pieces
  pub first : 0 < length pieces → StandsFirst begin (piece_at pieces 0).role (piece_at pieces 0).count (spot_at spots 0)
  pub following : (k : ℕ) → k + 1 < length pieces
      → let before = piece_at pieces k in
      let piece = piece_at pieces (k + 1) in
      Stands align before.role (spot_at spots k).end piece.role piece.count (spot_at spots (k + 1))

-- where the last piece ends; a layout of none ends at the floor
abbrev pub last_end : ℕ → List Spot → ℕ
last_end floor spots = if length spots == 0 then floor else (spot_at spots (length spots - 1)).end

abbrev pub Fits : ℕ → ℕ → List Spot → Type 0
Fits floor limit spots = last_end floor spots ≤ limit

-- there is exactly one layout for a list of pieces
abbrev pub OneLayout : Type 0
OneLayout =
    (align begin : ℕ) (pieces : List Piece) → 0 < align
    → ((spots : List Spot) × IsLayout align begin pieces spots)
    × ((xs ys : List Spot) → IsLayout align begin pieces xs → IsLayout align begin pieces ys → xs ≡ ys)
