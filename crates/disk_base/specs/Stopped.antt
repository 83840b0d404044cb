-- What a stop inside a call leaves of a disk in memory, and which of these images it gives.
use Rattle.std.specs.Prelude.{◌≡◌, ℕ, ◌+◌, ◌-◌, ◌*◌, ◌/◌, ◌<◌, ◌≤◌, min, List, [], ◌∷◌, length, take, drop, replicate, slice_index_or, Bool, true, false, ◌⊎◌}
use Rattle.disk_base.specs.Image.{with_bytes, AgreesOutside, HalfWritten}
use Rattle.disk_base.specs.Past.{Event, Idle, Wrote, GaveUp, Flushed, Created, image_after, Leaves}
use Rattle.disk_base.specs.Stops.{After}

-- what a call did, by its number; one that was not recorded failed
abbrev pub event_at : List Event → ℕ → Event
event_at past call = slice_index_or past call Idle

-- what a stop inside a call may leave, of a disk of which it might leave these before: the call's own write or discard
-- counts as pending, and a flush as not done
abbrev pub meanwhile : (List ℕ → Type 0) → Event → List ℕ → Type 0
meanwhile may_leave Idle = may_leave
meanwhile may_leave (Wrote at bytes) = After (HalfWritten at bytes) may_leave
meanwhile may_leave (GaveUp at n) = After (AgreesOutside (512 * at) (512 * n)) may_leave
meanwhile may_leave Flushed = may_leave
meanwhile may_leave (Created n) = may_leave

-- a stop inside a call may leave this, of a disk that held `first` when it was made, and to which these calls came
abbrev pub LeftInside : List ℕ → List Event → ℕ → List ℕ → Type 0
LeftInside first past call c = meanwhile (Leaves (take call past) first (λ d. d ≡ first)) (event_at past call) c

-- whether a call left all before it lasting
abbrev pub settles : Event → Bool
settles Idle = false
settles (Wrote at bytes) = false
settles (GaveUp at n) = false
settles Flushed = true
settles (Created n) = true

-- so many of the first `end` calls came up to the last of them that left all before it lasting
pub record IsLasting (past : List Event) (end lasting : ℕ) : Type 0 where
  pub bound : lasting ≤ end
  pub settled : (lasting ≡ 0) ⊎ ((1 ≤ lasting) × (settles (event_at past (lasting - 1)) ≡ true))
  pub none_since : (i : ℕ) → lasting ≤ i → i < end → settles (event_at past i) ≡ false

-- how many sectors a call wrote or gave up
abbrev pub touched : Event → ℕ
touched Idle = 0
touched (Wrote at bytes) = length bytes / 512
touched (GaveUp at n) = n
touched Flushed = 0
touched (Created n) = 0

-- a disk after the first `keep` sectors of a call, with `fill` in those that it gave up
abbrev pub cut_short : ℕ → ℕ → List ℕ → Event → List ℕ
cut_short keep fill image Idle = image
cut_short keep fill image (Wrote at bytes) = with_bytes image (512 * at) (take (512 * min keep (length bytes / 512)) bytes)
cut_short keep fill image (GaveUp at n) = with_bytes image (512 * at) (replicate (512 * min keep n) fill)
cut_short keep fill image Flushed = image
cut_short keep fill image (Created n) = image

-- after the first `keep` sectors of these calls, in their order
abbrev pub kept_calls : List Event → ℕ → ℕ → List ℕ → List ℕ
kept_calls [] keep fill image = image
kept_calls (event ∷ events) keep fill image = kept_calls events (keep - touched event) fill (cut_short keep fill image event)

-- the image that is given for a stop inside a call: what was lasting before the call, and then the first `keep` sectors
-- of the calls since, with that call
pub record IsStopped (first : List ℕ) (past : List Event) (call keep fill : ℕ) (image : List ℕ) : Type 0 where
  pub lasting : ℕ
  pub is_lasting : IsLasting past call lasting
  pub image_is : image ≡ kept_calls (drop lasting (take (call + 1) past)) keep fill (image_after (take lasting past) first)
