-- What a disk in memory keeps of its calls, and what they leave when they are replayed.
use Rattle.std.specs.Prelude.{◌≡◌, ℕ, ◌+◌, ◌*◌, ◌%◌, List, [], ◌∷◌, length, take, drop, map, replicate, Bool, true, false, ◌==◌, ◌&&◌, nat_le, nat_lt, ◌^◌}
use Rattle.disk_base.specs.declared.memory.Effect.{Effect}
use Rattle.disk_base.specs.declared.memory.Effect.TheVariants.{Nothing, Write, Discard, Flush, Create}
use Rattle.disk_base.specs.Image.{with_bytes, AgreesOutside, HalfWritten}
use Rattle.disk_base.specs.Stops.{After}

-- what a call did
pub data Event : Type 0 where
  Idle : Event  -- it failed, or changed nothing that a stop leaves
  Wrote : (at : ℕ) (bytes : List ℕ) → Event
  GaveUp : (at n : ℕ) → Event
  Flushed : Event
  Created : (n : ℕ) → Event

-- what the record says that a call did; the bytes of writes stand in a list of their own
abbrev pub event_of : List ℕ → Effect → Event
event_of written Nothing = Idle
event_of written (Write at from n) = Wrote at (take n (drop from written))
event_of written (Discard at n) = GaveUp at n
event_of written Flush = Flushed
event_of written (Create n) = Created n

abbrev pub events_of : List ℕ → List Effect → List Event
events_of written history = map (event_of written) history

-- how many bytes the record needs to have for it
abbrev pub record_end : Effect → ℕ
record_end Nothing = 0
record_end (Write at from n) = from + n
record_end (Discard at n) = 0
record_end Flush = 0
record_end (Create n) = 0

-- what a disk that held this holds after the call; a discarded sector holds 512 bytes A5
abbrev pub replayed : List ℕ → Event → List ℕ
replayed image Idle = image
replayed image (Wrote at bytes) = with_bytes image (512 * at) bytes
replayed image (GaveUp at n) = with_bytes image (512 * at) (replicate (512 * n) 0xA5)
replayed image Flushed = image
replayed image (Created n) = replicate (512 * n) 0

abbrev pub image_after : List Event → List ℕ → List ℕ
image_after [] image = image
image_after (event ∷ events) image = image_after events (replayed image event)

-- what a stop may leave after a call, of a disk that held this: each sector of a write is as it was or, whole, as
-- written; those of a discard hold anything; a flush or a creation leaves what is held
abbrev pub pending : List ℕ → (List ℕ → Type 0) → Event → List ℕ → Type 0
pending image may_leave Idle = may_leave
pending image may_leave (Wrote at bytes) = After (HalfWritten at bytes) may_leave
pending image may_leave (GaveUp at n) = After (AgreesOutside (512 * at) (512 * n)) may_leave
pending image may_leave Flushed = λ c. c ≡ image
pending image may_leave (Created n) = λ c. c ≡ replicate (512 * n) 0

-- what a stop may leave after these calls, of a disk that held this and of which a stop might leave that
abbrev pub Leaves : List Event → List ℕ → (List ℕ → Type 0) → List ℕ → Type 0
Leaves [] image may_leave c = may_leave c
Leaves (event ∷ events) image may_leave c = Leaves events (replayed image event) (pending image may_leave event) c

-- whether a call is to sectors that are there, or creates no more bytes than can be counted
abbrev pub is_inside : List ℕ → Event → Bool
is_inside image Idle = true
is_inside image (Wrote at bytes) = nat_le (512 * at + length bytes) (length image) && (length bytes % 512 == 0)
is_inside image (GaveUp at n) = nat_le (512 * at + 512 * n) (length image)
is_inside image Flushed = true
is_inside image (Created n) = nat_lt (512 * n) (2 ^ 64)

abbrev pub are_inside : List Event → List ℕ → Bool
are_inside [] image = true
are_inside (event ∷ events) image = is_inside image event && are_inside events (replayed image event)

-- whether a call made the disk a new one
abbrev pub is_created : Event → Bool
is_created Idle = false
is_created (Wrote at bytes) = false
is_created (GaveUp at n) = false
is_created Flushed = false
is_created (Created n) = true
