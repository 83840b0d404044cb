-- A disk in memory, and exactly when its calls fail.
use Rattle.std.specs.Prelude.{◌≡◌, ◌≢◌, ℕ, ◌+◌, ◌*◌, ◌<◌, ◌≤◌, ◌/◌, ◌%◌, List, [], ◌∷◌, ◌++◌, length, replicate, Bool, ◌==◌, nat_lt, nat_le, ◌||◌, Option, None, Some, ◌⊎◌, true, false, if◌then◌else◌}
use Rattle.std.specs.List.{list_any}
use Rattle.std.proofs.Common.{◌∙◌, ap, sym, subst, arith, refl, take}
use Rattle.std.proofs.lemmas.List.{take_all, length-map}
use Rattle.disk_base.specs.declared.device.Mode.{Mode}
use Rattle.disk_base.specs.declared.device.Mode.TheVariants.{Read, Change, Create}
use Rattle.disk_base.specs.declared.memory.MemLimits.{MemLimits}
use Rattle.disk_base.specs.declared.memory.MemDisk.{MemDisk}
use Rattle.disk_base.specs.Faults.{counted}
use Rattle.disk_base.specs.Image.{with_bytes}
use Rattle.disk_base.specs.Log.{Log, fresh, created, written, gave_up}
use Rattle.disk_base.specs.Past.{Event, event_of, Idle, Wrote, GaveUp, Created, events_of, is_created, Leaves}
use Rattle.disk_base.specs.Stopped.{event_at}
use Rattle.disk_base.specs.Replays.{leaves_held}
use Rattle.disk_base.specs.Stops.{Stops, AreOf, Waits, waits_refl, waits_on}

-- all that a disk in memory is
pub record State : Type 0 where
  pub image : List ℕ
  pub log : Log
  pub attached : Option Mode
  pub faults : ℕ
  pub calls : ℕ  -- how many calls came so far: the next one's number
  pub kept : ℕ  -- how many bytes the writes that answered Ok had
  pub limits : MemLimits
  pub failing : List ℕ  -- the numbers of the calls that fail
  pub first : List ℕ  -- what it held when it was made
  pub past : List Event  -- what each call did, while there was room to record it

-- the state of a disk, from its fields
abbrev pub log_of : MemDisk → Log
log_of d = record { name = d.name.items; asks = d.asks; last = d.last; greatest = d.greatest; discarded = d.discarded.items; writes = d.writes }

abbrev pub state_of : MemDisk → State
state_of d = record { image = d.bytes.items; log = log_of d; attached = d.attached; faults = d.faults; calls = d.calls; kept = length d.written.items; limits = d.limits; failing = d.failing.items; first = d.first.items; past = events_of d.written.items d.history.items }

-- a disk of that name that was just made, and is not attached
abbrev pub made : List ℕ → List ℕ → MemLimits → List ℕ → State
made name image limits failing = record { image = image; log = fresh name; attached = None; faults = 0; calls = 0; kept = 0; limits = limits; failing = failing; first = image; past = [] }

-- whether the next call, a write of `more` bytes or, with 0, another call, fails by its number or because the record is full
abbrev pub refuses : State → ℕ → Bool
refuses s more = list_any (λ n. n == s.calls) s.failing || (nat_le s.limits.calls s.calls || nat_lt s.limits.bytes (s.kept + more))

-- no stop inside a call can be asked for: it was not made yet, or it made the disk a new one
abbrev pub HasNoStops : State → ℕ → Type 0
HasNoStops s call = (s.calls ≤ call) ⊎ (is_created (event_at s.past call) ≡ true)

-- a call that answered Ok was counted and recorded, and one that failed raised the count of faults as well, and was
-- recorded where there was room
abbrev pub called : State → Event → State
called s event = record s { calls = counted s.calls; past = s.past ++ event ∷ [] }

abbrev pub failed : State → State
failed s = record s { calls = counted s.calls; faults = counted s.faults; past = if nat_lt s.calls s.limits.calls then s.past ++ Idle ∷ [] else s.past }

-- a call of `write` is in the log, answered or not
abbrev pub tried_to_write : State → State
tried_to_write s = record s { log = written s.log }

abbrev pub wrote : State → ℕ → List ℕ → State
wrote s at bytes = record (called (tried_to_write s) (Wrote at bytes)) { image = with_bytes s.image (512 * at) bytes; kept = s.kept + length bytes }

-- what a discarded sector holds: 512 bytes A5
abbrev pub discarded : State → ℕ → ℕ → State
discarded s at n = record (called s (GaveUp at n)) { image = with_bytes s.image (512 * at) (replicate (512 * n) 0xA5); log = gave_up s.log at n }

-- a disk that was asked for
abbrev pub asked : State → Log → Option Mode → State
asked s log attached = record s { log = log; attached = attached }

abbrev pub image_after : Mode → List ℕ → List ℕ
image_after Read image = image
image_after Change image = image
image_after (Create n) image = replicate (512 * n) 0

-- a disk that was made one of so many sectors of zeros
abbrev pub blanked : State → ℕ → State
blanked s n = record (called s (Created n)) { image = replicate (512 * n) 0 }

abbrev pub attach_event : Mode → Event
attach_event Read = Idle
attach_event Change = Idle
attach_event (Create n) = Created n

abbrev pub attached_ok : State → Log → Mode → State
attached_ok s log mode = record (called (asked s log (Some mode)) (attach_event mode)) { image = image_after mode s.image }

-- an attach fails by its number or the full record, by another name, and by a Create above the room
abbrev pub IsRefused : State → List ℕ → Mode → Type 0
IsRefused s name mode = (refuses s 0 ≡ true) ⊎ ((name ≢ s.log.name) ⊎ (s.limits.room < created mode))

pub record IsGranted (s : State) (name : List ℕ) (mode : Mode) : Type 0 where
  pub passes : refuses s 0 ≡ false
  pub own : name ≡ s.log.name
  pub room : created mode ≤ s.limits.room

-- a stop at the moment of some call since that one might have left this image, of a disk that held `first` when it was
-- made and then saw so many calls, of which these are recorded
abbrev pub LeftSince : List ℕ → List Event → ℕ → ℕ → List ℕ → Type 0
LeftSince first past calls t c = (k : ℕ) × (t ≤ k) × (k ≤ calls) × Leaves (take k past) first (λ d. d ≡ first) c

-- what a stop leaves, now and since the moment of a call: the clock counts calls
abbrev pub stops_from : List ℕ → List Event → ℕ → Stops
stops_from first past calls = record { moment = calls; may_leave = Leaves past first (λ d. d ≡ first); left_since = LeftSince first past calls }

abbrev pub stops_of : State → Stops
stops_of s = stops_from s.first s.past s.calls

-- two states between which a disk was only read
pub record OnlyRead (a b : MemDisk) : Type 0 where
  pub image : b.bytes.items ≡ a.bytes.items
  pub log : log_of b ≡ log_of a
  pub attached : b.attached ≡ a.attached
  pub discards : b.limits.discards ≡ a.limits.discards
  pub faults : a.faults ≤ b.faults
  pub stops : Waits (stops_of (state_of a)) (stops_of (state_of b))

pub onlyread_refl : (d : MemDisk) → OnlyRead d d
onlyread_refl d = record { image = refl; log = refl; attached = refl; discards = refl; faults = omega arith; stops = waits_refl (stops_of (state_of d)) }

pub onlyread_trans : (a b c : MemDisk) → OnlyRead a b → OnlyRead b c → OnlyRead a c
onlyread_trans a b c r s = record { image = s.image ∙ r.image; log = s.log ∙ r.log; attached = s.attached ∙ r.attached; discards = s.discards ∙ r.discards; faults = omega arith; stops = waits_on _ _ _ r.stops s.stops }

pub onlyread_size : (a b : MemDisk) → OnlyRead a b → length b.bytes.items / 512 ≡ length a.bytes.items / 512
onlyread_size a b r = ap (λ image. length image / 512) r.image

pub whole_size : (d : MemDisk) → length d.bytes.items ≡ 512 * (length d.bytes.items / 512)
whole_size d = let whole : length d.bytes.items % 512 ≡ 0 = d.whole in omega arith

pub true_is_not_false : true ≡ false → ⊥
true_is_not_false e = cc

-- all calls that were recorded
all_past : (d : MemDisk) → take d.calls (events_of d.written.items d.history.items) ≡ events_of d.written.items d.history.items
all_past d = let few : length d.history.items ≤ d.calls = d.in_step in
    take_all d.calls _ (omega (arith, length-map d.history.items (event_of d.written.items)))

pub stops_are : (d : MemDisk) → AreOf d.bytes.items (stops_of (state_of d))
stops_are d = record {
  holds = subst (Leaves (events_of d.written.items d.history.items) d.first.items (λ e. e ≡ d.first.items)) d.replays (leaves_held (events_of d.written.items d.history.items) d.first.items (λ e. e ≡ d.first.items) d.inside refl);
  counts_now = λ t c early left. (d.calls, early, omega arith, subst (λ past. Leaves past d.first.items (λ e. e ≡ d.first.items) c) (sym (all_past d)) left);
  only_now = λ c left.
      let last : left.0 ≡ d.calls = omega (arith, left.1, left.2) in
      subst (λ past. Leaves past d.first.items (λ e. e ≡ d.first.items) c) (ap (λ k. take k (events_of d.written.items d.history.items)) last ∙ all_past d) left.3;
}
