-- What the end of a run says, whatever the job: nothing here speaks of one tool.
use Rattle.std.specs.Prelude.{◌≡◌, ℕ, ◌≤◌, ◌⊎◌, ◌++◌, Bool, true, false, IsTrue, List, Option, None, Some}
use Rattle.disk_base.specs.declared.device.DeviceFault.{DeviceFault}
use Rattle.disk_base.specs.declared.device.DeviceFault.TheVariants as devices
use Rattle.disk_base.specs.declared.device.Mode.{Mode}
use Rattle.run_end.specs.declared.end.Refusal.{Refusal}
use Rattle.run_end.specs.declared.end.Refusal.TheVariants.{Usage, NotYet, Source, Plan, Memory}
use Rattle.run_end.specs.declared.end.Failing.TheVariants.{Device, Printing}
use Rattle.run_end.specs.declared.end.End.{End}
use Rattle.run_end.specs.declared.end.End.TheVariants.{Done, Refused, Failed}
use Rattle.disk_base.specs.Devices.{GainsPrefix, Held, IsAttached, Untouched, Use}
use Rattle.disk_base.specs.Stops.{IsSettled}

-- what a job means, on disks that hold what they hold at its start
pub record Meaning : Type 1 where
  pub source : Option Use
  pub target : Option Use
  -- the refusals that are due
  pub refused : Refusal → Type 0
  -- there is work
  pub work : Type 0
  -- the work writes to the target
  pub writes : Bool
  -- something is printed
  pub prints : Bool
  -- the target now holds the work done
  pub finished : List ℕ → Type 0
  -- what the target may hold where a disk failed under the work
  pub cut : DeviceFault → List ℕ → Type 0
  -- what a stop at any moment may leave of the target, beside what it held
  pub passes : List ℕ → Type 0
  -- what is printed before the first write, and behind the last one
  pub lines : List ℕ → List ℕ → Type 0

-- what is refused by its words alone: no disk is used
abbrev pub refusing : Refusal → Meaning
refusing refusal = record {
  source = None;
  target = None;
  refused = λ other. other ≡ refusal;
  work = ⊥;
  writes = false;
  prints = false;
  finished = λ image. ⊥;
  cut = λ fault image. ⊥;
  passes = λ image. ⊥;
  lines = λ before after. ⊥;
}

abbrev pub refusal_status : Refusal → ℕ
refusal_status (Usage usage) = 1
refusal_status (Source fault) = 2
refusal_status (Plan fault) = 4
refusal_status Memory = 7
refusal_status NotYet = 9

abbrev pub status_of : End → ℕ
status_of Done = 0
status_of (Refused refusal) = refusal_status refusal
status_of (Failed (Device devices.Source)) = 5
status_of (Failed (Device devices.Target)) = 6
status_of (Failed Printing) = 8

-- the ends that are due; a fault of a disk and want of memory always are
abbrev pub IsDue : Meaning → End → Type 0
IsDue m Done = m.work
IsDue m (Refused refusal) = (refusal ≡ Memory) ⊎ m.refused refusal
IsDue m (Failed (Device fault)) = Unit {0}
IsDue m (Failed Printing) = m.work

-- the target is as it is to be: it holds the work done or, where nothing is to be written, it is untouched
abbrev pub IsAsDue : Bool → Meaning → Held → Held → Type 0
IsAsDue true m old new = m.finished new.image
IsAsDue false m old new = Untouched m.target old new

-- what an end leaves of the target
abbrev pub EndLeaves : Meaning → Held → Held → End → Type 0
EndLeaves m old new Done = IsAsDue m.writes m old new
EndLeaves m old new (Refused refusal) = Untouched m.target old new
EndLeaves m old new (Failed (Device fault)) = Untouched m.target old new ⊎ m.cut fault new.image
EndLeaves m old new (Failed Printing) = Untouched m.target old new ⊎ IsAsDue m.writes m old new

-- what a stop at any moment may leave of the target
abbrev pub MayPass : Meaning → List ℕ → List ℕ → Type 0
MayPass m old image = (image ≡ old) ⊎ m.passes image

-- a stop leaves what a disk holds, where it did so before
abbrev pub StaysSettled : Held → Held → Type 0
StaysSettled old new = IsSettled old.image old.stops → IsSettled new.image new.stops

-- where a stop leaves what the target holds: once work that writes it is done and, where it did so before, where
-- nothing is to be written
abbrev pub SettledBy : Bool → Held → Held → Type 0
SettledBy true old new = IsSettled new.image new.stops
SettledBy false old new = StaysSettled old new

-- the same after every end
abbrev pub Settled : Meaning → Held → Held → End → Type 0
Settled m old new Done = SettledBy m.writes old new
Settled m old new (Refused refusal) = StaysSettled old new
Settled m old new (Failed failing) = Unit {0}

-- the two texts of the job, and what stands between them and the stream
pub record HasLines (m : Meaning) (Gained : List ℕ → List ℕ → Type 0) : Type 0 where
  pub before : List ℕ
  pub after : List ℕ
  pub lines : m.lines before after
  pub gained : Gained before after

-- what an end leaves on standard output
abbrev pub Prints : Meaning → Held → Held → List ℕ → List ℕ → End → Type 0
Prints m target target' old new Done = HasLines m (λ before after. new ≡ old ++ before ++ after)
Prints m target target' old new (Refused refusal) = new ≡ old
Prints m target target' old new (Failed (Device fault)) = (new ≡ old) ⊎ HasLines m (λ before after. new ≡ old ++ before)
Prints m target target' old new (Failed Printing) =
    (Untouched m.target target target' × HasLines m (λ before after. GainsPrefix before old new))
    ⊎ (IsAsDue m.writes m target target' × HasLines m (λ before after. GainsPrefix after (old ++ before) new))

-- a refusal prints nothing
abbrev pub Unprinted : List ℕ → List ℕ → End → Type 0
Unprinted old new (Refused refusal) = new ≡ old
Unprinted old new end = Unit {0}

-- which disks are attached: the target is asked for only where the source is
abbrev pub Attached : Meaning → Option Mode → Option Mode → End → Type 0
Attached m source target (Refused refusal) = IsAttached m.source source × IsAttached m.target target
Attached m source target (Failed (Device devices.Source)) = Unit {0}
Attached m source target (Failed (Device devices.Target)) = IsAttached m.source source
Attached m source target (Failed Printing) = IsAttached m.source source × IsAttached m.target target
Attached m source target Done = IsAttached m.source source × IsAttached m.target target

-- the job uses this disk
abbrev pub IsUsed : Option Use → Type 0
IsUsed None = ⊥
IsUsed (Some used) = Unit {0}

-- the cause of a failure: which count rose, of a device that the job uses, or of a stream that it prints to
abbrev pub Cause : Meaning → Type 0 → Type 0 → Type 0 → End → Type 0
Cause m source target out (Failed (Device devices.Source)) = IsUsed m.source × source
Cause m source target out (Failed (Device devices.Target)) = IsUsed m.target × target
Cause m source target out (Failed Printing) = IsTrue m.prints × out
Cause m source target out end = Unit {0}

-- what is due of a job: work, or a refusal
abbrev pub Due : Meaning → Option Refusal → Type 0
Due m None = m.work
Due m (Some refusal) = m.refused refusal

abbrev pub due_status : Option Refusal → ℕ
due_status None = 0
due_status (Some refusal) = refusal_status refusal

-- at most one status is due
abbrev pub IsLawful : Meaning → Type 0
IsLawful m = (one other : Option Refusal) → Due m one → Due m other → due_status one ≡ due_status other

-- a disk failed, or memory was refused
abbrev pub IsFailure : ℕ → Type 0
IsFailure status = (5 ≤ status) × (status ≤ 7)

-- what is due comes, unless something fails; standard output only where work is due
abbrev pub IsDecided : Meaning → ℕ → Type 0
IsDecided m status = (due : Option Refusal) → Due m due → (status ≡ due_status due) ⊎ IsFailure status ⊎ ((status ≡ 8) × (due_status due ≡ 0))

-- what is told in place of an end: itself, or want of memory for the line of a refusal
abbrev pub IsToldFor : End → End → Type 0
IsToldFor (Refused refusal) told = (told ≡ Refused refusal) ⊎ (told ≡ Refused Memory)
IsToldFor end told = told ≡ end
