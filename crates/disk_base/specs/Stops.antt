-- What a stop leaves: all work ends at one moment, as by a loss of power, and an image is what the disk then holds.
use Rattle.std.specs.Prelude.{◌≡◌, ℕ, ◌≤◌, List, ◌⊎◌}
use Rattle.std.proofs.Common.{inl, inr, arith}
use Rattle.disk_base.specs.declared.device.Mode.{Mode}
use Rattle.disk_base.specs.declared.device.Mode.TheVariants.{Read, Change, Create}

pub record Stops : Type 1 where
  pub moment : ℕ  -- a clock that never falls
  pub may_leave : List ℕ → Type 0  -- a stop now may leave this image
  pub left_since : ℕ → List ℕ → Type 0  -- a stop at some moment since that one may have left it

-- what stops are of a disk that holds this: a stop may leave what is held; this moment is one of those since an earlier
-- one, and the only one since itself
pub record AreOf (image : List ℕ) (stops : Stops) : Type 0 where
  pub holds : stops.may_leave image
  pub counts_now : (t : ℕ) (c : List ℕ) → t ≤ stops.moment → stops.may_leave c → stops.left_since t c
  pub only_now : (c : List ℕ) → stops.left_since stops.moment c → stops.may_leave c

-- a stop leaves this image and no other
abbrev pub IsSettled : List ℕ → Stops → Type 0
IsSettled image stops = (c : List ℕ) → stops.may_leave c → c ≡ image

-- one of the images, after a step
abbrev pub After : (List ℕ → List ℕ → Type 0) → (List ℕ → Type 0) → List ℕ → Type 0
After step may_leave c = (d : List ℕ) × may_leave d × step d c

-- time went on, and a stop meanwhile may have left what has P, beside what it may have left before
pub record Adds (P : List ℕ → Type 0) (old new : Stops) : Type 0 where
  pub later : old.moment ≤ new.moment
  pub only : (t : ℕ) (c : List ℕ) → t ≤ old.moment → new.left_since t c → old.left_since t c ⊎ P c

-- time went on, and a stop meanwhile may have left one of the images that it might leave before, after a step
abbrev pub Follows : (List ℕ → List ℕ → Type 0) → Stops → Stops → Type 0
Follows step old new = Adds (After step old.may_leave) old new

-- what a stop may have left before stays so
abbrev pub Remembers : Stops → Stops → Type 0
Remembers old new = (t : ℕ) (c : List ℕ) → t ≤ old.moment → old.left_since t c → new.left_since t c

-- time went on, and a stop may leave and may have left what it did before
pub record Waits (old new : Stops) : Type 0 where
  pub adds : Adds (λ c. ⊥) old new
  pub remembers : Remembers old new
  pub fewer : (c : List ℕ) → new.may_leave c → old.may_leave c
  pub more : (c : List ℕ) → old.may_leave c → new.may_leave c

-- an attach to what exists changes nothing that a stop leaves, answered or not
abbrev pub Stays : Mode → Stops → Stops → Type 0
Stays Read old new = Waits old new
Stays Change old new = Waits old new
Stays (Create n) old new = old.moment ≤ new.moment

-- a created disk is settled
abbrev pub Settles : Mode → List ℕ → Stops → Type 0
Settles Read image stops = Unit {0}
Settles Change image stops = Unit {0}
Settles (Create n) image stops = IsSettled image stops

-- every image that a stop may have left since the earlier state has P; and, for a run that began earlier, that state adds
-- no other
pub record LeavesOnly (P : List ℕ → Type 0) (old new : Stops) : Type 0 where
  pub each : (c : List ℕ) → new.left_since old.moment c → P c
  pub adds : Adds P old new

-- no time passed, or time passed twice
pub waits_refl : (stops : Stops) → Waits stops stops
waits_refl stops = record {
  adds = record { later = omega arith; only = λ t c early left. inl left };
  remembers = λ t c early left. left;
  fewer = λ c left. left;
  more = λ c left. left;
}

pub adds_on : (a b c : Stops) (P : List ℕ → Type 0) → Adds P a b → Adds P b c → Adds P a c
adds_on a b c P r s = record {
  later = omega (arith, r.later, s.later);
  only = λ t image early left. elim (s.only t image (omega (arith, early, r.later)) left) [
    | inl before ↦ r.only t image early before
    | inr now ↦ inr now
  ];
}

pub waits_on : (a b c : Stops) → Waits a b → Waits b c → Waits a c
waits_on a b c r s = record {
  adds = adds_on a b c (λ image. ⊥) r.adds s.adds;
  remembers = λ t image early left. s.remembers t image (omega (arith, early, r.adds.later)) (r.remembers t image early left);
  fewer = λ image left. r.fewer image (s.fewer image left);
  more = λ image left. s.more image (r.more image left);
}

-- for a disk that doesn't tell its stops
abbrev pub untold : Stops
untold = record { moment = 0; may_leave = λ c. ⊥; left_since = λ t c. ⊥ }
