-- What holds of every job's end.
use Rattle.std.proofs.Common.{ℕ, List, inl, inr, refl, sym, arith, None, Some, IsTrue}
use Rattle.disk_base.specs.declared.device.DeviceFault.TheVariants as devices
use Rattle.disk_base.specs.Stops.{AreOf}
use Rattle.run_end.specs.declared.end.End.{End}
use Rattle.run_end.specs.declared.end.End.TheVariants.{Done, Refused, Failed}
use Rattle.run_end.specs.declared.end.Failing.TheVariants.{Device, Printing}
use Rattle.run_end.specs.declared.end.Refusal.{Refusal}
use Rattle.run_end.specs.declared.end.Refusal.TheVariants.{Memory}
use Rattle.run_end.specs.Ending.{IsDecided, IsDue, IsLawful, IsToldFor, MayPass, Meaning, refusing, status_of}
use Rattle.run_end.specs.Ended.{Ended, World}
use Rattle.disk_base.proofs.Moments.{adds_here, leaves_only}
use Rattle.disk_base.proofs.Uses.{asked_of}

-- what is due comes, unless something fails
pub decided : (m : Meaning) (end : End) → IsLawful m → IsDue m end → IsDecided m (status_of end)
decided m Done law is due is_due = inl (law None due is is_due)
decided m (Refused refusal) law is due is_due = elim is [
  | inl memory ↦ rw memory (inr (inl (omega arith, omega arith)))
  | inr refused ↦ inl (law (Some refusal) due refused is_due)
]
decided m (Failed (Device devices.Source)) law is due is_due = inr (inl (omega arith, omega arith))
decided m (Failed (Device devices.Target)) law is due is_due = inr (inl (omega arith, omega arith))
decided m (Failed Printing) law is due is_due = inr (inr (refl, sym (law None due is is_due)))

-- want of memory may be told in place of any refusal
memory_for : (m : Meaning) (old new : World) (refusal : Refusal) → Ended m old new (Refused refusal) → Ended m old new (Refused Memory)
memory_for m old new refusal ended = record {
  cause = tt;
  attached = ended.attached;
  source = ended.source;
  asked = ended.asked;
  due = λ tells. inl refl;
  left = ended.left;
  moments = ended.moments;
  settled = ended.settled;
  unprinted = ended.unprinted;
  printed = ended.printed;
}

pub told_for : (m : Meaning) (old new : World) (end end' : End) → Ended m old new end → IsToldFor end end' → Ended m old new end'
told_for m old new Done end' ended same = rw same ended
told_for m old new (Failed failing) end' ended same = rw same ended
told_for m old new (Refused refusal) end' ended for = elim for [ inl same ↦ rw same ended | inr memory ↦ rw memory (memory_for m old new refusal ended) ]

-- nothing was called
pub uncalled : (world : World) (refusal : Refusal) → (IsTrue world.target.tells_stops → AreOf world.target.image world.target.stops)
    → Ended (refusing refusal) world world (Refused refusal)
uncalled world refusal are = record {
  cause = tt;
  attached = (tt, tt);
  source = λ tells. record { image = refl; log = inl refl };
  asked = λ tells. asked_of None world.target world.target (record { image = refl; log = inl refl });
  due = λ tells. inr refl;
  left = λ tells. record { image = refl; log = inl refl };
  moments = λ stops disks settled.
      let May : List ℕ → Type 0 = MayPass (refusing refusal) world.target.image in
      leaves_only world.target.image _ _ May (are stops) settled (inl refl) (adds_here world.target.stops May);
  settled = λ stops before. before;
  unprinted = λ tells. refl;
  printed = λ tells disks. refl;
}

pub refusing_is_lawful : (refusal : Refusal) → IsLawful (refusing refusal)
refusing_is_lawful refusal None other a b = absurd a
refusing_is_lawful refusal (Some one) None a b = absurd b
refusing_is_lawful refusal (Some one) (Some other) a b = rw (a, b) refl
