-- What a function of reading a ring gives, of the bytes that it is handed.
use Rattle.std.specs.Prelude.{◌≡◌, ℕ, List}
use Rattle.lvm_label.specs.declared.fault.RingFault.{RingFault}
use Rattle.lvm_label.specs.declared.fault.RingFault.TheVariants as faults
use Rattle.lvm_label.specs.Label.{HasAreas}
use Rattle.lvm_label.specs.Ring.{RingArea, IsTextSound, ring_with}

-- the ring of a header, which names a text, and of the bytes of its area
pub record IsRingOf (start length : ℕ) (header area : List ℕ) (ring : RingArea) : Type 0 where
  pub sound : IsTextSound header area
  pub ring_is : ring ≡ ring_with start length header area

-- why they make none
abbrev pub IsRingTextFault : List ℕ → List ℕ → RingFault → Type 0
IsRingTextFault header area faults.Place = ⊥
IsRingTextFault header area faults.Header = ⊥
IsRingTextFault header area faults.Ignored = ⊥
IsRingTextFault header area faults.Empty = ⊥
IsRingTextFault header area faults.Checksum = IsTextSound header area → ⊥
IsRingTextFault header area faults.Device = ⊥
IsRingTextFault header area faults.Memory = Unit {0}

-- the faults that say nothing of an area
abbrev pub IsRingHindered : RingFault → Type 0
IsRingHindered faults.Place = ⊥
IsRingHindered faults.Header = ⊥
IsRingHindered faults.Ignored = ⊥
IsRingHindered faults.Empty = ⊥
IsRingHindered faults.Checksum = ⊥
IsRingHindered faults.Device = Unit {0}
IsRingHindered faults.Memory = Unit {0}

-- the header of a physical volume has no such lists
abbrev pub HasNoAreas : List ℕ → Type 0
HasNoAreas bytes = (others areas : ℕ) → HasAreas bytes others areas → ⊥
