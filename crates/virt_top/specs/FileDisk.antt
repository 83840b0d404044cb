-- Between two states of a file's disk it was only read: its size and mode stay, and its count doesn't fall.
use Rattle.std.specs.Prelude.{◌≡◌, ℕ, ◌≤◌, Option, refl}
use Rattle.std.proofs.Common.{◌∙◌, arith}
use Rattle.disk_base.specs.declared.device.Mode.{Mode}

pub record FileOnlyRead (s : ℕ) (m : Option Mode) (f : ℕ) (s' : ℕ) (m' : Option Mode) (f' : ℕ) : Type 0 where
  pub sectors : s' ≡ s
  pub attached : m' ≡ m
  pub faults : f ≤ f'

pub read_nothing : (s : ℕ) (m : Option Mode) (f : ℕ) → FileOnlyRead s m f s m f
read_nothing s m f = record { sectors = refl; attached = refl; faults = omega arith }

pub read_on : (s : ℕ) (m : Option Mode) (f : ℕ) (s' : ℕ) (m' : Option Mode) (f' : ℕ) (s'' : ℕ) (m'' : Option Mode) (f'' : ℕ)
    → FileOnlyRead s m f s' m' f' → FileOnlyRead s' m' f' s'' m'' f'' → FileOnlyRead s m f s'' m'' f''
read_on s m f s' m' f' s'' m'' f'' r q = record { sectors = q.sectors ∙ r.sectors; attached = q.attached ∙ r.attached; faults = omega arith }
