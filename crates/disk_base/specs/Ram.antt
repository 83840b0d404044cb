-- A disk in memory without a record of its calls.
use Rattle.std.specs.Prelude.{◌≡◌, ℕ, ◌*◌, ◌/◌, ◌%◌, ◌≤◌, List, [], length, replicate, Option, None, Some, refl}
use Rattle.std.proofs.Common.{◌∙◌, ap, arith}
use Rattle.disk_base.specs.declared.device.Mode.{Mode}
use Rattle.disk_base.specs.declared.ram_disk.RamDisk.{RamDisk}
use Rattle.disk_base.specs.Faults.{counted}
use Rattle.disk_base.specs.Image.{with_bytes}
use Rattle.disk_base.specs.Log.{Log, fresh, written}
use Rattle.disk_base.specs.Memory.{image_after}

-- all that such a disk is
pub record RamState : Type 0 where
  pub image : List ℕ
  pub log : Log
  pub attached : Option Mode
  pub faults : ℕ
  pub room : ℕ  -- in sectors

-- its log, from its fields: it never gives anything up
abbrev pub ram_log : RamDisk → Log
ram_log d = record { name = d.name.items; asks = d.asks; last = d.last; greatest = d.greatest; discarded = []; writes = d.writes }

abbrev pub ram_state : RamDisk → RamState
ram_state d = record { image = d.bytes.items; log = ram_log d; attached = d.attached; faults = d.faults; room = d.room }

-- a disk of that name that was just made
abbrev pub ram_made : List ℕ → ℕ → ℕ → RamState
ram_made name sectors room = record { image = replicate (512 * sectors) 0; log = fresh name; attached = None; faults = 0; room = room }

-- after an attach that was answered, and after one that failed, with what the log then is
abbrev pub ram_attached : RamState → Log → Mode → RamState
ram_attached s log mode = record s { image = image_after mode s.image; log = log; attached = Some mode }

abbrev pub ram_failed : RamState → Log → RamState
ram_failed s log = record s { log = log; attached = None; faults = counted s.faults }

-- after a write
abbrev pub ram_wrote : RamState → ℕ → List ℕ → RamState
ram_wrote s at bytes = record s { image = with_bytes s.image (512 * at) bytes; log = written s.log }

-- two states between which it was only read
pub record RamOnlyRead (a b : RamDisk) : Type 0 where
  pub image : b.bytes.items ≡ a.bytes.items
  pub log : ram_log b ≡ ram_log a
  pub attached : b.attached ≡ a.attached
  pub faults : a.faults ≤ b.faults

pub ram_read_nothing : (d : RamDisk) → RamOnlyRead d d
ram_read_nothing d = record { image = refl; log = refl; attached = refl; faults = omega arith }

pub ram_read_on : (a b c : RamDisk) → RamOnlyRead a b → RamOnlyRead b c → RamOnlyRead a c
ram_read_on a b c r s = record { image = s.image ∙ r.image; log = s.log ∙ r.log; attached = s.attached ∙ r.attached; faults = omega arith }

pub ram_same_size : (a b : RamDisk) → RamOnlyRead a b → length b.bytes.items / 512 ≡ length a.bytes.items / 512
ram_same_size a b r = ap (λ image. length image / 512) r.image

pub ram_whole : (d : RamDisk) → length d.bytes.items ≡ 512 * (length d.bytes.items / 512)
ram_whole d = let whole : length d.bytes.items % 512 ≡ 0 = d.whole in omega arith
