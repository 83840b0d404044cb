-- A disk that was used twice.
use Rattle.std.proofs.Common.{◌≡◌, ◌⊎◌, ◌∙◌, arith, refl, sym, subst, Option}
use Rattle.disk_base.specs.declared.device.Blocks.{Ghosts as BlocksGhosts}
use Rattle.disk_base.specs.declared.device.Disk.{Ghosts as DiskGhosts}
use Rattle.disk_base.specs.Devices.{AskedFor, AskedOnce, Held, SameAsks, Untouched, Use, Used}
use Rattle.disk_base.specs.Log.{Log}

pub same_asks_here : (log : Log) → SameAsks log log
same_asks_here log = record { name = refl; asks = refl; last = refl; greatest = refl }

pub same_asks_on : (old mid new : Log) → SameAsks old mid → SameAsks mid new → SameAsks old new
same_asks_on old mid new one two = record { name = two.name ∙ one.name; asks = two.asks ∙ one.asks; last = two.last ∙ one.last; greatest = two.greatest ∙ one.greatest }

pub used_here : {D : Type 0} (b : BlocksGhosts D) (d : DiskGhosts D) (disk : D) → Used b d disk disk
used_here b d disk = record { size = refl; mode = refl; discards = refl; later = omega arith; asks = λ t. same_asks_here (d.log disk) }

pub used_on : {D : Type 0} (b : BlocksGhosts D) (d : DiskGhosts D) (old mid new : D) → Used b d old mid → Used b d mid new → Used b d old new
used_on b d old mid new one two = record {
  size = two.size ∙ one.size;
  mode = two.mode ∙ one.mode;
  discards = two.discards ∙ one.discards;
  later = omega (arith, one.later, two.later);
  asks = λ t. same_asks_on (d.log old) (d.log mid) (d.log new) (one.asks t) (two.asks t);
}

-- a disk that was only read after it was asked for, or not called
pub untouched_since : (used : Option Use) (old mid new : Held) → Untouched used old mid → new.image ≡ mid.image → new.log ≡ mid.log → Untouched used old new
untouched_since used old mid new was same same_log =
    let Log_is : Log → Type 0 = λ l. (l ≡ old.log) ⊎ AskedFor used old.log l in
    record { image = same ∙ was.image; log = subst Log_is (sym same_log) was.log }

pub asked_of : (used : Option Use) (old new : Held) → Untouched used old new → AskedOnce used old.log new.log
asked_of used old new was = record { asked = new.log; log = was.log; since = same_asks_here new.log }

pub asked_since : (used : Option Use) (old mid : Held) (new : Log) → Untouched used old mid → SameAsks mid.log new → AskedOnce used old.log new
asked_since used old mid new was same = record { asked = mid.log; log = was.log; since = same }
