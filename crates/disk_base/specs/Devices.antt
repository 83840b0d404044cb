-- What happened to the disks and the streams that a call was lent.
use Rattle.std.specs.Prelude.{◌≡◌, ℕ, ◌≤◌, ◌⊎◌, ◌++◌, take, List, Option, None, Some, Bool, IsTrue}
use Rattle.disk_base.specs.declared.device.Mode.{Mode}
use Rattle.disk_base.specs.declared.device.Blocks.{Ghosts as BlocksGhosts}
use Rattle.disk_base.specs.declared.device.Disk.{Ghosts as DiskGhosts}
use Rattle.disk_base.specs.declared.device.DeviceFault.{DeviceFault}
use Rattle.disk_base.specs.declared.device.DeviceFault.TheVariants.{Source, Target}
use Rattle.disk_base.specs.declared.output.Sink.{Ghosts as SinkGhosts}
use Rattle.disk_base.specs.Faults.{Rose}
use Rattle.disk_base.specs.Log.{Log, Asked}
use Rattle.disk_base.specs.Stops.{Stops}

-- the disk was not asked for between these two states of its log
pub record SameAsks (old new : Log) : Type 0 where
  pub name : new.name ≡ old.name
  pub asks : new.asks ≡ old.asks
  pub last : new.last ≡ old.last
  pub greatest : new.greatest ≡ old.greatest

-- between these two states the disk was only read, written, given up in part and flushed
pub record Used {D : Type 0} (b : BlocksGhosts D) (d : DiskGhosts D) (old new : D) : Type 0 where
  pub size : b.size new ≡ b.size old
  pub mode : d.attached new ≡ d.attached old
  pub discards : d.discards new ≡ d.discards old
  pub later : b.faults old ≤ b.faults new
  pub asks : IsTrue b.tells → SameAsks (d.log old) (d.log new)

-- the cause of a device's fault: whose count of faults rose
abbrev pub CausedBy : {S T : Type 0} → BlocksGhosts S → S → S → BlocksGhosts T → T → T → DeviceFault → Type 0
CausedBy s source source' t target target' Source = Rose (s.faults source) (s.faults source')
CausedBy s source source' t target target' Target = Rose (t.faults target) (t.faults target')

-- what is known of a disk at one moment
pub record Held : Type 1 where
  pub tells : Bool  -- whether image and log are known
  pub image : List ℕ
  pub log : Log
  pub attached : Option Mode
  pub faults : ℕ
  pub tells_stops : Bool  -- whether its stops are known
  pub stops : Stops

abbrev pub held : {D : Type 0} → BlocksGhosts D → DiskGhosts D → D → Held
held b d disk = record {
  tells = b.tells;
  image = b.image disk;
  log = d.log disk;
  attached = d.attached disk;
  faults = b.faults disk;
  tells_stops = d.tells_stops;
  stops = d.stops disk;
}

-- what is known of a stream at one moment
pub record Stream : Type 0 where
  pub tells : Bool  -- whether the text is known
  pub text : List ℕ
  pub faults : ℕ

abbrev pub stream : {O : Type 0} → SinkGhosts O → O → Stream
stream o sink = record { tells = o.tells_text; text = o.text sink; faults = o.sink_faults sink }

-- how a job uses a disk: by that name, attached so
pub record Use : Type 0 where
  pub name : List ℕ
  pub mode : Mode

-- one ask, as the job uses the disk
abbrev pub AskedFor : Option Use → Log → Log → Type 0
AskedFor None old new = ⊥
AskedFor (Some used) old new = Asked old new used.name used.mode

-- asked for at most once, and not written, given up or created since
pub record Untouched (used : Option Use) (old new : Held) : Type 0 where
  pub image : new.image ≡ old.image
  pub log : (new.log ≡ old.log) ⊎ AskedFor used old.log new.log

-- asked for at most once, whatever was written since
pub record AskedOnce (used : Option Use) (old new : Log) : Type 0 where
  pub asked : Log
  pub log : (asked ≡ old) ⊎ AskedFor used old asked
  pub since : SameAsks asked new

-- attached as the job uses it
abbrev pub IsAttached : Option Use → Option Mode → Type 0
IsAttached None mode = Unit {0}
IsAttached (Some used) mode = mode ≡ Some used.mode

-- text that gained a prefix of some bytes
pub record GainsPrefix (bytes old new : List ℕ) : Type 0 where
  pub count : ℕ
  pub gained : new ≡ old ++ take count bytes

-- a line was told, or the stream failed and a prefix of it was
abbrev pub Tells : Type 0 → List ℕ → List ℕ → List ℕ → Type 0
Tells rose line old new = (new ≡ old ++ line) ⊎ (rose × GainsPrefix line old new)
