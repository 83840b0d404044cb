-- What is said of a job that ended, by what it means.
use Rattle.std.specs.Prelude.{Option, None, Some, Bool, IsTrue}
use Rattle.disk_base.specs.declared.device.Blocks.{Ghosts as BlocksGhosts}
use Rattle.disk_base.specs.declared.device.Disk.{Ghosts as DiskGhosts}
use Rattle.disk_base.specs.declared.output.Sink.{Ghosts as SinkGhosts}
use Rattle.disk_base.specs.Devices.{AskedOnce, Held, Stream, Untouched, Use, held, stream}
use Rattle.disk_base.specs.Faults.{Rose}
use Rattle.disk_base.specs.Stops.{IsSettled, LeavesOnly}
use Rattle.run_end.specs.declared.end.End.{End}
use Rattle.run_end.specs.Ending.{Attached, Cause, IsDue, EndLeaves, MayPass, Meaning, Prints, Settled, Unprinted}

-- the disks of a job and standard output
pub record World : Type 1 where
  pub source : Held
  pub target : Held
  pub out : Stream

abbrev pub world : {S T O : Type 0} → BlocksGhosts S → DiskGhosts S → BlocksGhosts T → DiskGhosts T → SinkGhosts O → S → T → O → World
world sb sd tb td o source target out = record { source = held sb sd source; target = held tb td target; out = stream o out }

-- the disk tells what it holds, or the job doesn't use it
abbrev pub TellsUsed : Option Use → Bool → Type 0
TellsUsed None tells = Unit {0}
TellsUsed (Some used) tells = IsTrue tells

-- the disks that a job uses tell what they hold
abbrev pub TellsDisks : Meaning → World → Type 0
TellsDisks m world = TellsUsed m.source world.source.tells × TellsUsed m.target world.target.tells

-- a job ended so: what has to be known of the devices stands before each arrow
pub record Ended (m : Meaning) (old new : World) (end : End) : Type 0 where
  pub cause : Cause m (Rose old.source.faults new.source.faults) (Rose old.target.faults new.target.faults) (Rose old.out.faults new.out.faults) end
  pub attached : Attached m new.source.attached new.target.attached end
  pub source : IsTrue old.source.tells → Untouched m.source old.source new.source
  pub asked : IsTrue old.target.tells → AskedOnce m.target old.target.log new.target.log
  pub due : TellsDisks m old → IsDue m end
  pub left : TellsDisks m old → EndLeaves m old.target new.target end
  -- a stop at any moment of the run
  pub moments : IsTrue old.target.tells_stops → TellsDisks m old → IsSettled old.target.image old.target.stops
      → LeavesOnly (MayPass m old.target.image) old.target.stops new.target.stops
  pub settled : IsTrue old.target.tells_stops → Settled m old.target new.target end
  pub unprinted : IsTrue old.out.tells → Unprinted old.out.text new.out.text end
  pub printed : IsTrue old.out.tells → TellsDisks m old → Prints m old.target new.target old.out.text new.out.text end

-- the same of a call that was lent them
abbrev pub EndedOn : {S T O : Type 0} → Meaning → BlocksGhosts S → DiskGhosts S → BlocksGhosts T → DiskGhosts T → SinkGhosts O → S → T → O → S → T → O → End → Type 0
EndedOn m sb sd tb td o source target out source' target' out' end =
    Ended m (world sb sd tb td o source target out) (world sb sd tb td o source' target' out') end
