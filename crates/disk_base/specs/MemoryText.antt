-- A sink in memory, and exactly when its calls fail.
use Rattle.std.specs.Prelude.{ℕ, ◌+◌, List, [], ◌++◌, length, Bool, ◌==◌, nat_lt, ◌||◌}
use Rattle.std.specs.List.{list_any}
use Rattle.disk_base.specs.declared.memory_sink.MemSink.{MemSink}
use Rattle.disk_base.specs.Faults.{counted}

-- all that a sink in memory is
pub record SinkState : Type 0 where
  pub text : List ℕ
  pub faults : ℕ
  pub calls : ℕ  -- how many calls came so far: the next one's number
  pub room : ℕ
  pub failing : List ℕ  -- the numbers of the calls that fail

abbrev pub sink_state : MemSink → SinkState
sink_state s = record { text = s.text.items; faults = s.faults; calls = s.calls; room = s.room; failing = s.failing.items }

abbrev pub empty_sink : ℕ → List ℕ → SinkState
empty_sink room failing = record { text = []; faults = 0; calls = 0; room = room; failing = failing }

-- whether the next call fails: its number is listed, or the text would pass the room
abbrev pub sink_refuses : SinkState → ℕ → Bool
sink_refuses s more = list_any (λ n. n == s.calls) s.failing || nat_lt s.room (length s.text + more)

abbrev pub sink_took : SinkState → List ℕ → SinkState
sink_took s bytes = record s { text = s.text ++ bytes; calls = counted s.calls }

abbrev pub sink_failed : SinkState → SinkState
sink_failed s = record s { calls = counted s.calls; faults = counted s.faults }
