-- What a sink in memory holds, and how its calls of `write` go on.
use Rattle.std.specs.Prelude.{◌≡◌, ◌⊎◌, ℕ, ◌≤◌, Bool, if◌then◌else◌, Some, List, [], length, Contains}
use Rattle.rb_edge.specs.declared.mem_sink.MemSink.{MemSink}
use Rattle.rb_edge.specs.Count.{raised}
use Rattle.rb_edge.specs.Sink.{Told}

-- what the sink took so far, and how it goes on
pub record Held : Type 0 where
  pub bytes : List ℕ
  -- the most bytes that one call takes, and that all calls take
  pub most : ℕ
  pub room : ℕ
  -- the numbers, from 0, of the calls that are chosen to fail
  pub fails : List ℕ
  -- how many calls came, and how many of these failed
  pub calls : ℕ
  pub faults : ℕ

-- the state of a sink
abbrev pub held : MemSink → Held
held sink = record { bytes = sink.bytes.items; most = sink.most; room = sink.room; fails = sink.fails.items; calls = sink.calls; faults = sink.faults }

-- what it tells
abbrev pub told_of : MemSink → Told
told_of sink = record { bytes = Some (held sink).bytes; number = Some (length (held sink).bytes) }

-- before the first call
abbrev pub start : (most room : ℕ) → List ℕ → Held
start most room fails = record { bytes = []; most = most; room = room; fails = fails; calls = 0; faults = 0 }

-- the next call fails: it is chosen, or there is no room
abbrev pub IsToFail : Held → Type 0
IsToFail sink = Contains sink.fails sink.calls ⊎ (sink.room ≤ length sink.bytes)

-- one call more, which failed or not
pub record GoesOn (old new : Held) (failed : Bool) : Type 0 where
  pub same_most : new.most ≡ old.most
  pub same_room : new.room ≡ old.room
  pub same_fails : new.fails ≡ old.fails
  pub one_more : new.calls ≡ raised old.calls 1
  pub failed_more : new.faults ≡ (if failed then raised old.faults 1 else old.faults)
