-- What a sink tells that counts.
use Rattle.std.specs.Prelude.{ℕ, None, Some}
use Rattle.rb_edge.specs.Sink.{Told}

abbrev pub told_of : ℕ → Told
told_of total = record { bytes = None; number = Some total }
