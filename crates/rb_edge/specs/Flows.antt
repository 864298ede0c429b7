-- How a call went that puts bytes behind others that wait to be written.
use Rattle.std.specs.Prelude.{◌≡◌, ℕ, ◌≤◌, List, ◌++◌, Result, MatchResult}
use Rattle.rb_edge.specs.Count.{Rose}
use Rattle.rb_edge.specs.Sink.{Told, Takes, TakesPart}

-- Of what waited before and the bytes behind it, some from the front were sent to the sink, and the rest waits now; or the
-- sink failed and took a proper prefix of all. Where nothing waits before and after, the sink took the bytes and no others.
pub record Flows {U E : Type 0} (old new : Told) (before after : ℕ) (waited waits : List ℕ) (result : Result U E) (bytes : List ℕ) : Type 0 where
  pub later : before ≤ after
  pub went : MatchResult result
      (λ _. (sent : List ℕ) × Takes old new sent × (waited ++ bytes ≡ sent ++ waits))
      (λ _. TakesPart old new (waited ++ bytes) × Rose before after)
