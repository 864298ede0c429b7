-- A source that was surveyed, in which nothing fails.
use Rattle.std.specs.Prelude.{◌≡◌, ℕ, List, [], Option}
use Rattle.rdl_tree.specs.declared.item.Source.{Source}
use Rattle.rdl_elab.specs.Surveying.{IsSurvey}
use Rattle.rdl_elab.specs.declared.surveyed.Surveyed.{Surveyed}

pub record IsCleanSurvey (s : Source) (v : Surveyed) : Type 0 where
  pub wanted : Option (List ℕ)
  pub survey : IsSurvey wanted s v
  pub clean : v.walk.failures ≡ []
