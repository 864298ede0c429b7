-- What is known of a source that was walked over.
use Rattle.std.specs.Prelude.{◌≡◌, ℕ, List, [], ◌++◌, flat_map, map, Option, option_to_list}
use Rattle.rdl_tree.specs.declared.item.Source.{Source}
use Rattle.rdl_values.specs.Elaborated.{measured}
use Rattle.rdl_values.specs.Instances.{signals, top_of}
use Rattle.rdl_values.specs.Phase3.{bare_assignments, failures3, no_top, of_use}
use Rattle.rdl_values.specs.Top.{root, top_seen, top_use_of}
use Rattle.rdl_values.specs.Uses.{seen}
use Rattle.rdl_failures.specs.Noted.{with_all}
use Rattle.rdl_bodies.specs.Kept.{Grows, of_names}
use Rattle.rdl_walk.specs.Walked.{capped, fails_from}
use Rattle.rdl_walk.specs.Walking.{AreWalking}
use Rattle.rdl_walk.specs.declared.walk.Walk.{Walk}
use Rattle.rdl_base.specs.declared.fault.Fault.{Fault}
use Rattle.rdl_elab.specs.Topped.{IsRootAt, IsTopAt}
use Rattle.rdl_elab.specs.declared.surveyed.Surveyed.{Surveyed}
use Rattle.std.specs.Prelude.{length, ◌+◌}

-- what fails before any node is visited, as it is put in
abbrev pub fails_before : Option (List ℕ) → Source → List Fault
fails_before wanted s = (no_top (top_use_of wanted s) ++ bare_assignments s) ++ (of_names (root s) ++ flat_map of_use (map top_seen (option_to_list (top_use_of wanted s))))

-- The root is open, and its names, its bare assignments and the top were judged.
pub record IsBegun (wanted : Option (List ℕ)) (s : Source) (v : Surveyed) : Type 0 where
  pub walking : AreWalking v.walk
  pub noted : v.walk.failures ≡ with_all (fails_before wanted s) []
  pub counted : v.walk.count ≡ 0
  pub root_ : IsRootAt v.walk.bodies s
  pub top : IsTopAt v.walk.bodies v.top (top_of wanted s)

-- The uses at the root were judged, and the signals there visited.
pub record IsRootWalked (old new : Walk) (s : Source) : Type 0 where
  pub walking : AreWalking new
  pub grown : Grows old.bodies new.bodies
  pub noted : new.failures ≡ with_all (flat_map of_use (seen [] (root s)) ++ fails_from old.count (signals s)) old.failures
  pub counted : new.count ≡ capped (old.count + length (signals s))

-- All rules on instances were judged, the nodes counted, no further than the first that is one too many, and the bodies of all nodes
-- that are judged are open.
pub record IsSurvey (wanted : Option (List ℕ)) (s : Source) (v : Surveyed) : Type 0 where
  pub walking : AreWalking v.walk
  pub noted : v.walk.failures ≡ with_all (failures3 wanted s) []
  pub counted : v.walk.count ≡ measured wanted s
  pub root_ : IsRootAt v.walk.bodies s
  pub top : IsTopAt v.walk.bodies v.top (top_of wanted s)
