-- The numbers of bodies that are seen in each open body.
use Rattle.std.specs.Prelude.{◌≡◌, ℕ, List, Some, slice_get}
use Rattle.std.specs.Borrow.{Bor}
use Rattle.rdl_bodies.specs.declared.bodies.Bodies.{Bodies}
use Rattle.rdl_bodies.specs.declared.bodies.Body.{Body}
use Rattle.rdl_layers.specs.NodeNames.{numbers_or_none}

-- For each open body they are its own number and those of the bodies round it.
abbrev pub AreNumbersOf : Bodies → List (Bor (List ℕ)) → Type 0
AreNumbersOf t rs = (k : ℕ) (x : Body) → slice_get t.list.items k ≡ Some x → numbers_or_none (slice_get rs k) ≡ x.numbers.now
