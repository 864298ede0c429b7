-- Failures put into a list in order, one after the other.
use Rattle.std.specs.Prelude.{◌≡◌, Bool, List, [], ◌∷◌}
use Rattle.std.specs.List.{AllByRecursion}
use Rattle.rdl_base.specs.declared.fault.Fault.{Fault}
use Rattle.rdl_values.specs.Parts.{is_empty}
use Rattle.rdl_values.specs.Verdict.{with}

-- the list with each of these failures
abbrev pub with_all : List Fault → List Fault → List Fault
with_all [] list = list
with_all (f ∷ fs) list = with_all fs (with f list)

-- The failures were put in, and the answer is whether there are none.
pub record IsNoted (fs : List Fault) (clean : Bool) (before after : List Fault) : Type 0 where
  pub none : clean ≡ is_empty fs
  pub put : after ≡ with_all fs before

-- each failure is in the list already
abbrev pub Holds : List Fault → List Fault → Type 0
Holds list fs = AllByRecursion (λ f. with f list ≡ list) fs
