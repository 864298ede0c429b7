-- What a source is answered: the failures of the first phase that has any.
use Rattle.std.specs.Prelude.{◌≡◌, ◌≢◌, ◌⊎◌, ◌↔◌, List, [], ◌∷◌, Contains}
use Rattle.std.specs.List.Sorted.{IsStrictlySortedBy}
use Rattle.std.specs.declared.cmp.Ordering.{Ordering}
use Rattle.std.specs.declared.cmp.Ordering.TheVariants.{Less, Equal, Greater}
use Rattle.rdl_base.specs.Faults.{fault_cmp}
use Rattle.rb_base.specs.declared.place.Place.{Place}
use Rattle.rdl_base.specs.declared.fault.Fault.{Fault}
use Rattle.rdl_base.specs.declared.rule.Rule.{Rule}

-- Which rule fails at which place.
abbrev pub Fails : Type 1
Fails = Rule → Place → Type 0

-- The list has each failure once, and nothing else: by place, and at one place in the order of the table of rules.
pub record IsListOf (P : Fails) (list : List Fault) : Type 0 where
  pub ordered : IsStrictlySortedBy fault_cmp list
  pub exact : (f : Fault) → Contains list f ↔ P f.rule f.place

-- The list holds the failures, and there are some.
pub record IsRefusal (P : Fails) (list : List Fault) : Type 0 where
  pub failures : IsListOf P list
  pub some : list ≢ []

-- The failures collected, put in order, each once.

-- a failure before, in place of, or behind the first of a list
abbrev pub placed : Ordering → Fault → Fault → List Fault → List Fault → List Fault
placed Less f g gs behind = f ∷ g ∷ gs
placed Equal f g gs behind = g ∷ gs
placed Greater f g gs behind = g ∷ behind

abbrev pub with : Fault → List Fault → List Fault
with f [] = f ∷ []
with f (g ∷ gs) = placed (fault_cmp f g) f g gs (with f gs)

abbrev pub in_order : List Fault → List Fault
in_order [] = []
in_order (f ∷ fs) = with f (in_order fs)

-- A phase says which list is its own: of all its failures in order, or of its first one alone.
abbrev pub Phase : Type 1
Phase = List Fault → Type 0

-- The list is that of the first phase that has a failure, and empty where none has one. A phase is judged only where those
-- before it have no failure.
abbrev pub FirstOf : List Phase → List Fault → Type 0
FirstOf [] list = list ≡ []
FirstOf (P ∷ later) list = (P list × (list ≢ [])) ⊎ (P [] × FirstOf later list)
