-- What the code knows of some assignments of one layer.
use Rattle.std.specs.Prelude.{◌≡◌, ℕ, Bool, List, [], ◌∷◌, Some, Ok}
use Rattle.rdl_base.specs.declared.fault.Fault.{Fault}
use Rattle.rdl_props.specs.declared.prop.Prop.{Prop}
use Rattle.rdl_failures.specs.Noted.{with_all}
use Rattle.rdl_layers.specs.Judged.{all_failures, failures_of, props_of, sound}
use Rattle.rdl_layers.specs.Meanings.{Assignment, meaning, prop_of}
use Rattle.rdl_assignments.specs.Meant.{StandsIn, meaning_in}
use Rattle.rdl_assignments.specs.Taken.{AreTaken}
use Rattle.rdl_assignments.specs.declared.set.ValidAssignment.{ValidAssignment}
use Rattle.rdl_assignments.specs.declared.layer.Layer.{Layer}

-- The property of an assignment and what it gives, in the body of this number.
pub record IsGiven (body : ℕ) (g : ValidAssignment) (a : Assignment) : Type 0 where
  pub prop : prop_of a ≡ Some g.prop
  pub value : meaning g.prop a ≡ Ok (meaning_in a.scope g.setting)
  pub stands : StandsIn body g.setting

-- one by one
abbrev pub AreGiven : ℕ → List ValidAssignment → List Assignment → Type 0
AreGiven body [] [] = Unit {0}
AreGiven body (g ∷ gs) (a ∷ as') = IsGiven body g a × AreGiven body gs as'
AreGiven body _ _ = ⊥

-- These assignments were read: their properties are taken, those that fail no rule are given, and all failures were put in.
pub record IsLayer (legal : Prop → Bool) (body : ℕ) (y : Layer) (start now : List Fault) (as' : List Assignment) : Type 0 where
  pub taken : AreTaken y.taken (props_of as')
  pub given : AreGiven body y.given.items (sound (failures_of legal) as')
  pub noted : now ≡ with_all (all_failures (failures_of legal) as') start
