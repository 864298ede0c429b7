-- The values of parameters in the code and in the definitions.
use Rattle.std.specs.Prelude.{◌≡◌, ℕ, List, [], ◌∷◌, length, Option, IsErr, Ok, Err, MatchOption}
use Rattle.rb_base.specs.declared.place.Place.{Place}
use Rattle.rdl_base.specs.declared.fault.Fault.{Fault}
use Rattle.rdl_tree.specs.declared.item.Param.{Param}
use Rattle.rdl_values.specs.Bodies.{Closure, Scope, around}
use Rattle.rdl_values.specs.Parameters.{Bound, bound_from}
use Rattle.rdl_values.specs.Chained.{chained}
use Rattle.rdl_values.specs.declared.chain.Chain.{Chain}
use Rattle.rdl_values.specs.Uses.{Use}
use Rattle.rdl_values.specs.Values.{Outcome}
use Rattle.rdl_values.specs.Over.{IsOver}
use Rattle.rdl_values.specs.Overlaid.{IsWalked, overlaid, plain_of}
use Rattle.rdl_values.specs.declared.parameters.Parameters.{Parameters}
use Rattle.rdl_failures.specs.Noted.{with_all}
use Rattle.rdl_failures.specs.Shown.{IsAlike, IsShown}
use Rattle.rdl_uses.specs.Arguments.{AreArguments}
use Rattle.rdl_uses.specs.declared.arguments.Arguments.{Arguments}

-- The place of a use, for a definition in the bodies round its text.
pub record IsSite (a : Arguments) (visible : Chain) (numbers : List ℕ) (at : Place) (u : Use) (c : Closure) : Type 0 where
  pub arguments : AreArguments a c.def.params.now u.args
  pub outside : IsShown visible (around u.scope)
  pub inside : IsAlike (chained visible.tables.now numbers) (around c.scope)
  pub place : at ≡ u.type_place

-- All parameters up to a place have values, which are shown, or the failure of the first that has none was put in.
abbrev pub IsFront : Use → Scope → List Param → ℕ → List Fault → List Fault → Option Parameters → Type 0
IsFront u scope ps upto before after r = MatchOption r ((f : Fault) × (bound_from u scope [] ps ≡ Err f) × (after ≡ with_all (f ∷ []) before)) (λ p. (k : ℕ) × (t : Bound) × IsOver p (plain_of ps) k t × IsWalked u scope ps upto t × (after ≡ before))

-- the values, where none fails: those that the text has at all uses, with the touched ones put over them
abbrev pub AreValues : List Param → Outcome Bound → Option Parameters → Type 0
AreValues ps o r = MatchOption r (IsErr o) (λ p. (t : Bound) × IsOver p (plain_of ps) (length ps) t × (o ≡ Ok (overlaid (plain_of ps) t)))
