-- What fails alike in all bodies of a text: these have parameters of the same names, whose values differ.
use Rattle.std.specs.Prelude.{◌≡◌, ℕ, Bool, true, List, map, Option, Some}
use Rattle.rb_base.specs.declared.place.Place.{Place}
use Rattle.rdl_props.specs.Table.{find_prop}
use Rattle.rdl_props.specs.declared.form.Form.{Form}
use Rattle.rdl_props.specs.declared.prop.Prop.{Prop}
use Rattle.rdl_tree.specs.declared.expr.Expr.{Expr}
use Rattle.rdl_tree.specs.declared.item.Assigned.{Assigned}
use Rattle.rdl_tree.specs.declared.item.Set.{Set}
use Rattle.rdl_values.specs.Bodies.{Scope, around}
use Rattle.rdl_values.specs.Faults.{failures}
use Rattle.rdl_values.specs.Values.{Around, EnumOf, value_of}
use Rattle.rdl_layers.specs.Meanings.{from_given, meaning}

-- the names of the parameters of some bodies
abbrev pub parameter_names : Around → List (List (List ℕ))
parameter_names ws = map (λ w. map (λ x. x.0) w.bound) ws

-- their enumerations
abbrev pub enums_of : Around → List (List EnumOf)
enums_of ws = map (λ w. w.enums) ws

-- Parameters of the same names as in these bodies, level by level, and where it is said the same enumerations.
pub record AreNamedAs (same : Bool) (v w : Around) : Type 0 where
  pub parameters : parameter_names w ≡ parameter_names v
  pub enums : same ≡ true → enums_of w ≡ enums_of v

-- an expression's value, or its first failure, is the same in all bodies that are named as these
abbrev pub IsSteady : Bool → Around → Expr → Type 0
IsSteady same v e = (u w : Around) → AreNamedAs same v u → AreNamedAs same v w → value_of u e ≡ value_of w e

-- what is given in a row of this form fails alike in them
abbrev pub IsSteadyGiven : Bool → Around → Form → Option Assigned → Type 0
IsSteadyGiven same v f g = (place : Place) (u w : Scope) → AreNamedAs same v (around u) → AreNamedAs same v (around w) → failures (from_given f u place g) ≡ failures (from_given f w place g)

-- what a setting gives this property fails alike in them
abbrev pub IsSteadySet : Bool → Around → Prop → Set → Type 0
IsSteadySet same v p s = (u w : Scope) → AreNamedAs same v (around u) → AreNamedAs same v (around w) → failures (meaning p (record { set_ = s; scope = u })) ≡ failures (meaning p (record { set_ = s; scope = w }))

-- the same of the property that it names, if there is one
abbrev pub IsSteadyNamed : Bool → Around → Set → Type 0
IsSteadyNamed same v s = (p : Prop) → find_prop s.prop.text.now ≡ Some p → IsSteadySet same v p s
