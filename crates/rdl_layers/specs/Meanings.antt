-- What an assignment gives its property.
use Rattle.std.specs.Prelude.{true, cond, flat_map, Option, None, Some, option_map, option_and_then, Ok}
use Rattle.rdl_tree.specs.declared.expr.Expr.{Expr, Ref}
use Rattle.rdl_tree.specs.declared.expr.Path.{Path}
use Rattle.rdl_tree.specs.declared.expr.Name.{Name}
use Rattle.rdl_tree.specs.declared.item.Set.{Set}
use Rattle.rdl_tree.specs.declared.item.Assigned.{Assigned}
use Rattle.rdl_tree.specs.declared.item.Assigned.TheVariants as given
use Rattle.rb_base.specs.declared.trigger.Trigger.{Trigger}
use Rattle.rb_base.specs.declared.place.Place.{Place}
use Rattle.rdl_base.specs.declared.rule.Rule.TheVariants as rules
use Rattle.rdl_props.specs.declared.prop.Prop.{Prop}
use Rattle.rdl_props.specs.declared.form.Form.{Form}
use Rattle.rdl_props.specs.declared.form.Form.TheVariants as form
use Rattle.rdl_props.specs.Table.{find_prop, takes_of}
use Rattle.rdl_values.specs.Views.{steps_of}
use Rattle.rdl_values.specs.Values.{Val, Outcome, fails, then, or_fails, value_of, bare_name, parameter_of, visible_enum}
use Rattle.rdl_values.specs.Values as val
use Rattle.rdl_values.specs.Bodies.{Scope, around}
use Rattle.rdl_values.specs.Uses.{values}
use Rattle.rdl_layers.specs.Forms.{Meaning, intr, enum_of, reference, from_value, from_word, takes_reference, side}

-- An assignment, and the bodies round its text.
pub record Assignment : Type 0 where
  pub set_ : Set
  pub scope : Scope

-- the property of that name, if there is one
abbrev pub prop_of : Assignment → Option Prop
prop_of a = find_prop a.set_.prop.text.now

-- Paths.

-- a visible enum of the name; P8 where there is none
abbrev pub enum_named : Scope → Place → Name → Outcome Meaning
enum_named scope place n = or_fails (option_map (λ e. enum_of n scope) (visible_enum (around scope) n)) rules.P8 place

-- A bare name that names a parameter is its value; every other path is a reference.
abbrev pub parameter_or_reference : Form → Scope → Place → Path → Option Name → Option Val → Outcome Meaning
parameter_or_reference f scope place path item (Some v) = or_fails (from_value f v) rules.P6 place
parameter_or_reference f scope place path item None = cond (takes_reference f) (Ok (reference path item scope place)) (fails rules.P6 place)

-- A precedence and an enum's name are bare names, whatever parameters are visible.
abbrev pub from_path : Form → Scope → Place → Path → Option Name → Outcome Meaning
from_path form.Side scope place path item = or_fails (option_and_then side (bare_name path item)) rules.P6 place
from_path form.EnumName scope place path item = then (or_fails (bare_name path item) rules.P6 place) λ n. enum_named scope place n
from_path f scope place path item = parameter_or_reference f scope place path item (parameter_of (around scope) (bare_name path item))

-- Values: the first failure of the value by a V rule, else P6 where the row doesn't take it.

abbrev pub from_expr : Form → Scope → Place → Expr → Outcome Meaning
from_expr f scope place (Ref path item) = then (values (around scope) (flat_map (λ t. t.index.now) (steps_of path))) λ is. from_path f scope place path item
from_expr f scope place e = then (value_of (around scope) e) λ v. or_fails (from_value f v) rules.P6 place

-- an assignment without a value gives true
abbrev pub from_given : Form → Scope → Place → Option Assigned → Outcome Meaning
from_given f scope place None = or_fails (from_value f (val.flag true)) rules.P6 place
from_given f scope place (Some (given.Word w)) = or_fails (from_word f w) rules.P6 place
from_given f scope place (Some (given.Expr e)) = from_expr f scope place e

-- a trigger word stands before intr alone, which then has no value
abbrev pub from_trigger : Form → Place → Trigger → Option Assigned → Outcome Meaning
from_trigger form.Intr place e None = Ok (intr e)
from_trigger _ place e _ = fails rules.P6 place

-- what an assignment gives in a row of this form, or why it gives nothing
abbrev pub meaning_as : Form → Assignment → Outcome Meaning
meaning_as f a = go a.set_.trigger
  where
    go : Option Trigger → Outcome Meaning
    go None = from_given f a.scope a.set_.place a.set_.value
    go (Some e) = from_trigger f a.set_.place e a.set_.value

-- what an assignment gives this property
abbrev pub meaning : Prop → Assignment → Outcome Meaning
meaning p a = meaning_as (takes_of p) a
