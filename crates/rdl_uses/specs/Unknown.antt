-- The uses in a body of one type that is not visible.
use Rattle.std.specs.Prelude.{List, map, Option, None, Some}
use Rattle.rb_base.specs.declared.place.Place.{Place}
use Rattle.rdl_tree.specs.declared.expr.Name.{Name}
use Rattle.rdl_tree.specs.declared.item.Arg.{Arg}
use Rattle.rdl_tree.specs.declared.item.Inst.{Inst}
use Rattle.rdl_values.specs.Bodies.{Body, Scope, standing_from}
use Rattle.rdl_values.specs.Paths as paths
use Rattle.rdl_values.specs.Uses.{Seen, Use, form_of}

-- A type that means nothing where its name stands, with its arguments; and where the body stands.
pub record UnknownType : Type 0 where
  pub alias : Option Name
  pub args : List Arg
  pub place : Place
  pub scope : Scope
  pub parent : paths.Parent
  pub above : List Body

-- the use by an instance
abbrev pub unknown_by : UnknownType → Inst → Use
unknown_by t i = record { inst = Some i; name = i.name; dims = i.dims.now; form = form_of i; args = t.args; alias = t.alias; type_place = t.place; closure = None; scope = t.scope }

-- a use behind others, as it is seen in the body
abbrev pub unknown_seen : UnknownType → List Use × Use → Seen
unknown_seen t u = record { parent = t.parent; above = t.above; earlier = u.0; use_ = u.1 }

-- the uses by some instances, behind others
abbrev pub unknown_seens : UnknownType → List Use → List Inst → List Seen
unknown_seens t us is = map (unknown_seen t) (standing_from us (map (unknown_by t) is))
