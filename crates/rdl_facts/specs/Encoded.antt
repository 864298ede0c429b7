-- From where the names of enumerations are looked up.
use Rattle.std.specs.Prelude.{◌≡◌, ℕ, Contains, Option, None, Some}
use Rattle.rdl_props.specs.declared.prop.Prop.{Prop}
use Rattle.rdl_tree.specs.declared.expr.Name.{Name}
use Rattle.rdl_tree.specs.declared.node.Elab.{Elab}
use Rattle.rdl_values.specs.Bodies.{Scope}
use Rattle.rdl_values.specs.Elaborated.{nodes_of}
use Rattle.rdl_values.specs.Elaboration.{IsClean}
use Rattle.rdl_values.specs.Instances.{Instance}
use Rattle.rdl_values.specs.Values.{Around}
use Rattle.rdl_layers.specs.Says.{IsScopeNumber}
use Rattle.rdl_layers.specs.Settings.{enum_of, setting}
use Rattle.rdl_bodies.specs.Sited.{HaveNames}
use Rattle.rdl_bodies.specs.declared.bodies.Body.{Body}
use Rattle.rdl_open_bodies.specs.Spots.{IsOpenTree}
use Rattle.rdl_open_bodies.specs.declared.spots.OpenTree.{OpenTree}
use Rattle.rdl_open_bodies.specs.declared.spots.Spot.{Spot}

-- the open body of a node, or the root's
abbrev pub body_or : Option Spot → ℕ
body_or None = 0
body_or (Some o) = o.body

-- the body is open, and the bodies of its numbers have these names
abbrev pub Shows : OpenTree → Option Body → Around → Type 0
Shows tree o names = (x : Body) × (o ≡ Some x) × HaveNames tree.bodies.list.items x.numbers.now names

-- A property of a node of the tree is set to the enumeration of this name, which is looked up from the body of this number.
pub record NamesEnum (e : Elab) (tree : OpenTree) (name : Name) (number : ℕ) (scope : Scope) : Type 0 where
  pub clean : IsClean e
  pub open_ : IsOpenTree e tree
  pub node : Instance
  pub there : Contains (nodes_of e) node
  pub prop : Prop
  pub named : setting node prop ≡ enum_of name scope
  pub seen_from : IsScopeNumber (nodes_of e) scope number
