-- A definition, as it is used in a body.
use Rattle.std.specs.Prelude.{◌≡◌, ℕ, List, Option}
use Rattle.rb_base.specs.declared.place.Place.{Place}
use Rattle.rdl_tree.specs.declared.expr.Name.{Name}
use Rattle.rdl_tree.specs.declared.item.Arg.{Arg}
use Rattle.rdl_tree.specs.declared.item.Def.{Def}
use Rattle.rdl_values.specs.Bodies.{Closure, around}
use Rattle.rdl_values.specs.Chained.{chained}
use Rattle.rdl_values.specs.Uses.{Use}
use Rattle.rdl_values.specs.declared.chain.Chain.{Chain}
use Rattle.rdl_failures.specs.Shown.{IsAlike, IsShown}
use Rattle.rdl_uses.specs.Given.{TypeUsed}
use Rattle.rdl_uses.specs.Placed.{IsParent}
use Rattle.rdl_uses.specs.declared.holder.Parent.{Parent}

-- The use gives these arguments to a definition, whose name stands there; what is visible shows the bodies round the use, and
-- these numbers those round the definition's text.
pub record IsApplied (d : Def) (xs : List Arg) (at : Place) (v : Chain) (ns : List ℕ) (u : Use) (c : Closure) : Type 0 where
  pub def : c.def ≡ d
  pub args_are : u.args ≡ xs
  pub place_is : u.type_place ≡ at
  pub outside : IsShown v (around u.scope)
  pub inside : IsAlike (chained v.tables.now ns) (around c.scope)

-- So does each use of the type, in a body that stands there.
pub record IsTypeOf (d : Def) (a : Option Name) (xs : List Arg) (at : Place) (h : Parent) (v : Chain) (ns : List ℕ) (t : TypeUsed) : Type 0 where
  pub def : t.closure.def ≡ d
  pub alias_is : t.alias ≡ a
  pub args_are : t.args ≡ xs
  pub place_is : t.place ≡ at
  pub outside : IsShown v (around t.scope)
  pub inside : IsAlike (chained v.tables.now ns) (around t.closure.scope)
  pub parent_is : IsParent h t.parent
