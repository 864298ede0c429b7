-- The tables that the references of a tree are kept in.
use Rattle.std.specs.Prelude.{◌≡◌, ℕ, ◌<◌, cond, List, [], ◌∷◌, map, length, slice_index_or, Option, None, Some, Vec}
use Rattle.std.specs.Global.{Global}
use Rattle.rdl_props.specs.declared.prop.Prop.{Prop}
use Rattle.rdl_props.specs.Same.{same_prop}
use Rattle.rdl_refs.specs.declared.refs.Target.{Target}
use Rattle.rdl_refs.specs.declared.refs.Refs.TheInside.{Inside}
use Rattle.rdl_refs.specs.Answers.{AreItems, TargetAt}

-- the item that the first target of a property names, if there is one
abbrev pub item_at : Prop → List Target → Option ℕ
item_at p [] = None
item_at p (t ∷ ts) = cond (same_prop t.prop p) (Some t.item) (item_at p ts)

-- the list of a number
abbrev pub list_at : {X : Type 0} → List (Vec X Global) → ℕ → List X
list_at vs i = slice_index_or (map (λ v. v.items) vs) i []

-- Items, and the items that settings name, node by node.
pub record AreTables (a : Inside) : Type 0 where
  pub listed : AreItems a.elab a.items.items
  pub sized : length a.targets.items ≡ a.elab.count
  pub named : (k : ℕ) (p : Prop) → k < a.elab.count → TargetAt a.elab k p (item_at p (list_at a.targets.items k))
