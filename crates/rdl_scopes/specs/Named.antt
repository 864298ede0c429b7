-- The components of a body, by name.
use Rattle.std.specs.Prelude.{◌≡◌, ℕ, suc, Bool, cond, Option, None, Some, List, [], ◌∷◌, option_map, is_some, flat_map}
use Rattle.std.specs.List.{list_any}
use Rattle.std.specs.Rc.{rc_value}
use Rattle.rdl_base.specs.declared.fault.Fault.{Fault}
use Rattle.rdl_base.specs.declared.rule.Rule.TheVariants as rules
use Rattle.rdl_tree.specs.declared.expr.Name.{Name}
use Rattle.rdl_tree.specs.declared.item.Def.{Def}
use Rattle.rdl_tree.specs.declared.item.Item.{Item}
use Rattle.rdl_values.specs.Bodies.{component_of, is_component, same_name, standing}
use Rattle.rdl_values.specs.Faults.{at_, when}
use Rattle.rdl_values.specs.Views.{item_is}
use Rattle.rdl_values.specs.Firsts.{place_of}
use Rattle.rdl_values.specs.declared.firsts.Firsts.{Firsts}
use Rattle.rdl_scopes.specs.Defaulted.{AreKnown}
use Rattle.rdl_scopes.specs.declared.components.Components.{Components}

-- E2 at each name that stands before
abbrev pub fails_twice : List Name → List Fault
fails_twice names = flat_map (λ n. when (list_any (same_name n.1) n.0) (at_ rules.E2 n.1.place)) (standing names)

abbrev pub text_of : Option Name → Option (List ℕ)
text_of None = None
text_of (Some n) = Some n.text.now

abbrev pub name_in : Option Def → Option (List ℕ)
name_in None = None
name_in (Some d) = text_of d.name

-- the name of a component
abbrev pub component_named : Item → Option (List ℕ)
component_named i = name_in (component_of (item_is i))

-- the item is a component of this name
abbrev pub has_component : List ℕ → Item → Bool
has_component n i = is_some (is_component n (item_is i))

-- the first place at which a test passes
abbrev pub first_of : {X : Type 0} → (X → Bool) → List X → Option ℕ
first_of f [] = None
first_of f (x ∷ xs) = cond (f x) (Some 0) (option_map (λ k. suc k) (first_of f xs))

-- each name has the place of the first component of that name among these items
pub record Knows (t : Firsts) (items : List Item) : Type 0 where
  pub at : (n : List ℕ) → place_of t n ≡ first_of (has_component n) items

-- the components are those among these items, with what their parameters have at all uses
pub record AreComponents (c : Components) (items : List Item) : Type 0 where
  pub same : c.items.now ≡ items
  pub known : Knows c.firsts.value items
  pub defaults : AreKnown (option_map rc_value c.defaults) items
