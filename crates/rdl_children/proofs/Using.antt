-- The uses of an item, as those of one type.
use Rattle.std.proofs.Common.{◌≡◌, ◌∙◌, ℕ, ◌+◌, List, [], ◌∷◌, ◌++◌, cond, Bool, true, false, drop, map, flat_map, slice_get, Option, None, Some, option_to_list, refl, sym, ap, subst, append-nil}
use Rattle.rdl_tree.specs.declared.expr.Name.{Name}
use Rattle.rdl_tree.specs.declared.item.Def.{Def}
use Rattle.rdl_tree.specs.declared.item.Inst.{Inst}
use Rattle.rdl_tree.specs.declared.item.Insts.{Insts}
use Rattle.rdl_tree.specs.declared.item.Item.{Item}
use Rattle.rdl_values.specs.Bodies.{Body, Closure, Scope, around, component}
use Rattle.rdl_values.specs.Chained.{chained}
use Rattle.rdl_values.specs.Instances.{Instance, elements, given_by}
use Rattle.rdl_values.specs.NoNode.{no_node}
use Rattle.rdl_values.specs.Parameters.{bound_of}
use Rattle.rdl_values.specs.Parts.{dims_of, is_empty}
use Rattle.rdl_values.specs.Paths.{Parent}
use Rattle.rdl_values.specs.Uses.{Seen, Use, uses_of_insts, uses_of_item}
use Rattle.rdl_values.specs.Values.{Names}
use Rattle.rdl_values.specs.Views as view
use Rattle.rdl_values.specs.Views.{ItemIs, item_is}
use Rattle.rdl_failures.specs.Shown.{IsAlike}
use Rattle.rdl_scopes.specs.declared.components.Components.{Components}
use Rattle.rdl_scopes.specs.Scopes.{IsClosureAt, Shows, Stands}
use Rattle.rdl_scopes.specs.declared.scopes.Found.{Found}
use Rattle.rdl_uses.specs.Applied.{IsTypeOf}
use Rattle.rdl_uses.specs.Given.{TypeUsed, use_by}
use Rattle.rdl_uses.specs.Unknown.{UnknownType, unknown_by, unknown_seen, unknown_seens}
use Rattle.rdl_children.specs.ItemUses.{AreSurroundings, chain_of, nearest_items}
use Rattle.rdl_children.specs.declared.item.Surroundings.{Surroundings}

-- a definition among the items of the nearest body stands there
pub def_stands : (cs : List Components) (ks : List ℕ) (f : Found) (i : Item) → f.level ≡ 0 → slice_get (nearest_items cs ks) f.position ≡ Some i → item_is i ≡ view.definition f.def.now → Stands cs ks f
def_stands cs [] f i level at is = cc
def_stands cs (k ∷ ks) f i level at is = record { number = k; item = i; body = ap (slice_get (k ∷ ks)) level; there = at; is = is }

pub shows-alike : (ts : List Names) (cs : List Components) (ks : List ℕ) (p : ℕ) (ps : List ℕ) (scope : Scope) → Shows ts cs ks (p ∷ ps) scope → IsAlike (chained ts ks) (around scope)
shows-alike ts cs [] p ps scope h = absurd h
shows-alike ts cs (k ∷ ks) p ps [] h = absurd h
shows-alike ts cs (k ∷ ks) p ps (l ∷ ls) h = h.1

-- the type of the uses behind a definition
abbrev pub behind : Def → Insts → Parent → List Body → Scope → TypeUsed
behind d is p above scope = record { alias = None; args = is.args.now; place = d.place; closure = record { def = d; scope = scope }; scope = scope; parent = p; above = above }

-- the type of the uses of a name
abbrev pub named : Option Name → Name → Insts → Closure → Parent → List Body → Scope → TypeUsed
named alias of is c p above scope = record { alias = alias; args = is.args.now; place = of.place; closure = c; scope = scope; parent = p; above = above }

abbrev pub unnamed : Option Name → Name → Insts → Parent → List Body → Scope → UnknownType
unnamed alias of is p above scope = record { alias = alias; args = is.args.now; place = of.place; scope = scope; parent = p; above = above }

pub uses_behind : (i : Item) (d : Def) (is : Insts) (p : Parent) (above : List Body) (scope : Scope) → item_is i ≡ view.definition d → d.insts ≡ Some is → uses_of_item scope (item_is i) ≡ map (use_by (behind d is p above scope)) is.list.now
uses_behind i d is p above scope e s =
    ap (uses_of_item scope) e ∙ ap (λ o. flat_map (uses_of_insts scope None d.place (Some (record { def = d; scope = scope }))) (option_to_list o)) s ∙ append-nil (map (use_by (behind d is p above scope)) is.list.now)

pub uses_named : (i : Item) (alias : Option Name) (of : Name) (is : Insts) (c : Closure) (p : Parent) (above : List Body) (scope : Scope) → item_is i ≡ view.made alias of is → component of.text.now scope ≡ Some c
    → uses_of_item scope (item_is i) ≡ map (use_by (named alias of is c p above scope)) is.list.now
uses_named i alias of is c p above scope e s = ap (uses_of_item scope) e ∙ ap (λ o. uses_of_insts scope alias of.place o is) s

pub uses_unnamed : (i : Item) (alias : Option Name) (of : Name) (is : Insts) (p : Parent) (above : List Body) (scope : Scope) → item_is i ≡ view.made alias of is → component of.text.now scope ≡ None
    → uses_of_item scope (item_is i) ≡ map (unknown_by (unnamed alias of is p above scope)) is.list.now
uses_unnamed i alias of is p above scope e s = ap (uses_of_item scope) e ∙ ap (λ o. uses_of_insts scope alias of.place o is) s

module _ (s : Surroundings) (position : ℕ) (p : Parent) (above : List Body) (scope : Scope) (h : AreSurroundings s position p scope) where
  alike : IsAlike (chained s.tables.now s.numbers.now) (around scope)
  alike = shows-alike s.tables.now s.components.now s.numbers.now position s.outer.now scope h.shown

  pub type_behind : (d : Def) (is : Insts) → IsTypeOf d None is.args.now d.place s.parent (chain_of s) s.numbers.now (behind d is p above scope)
  type_behind d is = record { def = refl; alias_is = refl; args_are = refl; place_is = refl; outside = alike; inside = alike; parent_is = h.parent_is }

  pub type_named : (alias : Option Name) (of : Name) (is : Insts) (f : Found) (c : Closure) → IsClosureAt s.tables.now s.components.now s.numbers.now (position ∷ s.outer.now) f c
      → IsTypeOf f.def.now alias is.args.now of.place s.parent (chain_of s) (drop f.level s.numbers.now) (named alias of is c p above scope)
  type_named alias of is f c at = record {
    def = at.def;
    alias_is = refl;
    args_are = refl;
    place_is = refl;
    outside = alike;
    inside = shows-alike s.tables.now s.components.now (drop f.level s.numbers.now) f.position (drop (f.level + 1) (position ∷ s.outer.now)) c.scope at.shown;
    parent_is = h.parent_is;
  }

-- Of a type that is not visible no use gives a node.

abbrev gives : Seen → Option Closure → List Instance
gives s o = cond (is_empty (no_node s)) (flat_map (λ c. elements s c (bound_of s.use_ c) (dims_of s.use_ c.def.kind)) (option_to_list o)) []

gives-none : (s : Seen) → s.use_.closure ≡ None → given_by s ≡ []
gives-none s e = ap (gives s) e ∙ same (is_empty (no_node s))
  where
    same : (b : Bool) → cond {A = List Instance} b [] [] ≡ []
    same true = refl
    same false = refl

pub none_given : (t : UnknownType) (us : List Use) (is : List Inst) → flat_map given_by (unknown_seens t us is) ≡ []
none_given t us [] = refl
none_given t us (i ∷ is) =
    ap (λ ns. ns ++ flat_map given_by (unknown_seens t (us ++ (unknown_by t i ∷ [])) is)) (gives-none (unknown_seen t (us, unknown_by t i)) refl) ∙ none_given t (us ++ (unknown_by t i ∷ [])) is

-- The definition that was found, under the name that is used.
pub found_named : (s : Surroundings) (position : ℕ) (p : Parent) (scope : Scope) (uptos : List ℕ) → AreSurroundings s position p scope → uptos ≡ position ∷ s.outer.now → Shows s.tables.now s.components.now s.numbers.now uptos scope
found_named s position p scope uptos h e = subst (λ us. Shows s.tables.now s.components.now s.numbers.now us scope) (sym e) h.shown
