-- What the uses of a body see, and where their definitions stand.
use Rattle.std.proofs.Common.{◌≡◌, List, [], ◌∷◌, ◌++◌, map, flat_map, Option, None, Some, option_to_list, refl, subst}
use Rattle.std.specs.List.{AllByRecursion}
use Rattle.rdl_tree.specs.declared.expr.Name.{Name}
use Rattle.rdl_tree.specs.declared.item.Inst.{Inst}
use Rattle.rdl_tree.specs.declared.item.Insts.{Insts}
use Rattle.rdl_tree.specs.declared.item.Item.{Item}
use Rattle.rb_base.specs.declared.place.Place.{Place}
use Rattle.rdl_values.specs.Bodies as values
use Rattle.rdl_values.specs.Bodies.{Closure, around, component, scope_at, standing, standing_from}
use Rattle.rdl_values.specs.Uses.{Seen, Use, form_of, parent_of, seen, uses, uses_of_insts, uses_of_item}
use Rattle.rdl_values.specs.Views as view
use Rattle.rdl_values.specs.Views.{ItemIs, item_is}
use Rattle.rdl_values.proofs.Given.{each-map}
use Rattle.plain_lemmas.proofs.Lists.{each-append, each-flat_map}
use Rattle.rdl_children.proofs.Reached.{SeenReaches, seen_reach}
use Rattle.rdl_open_bodies.specs.Starts.{AreUsesIn, IsCut}
use Rattle.rdl_open_bodies.proofs.Cuts.{reached_cut}

-- A use stands behind some items of the body, so it sees the body's names; and its parts are those of an instance.
record SeesBody (b : values.Body) (u : Use) : Type 0 where
  sees : around u.scope ≡ around (scope_at b b.items)
  inst_ : Inst
  inst_is : u.inst ≡ Some inst_
  dims_are : u.dims ≡ inst_.dims.now
  form_is : u.form ≡ form_of inst_

insts-see : (b : values.Body) (before : List Item) (alias : Option Name) (place : Place) (c : Option Closure) (is : Insts) → AllByRecursion (SeesBody b) (uses_of_insts (scope_at b before) alias place c is)
insts-see b before alias place c is = each-map (SeesBody b) _ is.list.now (λ i. record { sees = refl; inst_ = i; inst_is = refl; dims_are = refl; form_is = refl })

item-sees : (b : values.Body) (before : List Item) (v : ItemIs) → AllByRecursion (SeesBody b) (uses_of_item (scope_at b before) v)
item-sees b before (view.definition d) = go d.insts
  where
    go : (o : Option Insts) → AllByRecursion (SeesBody b) (flat_map (uses_of_insts (scope_at b before) None d.place (Some (record { def = d; scope = scope_at b before }))) (option_to_list o))
    go None = tt
    go (Some is) = each-append (SeesBody b) _ [] (insts-see b before None d.place (Some (record { def = d; scope = scope_at b before })) is) tt
item-sees b before (view.made alias of is) = insts-see b before alias of.place (component of.text.now (scope_at b before)) is
item-sees b before (view.enumeration n es) = tt
item-sees b before (view.default_ s) = tt
item-sees b before (view.local s) = tt
item-sees b before (view.dynamic t s) = tt

uses-see : (b : values.Body) → AllByRecursion (SeesBody b) (uses b)
uses-see b = each-flat_map (SeesBody b) (λ i. uses_of_item (scope_at b i.0) (item_is i.1)) (standing b.items) (all (standing b.items))
  where
    all : (is : List (List Item × Item)) → AllByRecursion (λ i. AllByRecursion (SeesBody b) (uses_of_item (scope_at b i.0) (item_is i.1))) is
    all [] = tt
    all (i ∷ is) = (item-sees b i.0 (item_is i.1), all is)

-- Both together.

module _ (above_ : List values.Body) (b : values.Body) where
  abbrev as_seen : List Use × Use → Seen
  as_seen u = record { parent = parent_of b; above = above_; earlier = u.0; use_ = u.1 }

  both : (before us : List Use) → AllByRecursion (SeesBody b) us → AllByRecursion (SeenReaches (scope_at b b.items)) (map as_seen (standing_from before us)) → AreUsesIn (parent_of b) (scope_at b b.items) (map as_seen (standing_from before us))
  both before [] h g = tt
  both before (u ∷ us) h g = (record { parent = refl; sees = h.0.sees; inst = h.0.inst_; inst_is = h.0.inst_is; dims_are = h.0.dims_are; form_is = h.0.form_is; cut = λ c e. reached u c e g.0 }, both (before ++ (u ∷ [])) us h.1 g.1)
    where
      reached : (u : Use) (c : Closure) → u.closure ≡ Some c → SeenReaches (scope_at b b.items) (as_seen (before, u)) → IsCut (scope_at b b.items) c.scope
      reached u c e r = go u.closure e r
        where
          go : (o : Option Closure) → o ≡ Some c → SeenReaches (scope_at b b.items) (record (as_seen (before, u)) { use_ = record u { closure = o } }) → IsCut (scope_at b b.items) c.scope
          go None e r = cc
          go (Some d) e r = let same : d ≡ c = cc in subst (λ x. IsCut (scope_at b b.items) x.scope) same (reached_cut (scope_at b b.items) d r)

  pub uses_in : AreUsesIn (parent_of b) (scope_at b b.items) (seen above_ b)
  uses_in = both [] (uses b) (uses-see b) (seen_reach above_ b)
