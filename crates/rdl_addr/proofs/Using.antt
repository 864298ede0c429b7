-- The nodes in the body of one come from texts, whose expressions see what that body shows.
use Rattle.std.proofs.Common.{◌≡◌, ◌∙◌, Option, None, Some, List, [], ◌∷◌, ◌++◌, map, flat_map, option_to_list, refl, ap}
use Rattle.std.specs.List.{AllByRecursion}
use Rattle.rb_base.specs.declared.place.Place.{Place}
use Rattle.rdl_tree.specs.declared.expr.Name.{Name}
use Rattle.rdl_tree.specs.declared.item.Inst.{Inst}
use Rattle.rdl_tree.specs.declared.item.Insts.{Insts}
use Rattle.rdl_tree.specs.declared.item.Item.{Item}
use Rattle.rdl_values.specs.Bodies.{Body, Closure, Scope, around, scope_at, standing_from, component}
use Rattle.rdl_values.specs.Elaborated.{around_body}
use Rattle.rdl_values.specs.Instances.{Instance, body, children, given_by, seen_in}
use Rattle.rdl_values.specs.Uses.{Seen, Use, form_of, parent_of, uses, uses_of_insts, uses_of_item}
use Rattle.rdl_values.specs.Values.{Around}
use Rattle.rdl_values.specs.Views as view
use Rattle.rdl_values.specs.Views.{ItemIs, item_is}
use Rattle.rdl_values.proofs.Given.{given-all}
use Rattle.plain_lemmas.proofs.Lists.{each-append as both, each-flat_map, each-imp}
use Rattle.rdl_addr.specs.Texts.{IsText}

-- a use comes from a text
abbrev pub IsUsed : Around → Use → Type 0
IsUsed env u = (i : Inst) × (u.inst ≡ Some i) × (u.form ≡ form_of i) × (u.dims ≡ i.dims.now) × (around u.scope ≡ env)

of-insts : (scope : Scope) (alias : Option Name) (place : Place) (c : Option Closure) (is : Insts) → AllByRecursion (IsUsed (around scope)) (uses_of_insts scope alias place c is)
of-insts scope alias place c is = go is.list.now
  where
    go : (xs : List Inst) → AllByRecursion (IsUsed (around scope)) (map (λ i. record { inst = Some i; name = i.name; dims = i.dims.now; form = form_of i; args = is.args.now; alias = alias; type_place = place; closure = c; scope = scope }) xs)
    go [] = tt
    go (x ∷ xs) = ((x, refl, refl, refl, refl), go xs)

of-item : (scope : Scope) (i : ItemIs) → AllByRecursion (IsUsed (around scope)) (uses_of_item scope i)
of-item scope (view.definition d) = defined d.insts
  where
    defined : (o : Option Insts) → AllByRecursion (IsUsed (around scope)) (flat_map (uses_of_insts scope None d.place (Some (record { def = d; scope = scope }))) (option_to_list o))
    defined None = tt
    defined (Some is) = both (IsUsed (around scope)) (uses_of_insts scope None d.place (Some (record { def = d; scope = scope })) is) [] (of-insts scope None d.place (Some (record { def = d; scope = scope })) is) tt
of-item scope (view.made alias of insts) = of-insts scope alias of.place (component of.text.now scope) insts
of-item scope (view.enumeration n es) = tt
of-item scope (view.default_ s) = tt
of-item scope (view.local s) = tt
of-item scope (view.dynamic p s) = tt

of-items : (b : Body) (before rest : List Item) → AllByRecursion (IsUsed (b.names ∷ around b.outer)) (flat_map (λ i. uses_of_item (scope_at b i.0) (item_is i.1)) (standing_from before rest))
of-items b before [] = tt
of-items b before (i ∷ is) = both (IsUsed (b.names ∷ around b.outer)) (uses_of_item (scope_at b before) (item_is i)) _ (of-item (scope_at b before) (item_is i)) (of-items b (before ++ (i ∷ [])) is)

used-all : (b : Body) → AllByRecursion (IsUsed (b.names ∷ around b.outer)) (uses b)
used-all b = of-items b [] b.items

seen-used : (env : Around) (above : List Body) (b : Body) (before us : List Use) → AllByRecursion (IsUsed env) us → AllByRecursion (λ (s : Seen). IsUsed env s.use_) (map (λ u. record { parent = parent_of b; above = above; earlier = u.0; use_ = u.1 }) (standing_from before us))
seen-used env above b before [] h = tt
seen-used env above b before (u ∷ us) h = (h.0, seen-used env above b (before ++ (u ∷ [])) us h.1)

-- an instance comes from a text
abbrev pub HasText : Around → Instance → Type 0
HasText env c = (i : Inst) × (c.use_.inst ≡ Some i) × IsText i env c

given-text : (env : Around) (s : Seen) → IsUsed env s.use_ → AllByRecursion (HasText env) (given_by s)
given-text env s h = each-imp _ (HasText env) (given_by s) (λ c g.
    let e = g.use_is in
    (h.0, ap (λ u. u.inst) e ∙ h.1, record { form = ap (λ u. u.form) e ∙ h.2; dims = ap (λ u. u.dims) e ∙ h.3; visible = ap (λ u. around u.scope) e ∙ h.4 })) (given-all s)

pub children-texts : (n : Instance) → AllByRecursion (HasText (around_body n)) (children n)
children-texts n =
    each-flat_map (HasText (around_body n)) given_by (seen_in n)
    (each-imp (λ (s : Seen). IsUsed (around_body n) s.use_) (λ (s : Seen). AllByRecursion (HasText (around_body n)) (given_by s)) (seen_in n) (given-text (around_body n)) (seen-used (around_body n) (n.above ++ (body n ∷ [])) (body n) [] (uses (body n)) (used-all (body n))))
