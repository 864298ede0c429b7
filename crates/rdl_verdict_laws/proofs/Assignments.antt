-- The assignments of a body, and where dynamic ones lead, apart from addresses.
use Rattle.std.specs.List.{list_any}
use Rattle.std.proofs.Common.{◌≡◌, ℕ, Bool, ◌&&◌, refl, sym, ap, ◌∙◌, List, [], ◌∷◌, ◌++◌, map, flat_map, filter}
use Rattle.std.proofs.lemmas.List.{map-append}
use Rattle.rdl_tree.specs.declared.expr.Expr.{Expr}
use Rattle.rdl_tree.specs.declared.expr.Step.{Step}
use Rattle.rdl_tree.specs.declared.item.Item.{Item}
use Rattle.rdl_verdict_laws.specs.Plain.{plain_expr, plain_step, plain_item}
use Rattle.rdl_values.specs.Bodies.{Layer, Scope, Body, around, standing, same_name, scope_at}
use Rattle.rdl_values.specs.Elaborated.{index_of}
use Rattle.rdl_values.specs.Instances.{Instance, given_by, children}
use Rattle.rdl_values.specs.Uses.{seen}
use Rattle.rdl_values.specs.Values.{Around}
use Rattle.rdl_values.specs.Views as view
use Rattle.rdl_values.specs.Views.{ItemIs, item_is, steps_of}
use Rattle.rdl_verdict_laws.specs.PlainInstances.{plain_view, plain_layer, plain_scope, plain_body, plain_seen, plain_instance}
use Rattle.rdl_verdict_laws.proofs.Lists.{flat_under, filter_under, any_same, both, standing_under}
use Rattle.rdl_verdict_laws.proofs.Values.{item_is-plain, steps-plain, values-plain}
use Rattle.rdl_verdict_laws.proofs.Bodies.{around-plain}
use Rattle.rdl_verdict_laws.proofs.Uses.{seen-plain}
use Rattle.rdl_verdict_laws.proofs.Instances.{given-plain, children-plain}
use Rattle.rdl_layers.specs.Assignments.{Dynamic, Nested, local_in, locals, default_in, defaults_before, defaults, dynamic_in, dynamics, is_index, is_index_or_none, is_step, is_step_exactly, led_down, members, targets, is_among, meet, same_path}
use Rattle.rdl_layers.specs.Meanings.{Assignment}
use Rattle.rdl_verdict_laws.specs.PlainSettings.{plain_assignment, plain_dynamic, plain_nested}

abbrev at_local : Scope → ItemIs → List Assignment
at_local s (view.local t) = record { set_ = t; scope = s } ∷ []
at_local s _ = []

at_local-plain : (s : Scope) (v : ItemIs) → at_local (plain_scope s) (plain_view v) ≡ map plain_assignment (at_local s v)
at_local-plain s (view.local t) = refl
at_local-plain s (view.definition d) = refl
at_local-plain s (view.enumeration n es) = refl
at_local-plain s (view.made a of is) = refl
at_local-plain s (view.default_ t) = refl
at_local-plain s (view.dynamic p t) = refl

pub locals-plain : (b : Body) → locals (plain_body b) ≡ map plain_assignment (locals b)
locals-plain b =
    ap (flat_map (local_in (plain_body b))) (standing_under plain_item b.items)
    ∙ flat_under (local_in (plain_body b)) (local_in b) (both plain_item) plain_assignment (λ x. ap (at_local (plain_scope (scope_at b x.0))) (item_is-plain x.1) ∙ at_local-plain (scope_at b x.0) (item_is x.1)) (standing b.items)

abbrev at_default : Scope → ItemIs → List Assignment
at_default s (view.default_ t) = record { set_ = t; scope = s } ∷ []
at_default s _ = []

at_default-plain : (s : Scope) (v : ItemIs) → at_default (plain_scope s) (plain_view v) ≡ map plain_assignment (at_default s v)
at_default-plain s (view.default_ t) = refl
at_default-plain s (view.local t) = refl
at_default-plain s (view.definition d) = refl
at_default-plain s (view.enumeration n es) = refl
at_default-plain s (view.made a of is) = refl
at_default-plain s (view.dynamic p t) = refl

pub before-plain : (l : Layer) (outer : Scope) → defaults_before (plain_layer l) (plain_scope outer) ≡ map plain_assignment (defaults_before l outer)
before-plain l outer =
    let f : List Item × Item → List Assignment = default_in (plain_layer l) (plain_scope outer) in
    ap (flat_map f) (standing_under plain_item l.before)
    ∙ flat_under f (default_in l outer) (both plain_item) plain_assignment
    (λ x. ap (at_default (plain_scope (record l { before = x.0 } ∷ outer))) (item_is-plain x.1) ∙ at_default-plain (record l { before = x.0 } ∷ outer) (item_is x.1)) (standing l.before)

pub defaults-plain : (b : Body) → defaults (plain_body b) ≡ map plain_assignment (defaults b)
defaults-plain b = before-plain (record { node = b.node; before = b.items; names = b.names }) b.outer

abbrev at_dynamic : Scope → ItemIs → List Dynamic
at_dynamic s (view.dynamic p t) = record { steps = steps_of p; assigns = record { set_ = t; scope = s } } ∷ []
at_dynamic s _ = []

at_dynamic-plain : (s : Scope) (v : ItemIs) → at_dynamic (plain_scope s) (plain_view v) ≡ map plain_dynamic (at_dynamic s v)
at_dynamic-plain s (view.dynamic p t) = λ i. record { steps = steps-plain p i; assigns = plain_assignment (record { set_ = t; scope = s }) } ∷ []
at_dynamic-plain s (view.default_ t) = refl
at_dynamic-plain s (view.local t) = refl
at_dynamic-plain s (view.definition d) = refl
at_dynamic-plain s (view.enumeration n es) = refl
at_dynamic-plain s (view.made a of is) = refl

pub dynamics-plain : (b : Body) → dynamics (plain_body b) ≡ map plain_dynamic (dynamics b)
dynamics-plain b =
    ap (flat_map (dynamic_in (plain_body b))) (standing_under plain_item b.items)
    ∙ flat_under (dynamic_in (plain_body b)) (dynamic_in b) (both plain_item) plain_dynamic (λ x. ap (at_dynamic (plain_scope (scope_at b x.0))) (item_is-plain x.1) ∙ at_dynamic-plain (scope_at b x.0) (item_is x.1)) (standing b.items)

-- Targets.

index-plain : (r : Around) (es : List Expr) (index : List ℕ) → is_index_or_none r (map plain_expr es) index ≡ is_index_or_none r es index
index-plain r [] index = refl
index-plain r (e ∷ es) index = ap (λ o. is_index o index) (values-plain r (e ∷ es))

pub step-plain : (r : Around) (t : Step) (n : Instance) → is_step r (plain_step t) (plain_instance n) ≡ is_step r t n
step-plain r t n = ap (λ b. same_name t.name n.use_.name && b) (index-plain r t.index.now (index_of n.path))

pub exactly-plain : (r : Around) (t : Step) (n : Instance) → is_step_exactly r (plain_step t) (plain_instance n) ≡ is_step_exactly r t n
exactly-plain r t n = ap (λ o. same_name t.name n.use_.name && is_index o (index_of n.path)) (values-plain r t.index.now)

module _ {A : Type 0} (g : A → A) (inside : A → List A) (here : (a : A) → inside (g a) ≡ map g (inside a)) (is is' : Step → A → Bool) (same : (t : Step) (a : A) → is (plain_step t) (g a) ≡ is' t a) where
  pub led-plain : (ns : List A) (ts : List Step) → led_down inside is (map g ns) (map plain_step ts) ≡ map g (led_down inside is' ns ts)
  led-plain ns [] = refl
  led-plain ns (t ∷ []) = filter_under (is (plain_step t)) (is' t) g (same t) ns
  led-plain ns (t ∷ u ∷ ts) =
      ap (λ ms. led_down inside is (flat_map inside ms) (map plain_step (u ∷ ts))) (filter_under (is (plain_step t)) (is' t) g (same t) ns)
      ∙ ap (λ ms. led_down inside is ms (map plain_step (u ∷ ts))) (flat_under inside inside g g here (filter (is' t) ns))
      ∙ led-plain (flat_map inside (filter (is' t) ns)) (u ∷ ts)

pub members-plain : (b : Nested) → members (plain_nested b) ≡ map plain_instance (members b)
members-plain b =
    ap (λ a. flat_map given_by (seen a (plain_body b.1))) (sym (map-append plain_body b.0 (b.1 ∷ []))) ∙ ap (flat_map given_by) (seen-plain (b.0 ++ (b.1 ∷ [])) b.1)
    ∙ flat_under given_by given_by plain_seen plain_instance given-plain (seen (b.0 ++ (b.1 ∷ [])) b.1)

pub targets-plain : (b : Nested) (d : Dynamic) → targets (plain_nested b) (plain_dynamic d) ≡ map plain_instance (targets b d)
targets-plain b d =
    (λ i. led_down children (is_step (around-plain d.assigns.scope i)) (members-plain b i) (map plain_step d.steps))
    ∙ led-plain plain_instance children children-plain (is_step (around d.assigns.scope)) (is_step (around d.assigns.scope)) (step-plain (around d.assigns.scope)) (members b) d.steps

pub among-plain : (ns : List Instance) (n : Instance) → is_among (map plain_instance ns) (plain_instance n) ≡ is_among ns n
among-plain ns n = any_same (λ m. same_path m.path n.path) (λ m. same_path m.path n.path) plain_instance (λ m. refl) ns

pub meet-plain : (b : Nested) (d e : Dynamic) → meet (plain_nested b) (plain_dynamic d) (plain_dynamic e) ≡ meet b d e
meet-plain b d e = (λ i. list_any (is_among (targets-plain b d i)) (targets-plain b e i)) ∙ any_same (is_among (map plain_instance (targets b d))) (is_among (targets b d)) plain_instance (among-plain (targets b d)) (targets b e)
