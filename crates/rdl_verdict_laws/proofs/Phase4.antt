-- The failures of settings do not depend on addresses.
use Rattle.std.specs.List.{list_any}
use Rattle.std.proofs.Common.{◌≡◌, ℕ, ◌==◌, nat_lt, Bool, not, ◌||◌, refl, sym, ap, ◌∙◌, List, [], ◌∷◌, ◌++◌, map, flat_map, Option}
use Rattle.rdl_base.specs.declared.fault.Fault.{Fault}
use Rattle.rdl_base.specs.declared.rule.Rule.TheVariants as rules
use Rattle.rdl_tree.specs.declared.item.Entry.{Entry}
use Rattle.rdl_tree.specs.declared.item.Item.{Item}
use Rattle.rdl_tree.specs.declared.item.Kind.{Kind}
use Rattle.rdl_tree.specs.declared.item.Kind.TheVariants as kind
use Rattle.rdl_tree.specs.declared.item.Set.{Set}
use Rattle.rdl_tree.specs.declared.item.Source.{Source}
use Rattle.rdl_verdict_laws.specs.Plain.{plain_entry, plain_item, plain_set, plain_source}
use Rattle.rdl_props.specs.declared.prop.Prop.TheVariants as prop
use Rattle.rdl_values.specs.Bodies.{Scope, Body, around, standing}
use Rattle.rdl_values.specs.Enums.{names_of}
use Rattle.rdl_values.specs.Faults.{at_, when}
use Rattle.rdl_values.specs.Instances.{Instance, body, kind_of, nodes}
use Rattle.rdl_values.specs.Top.{root}
use Rattle.rdl_values.specs.Views as view
use Rattle.rdl_values.specs.Views.{ItemIs, item_is}
use Rattle.rdl_verdict_laws.specs.PlainInstances.{plain_view, plain_scope, plain_body, plain_instance}
use Rattle.rdl_verdict_laws.proofs.Lists.{map_to, flat_id, flat_same, both, standing_under}
use Rattle.rdl_verdict_laws.proofs.Values.{item_is-plain}
use Rattle.rdl_verdict_laws.proofs.Bodies.{around-plain, names-plain}
use Rattle.rdl_verdict_laws.proofs.Instances.{body-plain, root-plain, nodes-plain}
use Rattle.rdl_layers.specs.Assignments.{Nested, defaults, dynamics, locals}
use Rattle.rdl_layers.specs.Judged.{failures_of, failures_of_dynamic, anywhere, legal_on, legal_on_entry, all_failures}
use Rattle.rdl_layers.specs.Meanings.{Assignment}
use Rattle.rdl_layers.specs.Phase4.{of_locals, of_entry, scope_of_enum, of_enums, of_body, is_one_of, bad_regwidth, bad_accesswidth, bad_width, of_node, failures4}
use Rattle.rdl_verdict_laws.specs.PlainSettings.{plain_assignment, plain_dynamic, plain_nested}
use Rattle.rdl_verdict_laws.proofs.Assignments.{locals-plain, defaults-plain, dynamics-plain}
use Rattle.rdl_verdict_laws.proofs.Settings.{failures-plain, dynamic-plain, all-plain}
use Rattle.rdl_verdict_laws.proofs.Fields.{number_at-plain, range-plain, form_widths-plain, assigned_widths-plain, width-plain}

pub locals_fail-plain : (n : Instance) → of_locals (plain_instance n) ≡ of_locals n
locals_fail-plain n =
    ap (λ b. all_failures (failures_of (legal_on n)) (locals b)) (body-plain n) ∙ ap (all_failures (failures_of (legal_on n))) (locals-plain (body n))
    ∙ all-plain plain_assignment (failures_of (legal_on n)) (failures_of (legal_on n)) (failures-plain (legal_on n)) (locals (body n))

entry-plain : (s : Scope) (e : Entry) → of_entry (plain_scope s) (plain_entry e) ≡ of_entry s e
entry-plain s e =
    let f : Set → Assignment = λ t. record { set_ = t; scope = plain_scope s } in
    let h : Set → Assignment = λ t. record { set_ = t; scope = s } in
    ap (all_failures (failures_of legal_on_entry)) (map_to f h plain_set plain_assignment (λ t. refl) e.sets.now)
    ∙ all-plain plain_assignment (failures_of legal_on_entry) (failures_of legal_on_entry) (failures-plain legal_on_entry) (map h e.sets.now)

abbrev at_enum : Scope → ItemIs → List Fault
at_enum s (view.enumeration n es) = flat_map (of_entry s) es
at_enum s _ = []

at_enum-plain : (s : Scope) (v : ItemIs) → at_enum (plain_scope s) (plain_view v) ≡ at_enum s v
at_enum-plain s (view.enumeration n es) = flat_same (of_entry (plain_scope s)) (of_entry s) plain_entry (entry-plain s) es
at_enum-plain s (view.definition d) = refl
at_enum-plain s (view.made a of is) = refl
at_enum-plain s (view.default_ t) = refl
at_enum-plain s (view.local t) = refl
at_enum-plain s (view.dynamic p t) = refl

scope-plain : (b : Body) (before : List Item) → scope_of_enum (plain_body b) (map plain_item before) ≡ plain_scope (scope_of_enum b before)
scope-plain b before = λ i. record { node = b.node; before = map plain_item before; names = (ap (λ r. names_of r b.names.bound (map plain_item before)) (around-plain b.outer) ∙ names-plain (around b.outer) b.names.bound before) i } ∷ plain_scope b.outer

enums-plain : (b : Body) → of_enums (plain_body b) ≡ of_enums b
enums-plain b =
    let f : Body → List Item × Item → List Fault = λ b i. at_enum (scope_of_enum b i.0) (item_is i.1) in
    ap (flat_map (f (plain_body b))) (standing_under plain_item b.items)
    ∙ flat_same (f (plain_body b)) (f b) (both plain_item) (λ x. (λ i. at_enum (scope-plain b x.0 i) (item_is-plain x.1 i)) ∙ at_enum-plain (scope_of_enum b x.0) (item_is x.1)) (standing b.items)

pub body_fails-plain : (b : Nested) → of_body (plain_nested b) ≡ of_body b
body_fails-plain b = λ i.
    (ap (all_failures (failures_of anywhere)) (defaults-plain b.1) ∙ all-plain plain_assignment (failures_of anywhere) (failures_of anywhere) (failures-plain anywhere) (defaults b.1)) i
    ++ enums-plain b.1 i
    ++ (ap (all_failures (failures_of_dynamic (plain_nested b))) (dynamics-plain b.1) ∙ all-plain plain_dynamic (failures_of_dynamic (plain_nested b)) (failures_of_dynamic b) (dynamic-plain b) (dynamics b.1)) i

regwidth-plain : (n : Instance) → bad_regwidth (plain_instance n) ≡ bad_regwidth n
regwidth-plain n = λ i. not (is_one_of (8 ∷ 16 ∷ 32 ∷ 64 ∷ []) (number_at-plain n prop.Regwidth i))

accesswidth-plain : (n : Instance) → bad_accesswidth (plain_instance n) ≡ bad_accesswidth n
accesswidth-plain n = λ i. not (is_one_of (8 ∷ 16 ∷ 32 ∷ []) (number_at-plain n prop.Accesswidth i)) || nat_lt (number_at-plain n prop.Regwidth i) (number_at-plain n prop.Accesswidth i)

bad_width-plain : (n : Instance) → bad_width (plain_instance n) ≡ bad_width n
bad_width-plain n = λ i.
    width-plain n i == 0 || nat_lt 64 (width-plain n i)
    || list_any (λ (r : ℕ × ℕ). nat_lt r.0 r.1) (range-plain n i)
    || list_any (λ (f : ℕ). list_any (λ (a : ℕ). not (f == a)) (assigned_widths-plain n i)) (form_widths-plain n i)

abbrev by_kind : Instance → Bool → Bool → Bool → Kind → List Fault
by_kind n p q r kind.Reg = when p (at_ rules.P9 n.use_.name.place) ++ when q (at_ rules.P10 n.use_.name.place)
by_kind n p q r kind.Field = when r (at_ rules.P11 n.use_.name.place)
by_kind n p q r kind.Signal = when r (at_ rules.P11 n.use_.name.place)
by_kind n p q r _ = []

is_by_kind : (n : Instance) → of_node n ≡ by_kind n (bad_regwidth n) (bad_accesswidth n) (bad_width n) (kind_of n)
is_by_kind n = go (kind_of n) refl
  where
    go : (k : Kind) → kind_of n ≡ k → of_node n ≡ by_kind n (bad_regwidth n) (bad_accesswidth n) (bad_width n) (kind_of n)
    go k e = refl

pub node_fails-plain : (n : Instance) → of_node (plain_instance n) ≡ of_node n
node_fails-plain n = is_by_kind (plain_instance n) ∙ (λ i. by_kind n (regwidth-plain n i) (accesswidth-plain n i) (bad_width-plain n i) (kind_of n)) ∙ sym (is_by_kind n)

pub failures4-plain : (w : Option (List ℕ)) (s : Source) → failures4 w (plain_source s) ≡ failures4 w s
unfolding failures4
failures4-plain w s =
    let f : Instance → List Fault = λ n. of_locals n ++ of_body (n.above, body n) ++ of_node n in
    let each : (n : Instance) → f (plain_instance n) ≡ f n = λ n i. locals_fail-plain n i ++ (ap (λ b. of_body ((plain_instance n).above, b)) (body-plain n) ∙ body_fails-plain (n.above, body n)) i ++ node_fails-plain n i in
    λ i. (ap (λ b. of_body ([], b)) (root-plain s) ∙ body_fails-plain ([], root s)) i ++ (ap (flat_map f) (nodes-plain w s) ∙ flat_id f plain_instance each (nodes w s)) i
