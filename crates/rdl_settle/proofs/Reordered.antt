-- All failures of the phase, in whichever order they are put in.
use Rattle.std.proofs.Common.{◌≡◌, ◌∙◌, ℕ, List, [], ◌∷◌, ◌++◌, flat_map, Option, Some, refl, sym, ap, subst, append_assoc, append-nil}
use Rattle.rdl_base.specs.declared.fault.Fault.{Fault}
use Rattle.rdl_tree.specs.declared.item.Item.{Item}
use Rattle.rdl_tree.specs.declared.item.Source.{Source}
use Rattle.rdl_tree.specs.declared.node.Elab.{Elab}
use Rattle.rdl_values.specs.Bodies.{Body, scope_at, standing_from}
use Rattle.rdl_values.specs.Elaborated.{nodes_of, top_name}
use Rattle.rdl_values.specs.Elaboration.{IsClean}
use Rattle.rdl_values.specs.Instances.{Instance, body}
use Rattle.rdl_values.specs.Phase3.{bare_assignment, bare_assignments, failures3, no_top, too_many_nodes}
use Rattle.rdl_values.specs.Top.{root, top_use_of}
use Rattle.rdl_values.specs.Verdict.{IsListOf}
use Rattle.rdl_values.specs.Views as view
use Rattle.rdl_values.specs.Views.{ItemIs, item_is, steps_of}
use Rattle.rdl_values.proofs.Sorted.{none_fails}
use Rattle.rdl_failures.specs.Noted.{with_all}
use Rattle.rdl_failures.proofs.Sets.{collected, with_all-append, with_all-swap}
use Rattle.rdl_layers.specs.Answers.{settings_fail}
use Rattle.rdl_layers.specs.Assignments.{Dynamic, defaults, dynamic_in, dynamics}
use Rattle.rdl_layers.specs.Judged.{all_failures, anywhere, failures_of, failures_of_dynamic}
use Rattle.rdl_layers.specs.Phase4.{failures4, of_body, of_enums, of_locals, of_node}
use Rattle.rdl_open_settings.specs.Layered.{of_layers}
use Rattle.rdl_settle.specs.Gathered.{all_of, of_dynamics}

-- Two lists of failures for each of some things.

split-each : {X : Type 0} (f g : X → List Fault) (ns : List X) (list : List Fault) → with_all (flat_map (λ n. f n ++ g n) ns) list ≡ with_all (flat_map g ns) (with_all (flat_map f ns) list)
split-each f g [] list = refl
split-each f g (n ∷ ns) list =
    with_all-append (f n ++ g n) (flat_map (λ m. f m ++ g m) ns) list ∙ ap (with_all (flat_map (λ m. f m ++ g m) ns)) (with_all-append (f n) (g n) list)
    ∙ split-each f g ns (with_all (g n) (with_all (f n) list)) ∙ ap (with_all (flat_map g ns)) (with_all-swap (g n) (flat_map f ns) (with_all (f n) list))
    ∙ sym (with_all-append (g n) (flat_map g ns) (with_all (f n ++ flat_map f ns) list) ∙ ap (λ l. with_all (flat_map g ns) (with_all (g n) l)) (with_all-append (f n) (flat_map f ns) list))

same-each : {X : Type 0} (f g : X → List Fault) → ((n : X) → f n ≡ g n) → (ns : List X) → flat_map f ns ≡ flat_map g ns
same-each f g h [] = refl
same-each f g h (n ∷ ns) = ap (λ fs. fs ++ flat_map f ns) (h n) ∙ ap (λ fs. g n ++ fs) (same-each f g h ns)

-- of a node
abbrev own : Instance → List Fault
own n = of_layers (body n)

node-parts : (n : Instance) → of_locals n ++ of_body (n.above, body n) ++ of_node n ≡ (own n ++ of_dynamics n) ++ of_node n
node-parts n =
    let l = of_locals n in
    let d = all_failures (failures_of anywhere) (defaults (body n)) in
    let e = of_enums (body n) in
    ap (λ fs. fs ++ of_node n) (sym (append_assoc l (d ++ e) (of_dynamics n)) ∙ ap (λ fs. fs ++ of_dynamics n) (sym (append_assoc l d e)))

-- Nothing at the root is assigned to nodes below.

left-nil : (xs ys : List Fault) → xs ++ ys ≡ [] → xs ≡ []
left-nil [] ys e = refl
left-nil (x ∷ xs) ys e = cc

right-nil : (xs ys : List Fault) → xs ++ ys ≡ [] → ys ≡ []
right-nil [] ys e = e
right-nil (x ∷ xs) ys e = cc

bare-none : (wanted : Option (List ℕ)) (s : Source) → failures3 wanted s ≡ [] → bare_assignments s ≡ []
unfolding failures3
bare-none wanted s clean =
    right-nil (no_top (top_use_of wanted s)) (bare_assignments s) (left-nil _ _ (left-nil _ _ (left-nil _ _ (left-nil _ (too_many_nodes wanted s) clean))))

abbrev dynamic-view : Body → List Item → ItemIs → List Dynamic
dynamic-view b before (view.dynamic p s) = record { steps = steps_of p; assigns = record { set_ = s; scope = scope_at b before } } ∷ []
dynamic-view b before _ = []

one-none : (b : Body) (before : List Item) (v : ItemIs) → bare_assignment v ≡ [] → dynamic-view b before v ≡ []
one-none b before (view.dynamic p s) e = cc
one-none b before (view.local s) e = refl
one-none b before (view.default_ s) e = refl
one-none b before (view.definition d) e = refl
one-none b before (view.enumeration n es) e = refl
one-none b before (view.made a of is) e = refl

all-none : (b : Body) (before is : List Item) → flat_map (λ i. bare_assignment (item_is i)) is ≡ [] → flat_map (dynamic_in b) (standing_from before is) ≡ []
all-none b before [] e = refl
all-none b before (i ∷ is) e =
    ap (λ ds. ds ++ flat_map (dynamic_in b) (standing_from (before ++ (i ∷ [])) is)) (one-none b before (item_is i) (left-nil (bare_assignment (item_is i)) (flat_map (λ j. bare_assignment (item_is j)) is) e))
    ∙ all-none b (before ++ (i ∷ [])) is (right-nil (bare_assignment (item_is i)) (flat_map (λ j. bare_assignment (item_is j)) is) e)

root-dynamics : (e : Elab) → IsClean e → dynamics (root e.source.now) ≡ []
root-dynamics e clean = all-none (root e.source.now) [] e.source.now.items.now (bare-none (Some (top_name e)) e.source.now (none_fails (failures3 (Some (top_name e)) e.source.now) clean.elaborated.clean))

root-parts : (e : Elab) → IsClean e → of_body ([], root e.source.now) ≡ of_layers (root e.source.now)
root-parts e clean = ap (λ ds. of_layers (root e.source.now) ++ all_failures (failures_of_dynamic ([], root e.source.now)) ds) (root-dynamics e clean) ∙ append-nil (of_layers (root e.source.now))

pub reordered : (e : Elab) → IsClean e → (list : List Fault) → with_all (all_of e) list ≡ with_all (failures4 (Some (top_name e)) e.source.now) list
unfolding failures4
reordered e clean list =
    let ns = nodes_of e in
    let r = of_layers (root e.source.now) in
    let a = flat_map own ns in
    let b = flat_map of_dynamics ns in
    let c = flat_map of_node ns in
    let each = flat_map (λ n. of_locals n ++ of_body (n.above, body n) ++ of_node n) ns in
    let parts : with_all each (with_all r list) ≡ with_all c (with_all b (with_all a (with_all r list))) =
    ap (λ fs. with_all fs (with_all r list)) (same-each (λ n. of_locals n ++ of_body (n.above, body n) ++ of_node n) (λ n. (own n ++ of_dynamics n) ++ of_node n) node-parts ns)
    ∙ split-each (λ n. own n ++ of_dynamics n) of_node ns (with_all r list) ∙ ap (with_all c) (split-each own of_dynamics ns (with_all r list)) in
    let ours : with_all (all_of e) list ≡ with_all c (with_all b (with_all a (with_all r list))) =
    with_all-append (r ++ a ++ b) c list ∙ ap (with_all c) (with_all-append (r ++ a) b list) ∙ ap (λ l. with_all c (with_all b l)) (with_all-append r a list) in
    ours ∙ sym (with_all-append (of_body ([], root e.source.now)) each list ∙ ap (λ fs. with_all each (with_all fs list)) (root-parts e clean) ∙ parts)

-- The list of the phase.
pub phase_list : (e : Elab) → IsClean e → IsListOf (settings_fail e) (with_all (all_of e) [])
phase_list e clean = subst (IsListOf (settings_fail e)) (sym (reordered e clean [])) (collected (failures4 (Some (top_name e)) e.source.now))
