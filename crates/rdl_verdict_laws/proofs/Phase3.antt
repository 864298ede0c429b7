-- The failures of instances do not depend on addresses.
use Rattle.std.specs.List.{list_any}
use Rattle.std.proofs.Common.{◌≡◌, ℕ, ◌==◌, nat_lt, not, ◌&&◌, ◌||◌, refl, ap, ◌∙◌, List, [], ◌∷◌, ◌++◌, map, flat_map, drop, Option, Some, None, option_map, option_to_list}
use Rattle.std.proofs.lemmas.List.{length-map, drop-map}
use Rattle.rdl_base.specs.declared.fault.Fault.{Fault}
use Rattle.rdl_base.specs.declared.rule.Rule.TheVariants as rules
use Rattle.rdl_tree.specs.declared.expr.Name.{Name}
use Rattle.rdl_tree.specs.declared.item.Item.{Item}
use Rattle.rdl_tree.specs.declared.item.Kind.{Kind}
use Rattle.rdl_tree.specs.declared.item.Source.{Source}
use Rattle.rdl_verdict_laws.specs.Plain.{plain_name, plain_item, plain_param, plain_pair, plain_expr, plain_source}
use Rattle.rdl_values.specs.Bodies.{Closure, Body, standing, same_name}
use Rattle.rdl_values.specs.Enums.{Judged, judged, around_enum}
use Rattle.rdl_values.specs.Faults.{at_, when}
use Rattle.rdl_values.specs.Instances.{Instance, body, seen_in, nodes, judged_nodes, most_nodes}
use Rattle.rdl_values.specs.Parts.{is_unit}
use Rattle.rdl_values.specs.Phase3.{no_top, name_of, names_in, twice_defined, bare_assignment, bare_assignments, most_parameters, many_parameters, first_over, too_many_nodes, is_field, is_bad_form, bad_form, of_use, clashes, of_entries, of_enum, of_enums, of_judged, of_node, failures3}
use Rattle.rdl_values.specs.Top.{root, top_use_of, top_seen}
use Rattle.rdl_values.specs.Uses.{Use, Seen, seen}
use Rattle.rdl_values.specs.Values.{Around}
use Rattle.rdl_values.specs.Views as view
use Rattle.rdl_values.specs.Views.{ItemIs, item_is}
use Rattle.rdl_verdict_laws.specs.PlainInstances.{plain_view, plain_closure, plain_body, plain_use, plain_seen, plain_instance}
use Rattle.rdl_verdict_laws.proofs.Lists.{flat_id, flat_under, flat_same, any_same, list_of, both, standing_under}
use Rattle.rdl_verdict_laws.proofs.Values.{item_is-plain}
use Rattle.rdl_verdict_laws.proofs.Bodies.{plain_numbered, plain_judged, judged-plain, around_enum-plain}
use Rattle.rdl_verdict_laws.proofs.Uses.{empty-plain, some-plain, no_node-plain}
use Rattle.rdl_verdict_laws.proofs.Instances.{body-plain, seen_in-plain, root-plain, root_seen-plain, top_use-plain, nodes-plain, judged_nodes-plain}

no_top-plain : (u : Option Use) → no_top (option_map plain_use u) ≡ no_top u
no_top-plain None = refl
no_top-plain (Some u) = refl

name_of-plain : (v : ItemIs) → name_of (plain_view v) ≡ option_map plain_name (name_of v)
name_of-plain (view.definition d) = refl
name_of-plain (view.enumeration n es) = refl
name_of-plain (view.made a of is) = refl
name_of-plain (view.default_ s) = refl
name_of-plain (view.local s) = refl
name_of-plain (view.dynamic p s) = refl

names_in-plain : (is : List Item) → names_in (map plain_item is) ≡ map plain_name (names_in is)
names_in-plain is =
    let f : Item → List Name = λ i. option_to_list (name_of (item_is i)) in
    flat_under f f plain_item plain_name (λ i. ap (λ v. option_to_list (name_of v)) (item_is-plain i) ∙ ap option_to_list (name_of-plain (item_is i)) ∙ list_of plain_name (name_of (item_is i))) is

twice-plain : (b : Body) → twice_defined (plain_body b) ≡ twice_defined b
twice-plain b =
    let f : List Name × Name → List Fault = λ n. when (list_any (same_name n.1) n.0) (at_ rules.E2 n.1.place) in
    ap (λ ns. flat_map f (standing ns)) (names_in-plain b.items) ∙ ap (flat_map f) (standing_under plain_name (names_in b.items))
    ∙ flat_id f (both plain_name) (λ n. ap (λ t. when t (at_ rules.E2 n.1.place)) (any_same (same_name (plain_name n.1)) (same_name n.1) plain_name (λ m. refl) n.0)) (standing (names_in b.items))

bare-plain : (v : ItemIs) → bare_assignment (plain_view v) ≡ bare_assignment v
bare-plain (view.definition d) = refl
bare-plain (view.enumeration n es) = refl
bare-plain (view.made a of is) = refl
bare-plain (view.default_ s) = refl
bare-plain (view.local s) = refl
bare-plain (view.dynamic p s) = refl

bare_all-plain : (s : Source) → bare_assignments (plain_source s) ≡ bare_assignments s
bare_all-plain s = flat_id (λ (i : Item). bare_assignment (item_is i)) plain_item (λ i. ap bare_assignment (item_is-plain i) ∙ bare-plain (item_is i)) s.items.now

first_over-plain : (ns : List Instance) → first_over (map plain_instance ns) ≡ first_over ns
first_over-plain [] = refl
first_over-plain (n ∷ ns) = refl

over-plain : (w : Option (List ℕ)) (s : Source) → too_many_nodes w (plain_source s) ≡ too_many_nodes w s
over-plain w s = ap (λ ns. first_over (drop most_nodes ns)) (nodes-plain w s) ∙ ap first_over (drop-map plain_instance most_nodes (nodes w s)) ∙ first_over-plain (drop most_nodes (nodes w s))

form-plain : (u : Use) (k : Kind) → is_bad_form (plain_use u) k ≡ is_bad_form u k
form-plain u k = λ i.
    (not (is_field k) && (some-plain plain_pair u.form.range i || some-plain plain_expr u.form.reset i))
    || (is_unit k && (some-plain plain_expr u.form.at i || some-plain plain_expr u.form.stride i || some-plain plain_expr u.form.align i))
    || (some-plain plain_expr u.form.at i && some-plain plain_expr u.form.align i)
    || (some-plain plain_expr u.form.stride i && empty-plain plain_expr u.dims i)

use-plain : (s : Seen) → of_use (plain_seen s) ≡ of_use s
use-plain s =
    let f : Use → Closure → List Fault = λ u c. many_parameters c ++ bad_form u c.def.kind in
    let each : (c : Closure) → f (plain_use s.use_) (plain_closure c) ≡ f s.use_ c = λ c i.
    when (nat_lt most_parameters (length-map c.def.params.now plain_param i)) (at_ rules.E7 c.def.place) ++ when (form-plain s.use_ c.def.kind i) (at_ rules.E12 s.use_.name.place) in
    λ i. no_node-plain s i ++ (ap (flat_map (f (plain_use s.use_))) (list_of plain_closure s.use_.closure) ∙ flat_same (f (plain_use s.use_)) (f s.use_) plain_closure each (option_to_list s.use_.closure)) i

entries-plain : (j : Judged) → of_entries (plain_judged j) ≡ of_entries j
entries-plain j =
    let f : List (Name × ℕ) × (Name × ℕ) → List Fault = λ e. when (clashes e.0 e.1) (at_ rules.E14 e.1.0.place) in
    ap (λ fs. option_to_list j.failure ++ fs) (ap (flat_map f) (standing_under plain_numbered j.entries)
    ∙ flat_id f (both plain_numbered) (λ e. ap (λ t. when t (at_ rules.E14 e.1.0.place)) (any_same (λ (g : Name × ℕ). same_name g.0 (plain_name e.1.0) || g.1 == e.1.1) (λ g. same_name g.0 e.1.0 || g.1 == e.1.1) plain_numbered (λ g. refl) e.0)) (standing j.entries))

enum-plain : (r : Around) (v : ItemIs) → of_enum r (plain_view v) ≡ of_enum r v
enum-plain r (view.enumeration n es) = ap of_entries (judged-plain r es) ∙ entries-plain (judged r es)
enum-plain r (view.definition d) = refl
enum-plain r (view.made a of is) = refl
enum-plain r (view.default_ s) = refl
enum-plain r (view.local s) = refl
enum-plain r (view.dynamic p s) = refl

enums-plain : (b : Body) → of_enums (plain_body b) ≡ of_enums b
enums-plain b =
    let f : Body → List Item × Item → List Fault = λ b i. of_enum (around_enum b i.0) (item_is i.1) in
    ap (flat_map (f (plain_body b))) (standing_under plain_item b.items)
    ∙ flat_same (f (plain_body b)) (f b) (both plain_item) (λ x. (λ i. of_enum (around_enum-plain b x.0 i) (item_is-plain x.1 i)) ∙ enum-plain (around_enum b x.0) (item_is x.1)) (standing b.items)

judged_body-plain : (us : List Seen) (b : Body) → of_judged (map plain_seen us) (plain_body b) ≡ of_judged us b
judged_body-plain us b = λ i. twice-plain b i ++ enums-plain b i ++ flat_id of_use plain_seen use-plain us i

node-plain : (n : Instance) → of_node (plain_instance n) ≡ of_node n
node-plain n = (λ i. of_judged (seen_in-plain n i) (body-plain n i)) ∙ judged_body-plain (seen_in n) (body n)

top_seen-plain : (o : Option Use) → flat_map of_use (map top_seen (option_to_list (option_map plain_use o))) ≡ flat_map of_use (map top_seen (option_to_list o))
top_seen-plain None = refl
top_seen-plain (Some u) = ap (λ fs. fs ++ []) (use-plain (top_seen u))

pub failures3-plain : (w : Option (List ℕ)) (s : Source) → failures3 w (plain_source s) ≡ failures3 w s
unfolding failures3
failures3-plain w s = λ i.
    (ap no_top (top_use-plain w s) ∙ no_top-plain (top_use_of w s)) i
    ++ bare_all-plain s i
    ++ (ap (λ o. flat_map of_use (map top_seen (option_to_list o))) (top_use-plain w s) ∙ top_seen-plain (top_use_of w s)) i
    ++ ((λ j. of_judged (root_seen-plain s j) (root-plain s j)) ∙ judged_body-plain (seen [] (root s)) (root s)) i
    ++ (ap (flat_map of_node) (judged_nodes-plain w s) ∙ flat_id of_node plain_instance node-plain (judged_nodes w s)) i
    ++ over-plain w s i
