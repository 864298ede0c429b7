-- References lead to the same nodes, apart from addresses.
use Rattle.std.specs.List.{list_any, position_or_len}
use Rattle.std.proofs.Common.{◌≡◌, ℕ, ◌+◌, Bool, not, ◌&&◌, ◌||◌, cond, refl, sym, ap, ◌∙◌, List, [], ◌∷◌, ◌++◌, map, flat_map, filter, Option, Some, None, option_map}
use Rattle.std.proofs.lemmas.List.{map-append, take-map}
use Rattle.plain_lemmas.proofs.Bools.{cond-map as cond_map}
use Rattle.rdl_base.specs.declared.fault.Fault.{Fault}
use Rattle.rdl_base.specs.declared.rule.Rule.TheVariants as rules
use Rattle.rdl_tree.specs.declared.expr.Name.{Name}
use Rattle.rdl_tree.specs.declared.expr.Path.{Path}
use Rattle.rdl_tree.specs.declared.expr.Step.{Step}
use Rattle.rdl_tree.specs.declared.item.Kind.{Kind}
use Rattle.rdl_tree.specs.declared.item.Kind.TheVariants as kind
use Rattle.rdl_tree.specs.declared.item.Source.{Source}
use Rattle.rdl_verdict_laws.specs.Plain.{plain_name, plain_path, plain_step, plain_source}
use Rattle.rdl_props.specs.declared.prop.Prop.{Prop}
use Rattle.rdl_props.specs.declared.prop.Prop.TheVariants as prop
use Rattle.rdl_props.specs.Table.{reference_props}
use Rattle.rdl_values.specs.Bodies.{Scope, Layer, around, same_name}
use Rattle.rdl_values.specs.Bodies as bodies
use Rattle.rdl_values.specs.Faults.{at_, when}
use Rattle.rdl_values.specs.Instances.{Instance, kind_of, children, nodes, is_empty}
use Rattle.rdl_values.specs.Lineages.{Lineage, child_of, children_in, lineages, nodes_in}
use Rattle.rdl_values.specs.Values.{Around}
use Rattle.rdl_values.specs.Views.{steps_of}
use Rattle.rdl_verdict_laws.specs.PlainInstances.{plain_layer, plain_scope, plain_instance, plain_lineage}
use Rattle.rdl_verdict_laws.proofs.Lists.{map_to, flat_under, flat_same, filter_under, any_same}
use Rattle.rdl_verdict_laws.proofs.Values.{steps-plain}
use Rattle.rdl_verdict_laws.proofs.Bodies.{around-plain}
use Rattle.rdl_verdict_laws.proofs.Uses.{empty-plain}
use Rattle.rdl_verdict_laws.proofs.Instances.{children-plain, nodes-plain, lineages-plain}
use Rattle.rdl_layers.specs.Assignments.{same_path, is_step_exactly, led_down}
use Rattle.rdl_layers.specs.Fields.{is_a, fields_of, is_alias, views, is_wire, is_counter, is_interrupt, has_one_of}
use Rattle.rdl_layers.specs.Forms.{Meaning, unset, flag, number, text, named, intr, hard, enum_of, reference}
use Rattle.rdl_layers.specs.Settings.{setting}
use Rattle.rdl_verdict_laws.specs.PlainSettings.{plain_meaning}
use Rattle.rdl_verdict_laws.proofs.Assignments.{exactly-plain, led-plain}
use Rattle.rdl_verdict_laws.proofs.Settings.{setting-plain}
use Rattle.rdl_verdict_laws.proofs.Fields.{fields-plain, has-plain, one_of-plain, alias-plain, views-plain, wire-plain}
use Rattle.rdl_refs.specs.declared.item.What.{What}
use Rattle.rdl_refs.specs.declared.item.What.TheVariants as what
use Rattle.rdl_refs.specs.Follows.{given_items, value_in, parent, is_missing, is_in_alias, wire_items, counts, masked_items, made_from, refers_to, is_item, item_number, edges_of}
use Rattle.rdl_refs.specs.Items.{Item, item_of, whats, items_of, items, what_named, item_named, target, is_wanted, bad_reference, failures_r}
use Rattle.rdl_refs.specs.Leads.{is_at_root, members_of, has_name_of, has_first, nearest_with, led_in, led_to}
use Rattle.rdl_verdict_laws.specs.PlainItems.{plain_item}

-- Nodes.

pub children_in-plain : (n : Lineage) → children_in (plain_lineage n) ≡ map plain_lineage (children_in n)
children_in-plain n = ap (map (child_of (plain_lineage n))) (children-plain n.node) ∙ map_to (child_of (plain_lineage n)) (child_of n) plain_instance plain_lineage (λ c. refl) (children n.node)

pub nodes_in-plain : (all : List Lineage) → nodes_in (map plain_lineage all) ≡ map plain_instance (nodes_in all)
nodes_in-plain all = map_to (λ (n : Lineage). n.node) (λ (n : Lineage). n.node) plain_lineage plain_instance (λ n. refl) all

members-plain : (all : List Lineage) (p : Option bodies.Path) → members_of (map plain_lineage all) p ≡ map plain_lineage (members_of all p)
members-plain all None = filter_under (λ (n : Lineage). is_at_root n.node.path) (λ (n : Lineage). is_at_root n.node.path) plain_lineage (λ n. refl) all
members-plain all (Some p) =
    ap (flat_map children_in) (filter_under (λ (n : Lineage). same_path n.node.path p) (λ (n : Lineage). same_path n.node.path p) plain_lineage (λ n. refl) all)
    ∙ flat_under children_in children_in plain_lineage plain_lineage children_in-plain (filter (λ (n : Lineage). same_path n.node.path p) all)

name-plain : (ts : List Step) (n : Lineage) → has_name_of (map plain_step ts) (plain_lineage n) ≡ has_name_of ts n
name-plain [] n = refl
name-plain (t ∷ ts) n = refl

first-plain : (all : List Lineage) (ts : List Step) (l : Layer) → has_first (map plain_lineage all) (map plain_step ts) (plain_layer l) ≡ has_first all ts l
first-plain all ts l = ap (list_any (has_name_of (map plain_step ts))) (members-plain all l.node) ∙ any_same (has_name_of (map plain_step ts)) (has_name_of ts) plain_lineage (name-plain ts) (members_of all l.node)

nearest-plain : (all : List Lineage) (ts : List Step) (s : Scope) → nearest_with (map plain_lineage all) (map plain_step ts) (plain_scope s) ≡ option_map plain_layer (nearest_with all ts s)
nearest-plain all ts [] = refl
nearest-plain all ts (l ∷ outer) = (λ i. cond (first-plain all ts l i) (Some (plain_layer l)) (nearest-plain all ts outer i)) ∙ cond_map (option_map plain_layer) (has_first all ts l) (Some l) (nearest_with all ts outer)

led_in-plain : (all : List Lineage) (ts : List Step) (s : Scope) (l : Option Layer) → led_in (map plain_lineage all) (map plain_step ts) (plain_scope s) (option_map plain_layer l) ≡ map plain_lineage (led_in all ts s l)
led_in-plain all ts s None = refl
led_in-plain all ts s (Some l) =
    let f : Around → Step → Lineage → Bool = λ r t n. is_step_exactly r t n.node in
    (λ i. led_down children_in (f (around-plain s i)) (members-plain all l.node i) (map plain_step ts))
    ∙ led-plain plain_lineage children_in children_in-plain (f (around s)) (f (around s)) (λ t n. exactly-plain (around s) t n.node) (members_of all l.node) ts

pub led_to-plain : (all : List Lineage) (p : Path) (s : Scope) → led_to (map plain_lineage all) (plain_path p) (plain_scope s) ≡ map plain_lineage (led_to all p s)
unfolding led_to
led_to-plain all p s =
    (λ i. led_in (map plain_lineage all) (steps-plain p i) (plain_scope s) (nearest_with (map plain_lineage all) (steps-plain p i) (plain_scope s)))
    ∙ ap (led_in (map plain_lineage all) (map plain_step (steps_of p)) (plain_scope s)) (nearest-plain all (steps_of p) s)
    ∙ led_in-plain all (steps_of p) s (nearest_with all (steps_of p) s)

-- Items.

items_of-plain : (n : Lineage) → items_of (plain_lineage n) ≡ map plain_item (items_of n)
items_of-plain n = go (whats (kind_of n.node))
  where
    go : (ws : List What) → map (item_of (plain_lineage n)) ws ≡ map plain_item (map (item_of n) ws)
    go [] = refl
    go (w ∷ ws) = ap (λ is. plain_item (item_of n w) ∷ is) (go ws)

pub items-plain : (all : List Lineage) → items (map plain_lineage all) ≡ map plain_item (items all)
unfolding items
items-plain all = flat_under items_of items_of plain_lineage plain_item items_of-plain all

what-plain : (k : Kind) (n : Option Name) → what_named k (option_map plain_name n) ≡ what_named k n
what-plain kind.Signal None = refl
what-plain kind.Signal (Some n) = refl
what-plain kind.Field None = refl
what-plain kind.Field (Some n) = refl
what-plain kind.Reg None = refl
what-plain kind.Reg (Some n) = refl
what-plain kind.Addrmap n = refl
what-plain kind.Regfile n = refl

named-plain : (item : Option Name) (n : Lineage) → item_named (option_map plain_name item) (plain_lineage n) ≡ map plain_item (item_named item n)
named-plain item n = ap (map (item_of (plain_lineage n))) (what-plain (kind_of n.node) item) ∙ go (what_named (kind_of n.node) item)
  where
    go : (ws : List What) → map (item_of (plain_lineage n)) ws ≡ map plain_item (map (item_of n) ws)
    go [] = refl
    go (w ∷ ws) = ap (λ is. plain_item (item_of n w) ∷ is) (go ws)

pub target-plain : (all : List Lineage) (m : Meaning) → target (map plain_lineage all) (plain_meaning m) ≡ map plain_item (target all m)
target-plain all (reference p item s q) = ap (flat_map (item_named (option_map plain_name item))) (led_to-plain all p s) ∙ flat_under (item_named (option_map plain_name item)) (item_named item) plain_lineage plain_item (named-plain item) (led_to all p s)
target-plain all (enum_of n s) = refl
target-plain all unset = refl
target-plain all (flag b) = refl
target-plain all (number n) = refl
target-plain all (text s) = refl
target-plain all (named w) = refl
target-plain all (intr e) = refl
target-plain all (hard b) = refl

pub bad-plain : (all : List Lineage) (p : Prop) (m : Meaning) → bad_reference (map plain_lineage all) p (plain_meaning m) ≡ bad_reference all p m
bad-plain all p (reference path item s q) =
    let none = ap is_empty (led_to-plain all path s) ∙ empty-plain plain_lineage (led_to all path s) in
    let wanted = ap (list_any (is_wanted p)) (target-plain all (reference path item s q)) ∙ any_same (is_wanted p) (is_wanted p) plain_item (λ i. refl) (target all (reference path item s q)) in
    λ i. when (none i) (at_ rules.R1 q) ++ when (not (none i) && not (wanted i)) (at_ rules.R2 q)
bad-plain all p (enum_of n s) = refl
bad-plain all p unset = refl
bad-plain all p (flag b) = refl
bad-plain all p (number n) = refl
bad-plain all p (text s) = refl
bad-plain all p (named w) = refl
bad-plain all p (intr e) = refl
bad-plain all p (hard b) = refl

bad_all-plain : (all : List Lineage) (n : Instance) (ps : List Prop) → flat_map (λ p. bad_reference (map plain_lineage all) p (setting (plain_instance n) p)) ps ≡ flat_map (λ p. bad_reference all p (setting n p)) ps
bad_all-plain all n [] = refl
bad_all-plain all n (p ∷ ps) = λ i. (ap (bad_reference (map plain_lineage all) p) (setting-plain n p) ∙ bad-plain all p (setting n p)) i ++ bad_all-plain all n ps i

pub failures_r-plain : (w : Option (List ℕ)) (s : Source) → failures_r w (plain_source s) ≡ failures_r w s
unfolding failures_r
failures_r-plain w s =
    let f : List Lineage → Instance → List Fault = λ all n. flat_map (λ p. bad_reference all p (setting n p)) reference_props in
    (λ i. flat_map (f (lineages-plain w s i)) (nodes-plain w s i)) ∙ flat_same (f (map plain_lineage (lineages w s))) (f (lineages w s)) plain_instance (λ n. bad_all-plain (lineages w s) n reference_props) (nodes w s)

-- What refers to what.

pub given-plain : (all : List Lineage) (n : Instance) (ps : List Prop) → given_items (map plain_lineage all) (plain_instance n) ps ≡ map plain_item (given_items all n ps)
given-plain all n [] = refl
given-plain all n (p ∷ ps) = (λ i. (ap (target (map plain_lineage all)) (setting-plain n p) ∙ target-plain all (setting n p)) i ++ given-plain all n ps i) ∙ sym (map-append plain_item (target all (setting n p)) (given_items all n ps))

parent-plain : (i : Item) → parent (plain_item i) ≡ map plain_instance (parent i)
parent-plain i = take-map plain_instance 1 i.ancestors

any_field-plain : (p : Instance → Bool) → ((n : Instance) → p (plain_instance n) ≡ p n) → (r : Instance) → list_any p (fields_of (plain_instance r)) ≡ list_any p (fields_of r)
any_field-plain p h r = ap (list_any p) (fields-plain r) ∙ any_same p p plain_instance h (fields_of r)

counter-plain : (n : Instance) → is_counter (plain_instance n) ≡ is_counter n
counter-plain n = has-plain prop.Counter n

interrupt-plain : (n : Instance) → is_interrupt (plain_instance n) ≡ is_interrupt n
interrupt-plain n = has-plain prop.Intr n

missing_of : (n : Instance) (as' : List Instance) (w : What) → is_missing (plain_item (record { node = n; ancestors = as'; what = w })) ≡ is_missing (record { node = n; ancestors = as'; what = w })
missing_of n as' what.IncrThreshold = ap not (counter-plain n)
missing_of n as' what.DecrThreshold = ap not (counter-plain n)
missing_of n as' what.Overflow = ap not (counter-plain n)
missing_of n as' what.Underflow = ap not (counter-plain n)
missing_of n as' what.Intr = ap not (any_field-plain is_interrupt interrupt-plain n)
missing_of n as' what.Halt = ap not (any_field-plain (has_one_of (prop.Haltenable ∷ prop.Haltmask ∷ [])) (one_of-plain (prop.Haltenable ∷ prop.Haltmask ∷ [])) n)
missing_of n as' _ = refl

pub missing-plain : (i : Item) → is_missing (plain_item i) ≡ is_missing i
missing-plain i = missing_of i.node i.ancestors i.what

pub in_alias-plain : (i : Item) → is_in_alias (plain_item i) ≡ is_in_alias i
in_alias-plain i = λ j. alias-plain i.node j || (is_a kind.Field i.node && (ap (list_any is_alias) (parent-plain i) ∙ any_same is_alias is_alias plain_instance alias-plain (parent i)) j)

wires-plain : (all : List Lineage) (i : Item) → wire_items (map plain_lineage all) (plain_item i) ≡ map plain_item (wire_items all i)
wires-plain all i =
    let f : Instance → List Item = λ r. cond (is_wire (views (nodes_in (map plain_lineage all)) r (plain_instance i.node)) (plain_instance i.node)) (given_items (map plain_lineage all) (plain_instance i.node) (prop.Next ∷ [])) [] in
    let h : Instance → List Item = λ r. cond (is_wire (views (nodes_in all) r i.node) i.node) (given_items all i.node (prop.Next ∷ [])) [] in
    let each : (r : Instance) → f (plain_instance r) ≡ map plain_item (h r) = λ r.
    (λ j. cond ((ap (λ ns. is_wire (views ns (plain_instance r) (plain_instance i.node)) (plain_instance i.node)) (nodes_in-plain all) ∙ ap (λ vs. is_wire vs (plain_instance i.node)) (views-plain (nodes_in all) r i.node) ∙ wire-plain (views (nodes_in all) r i.node) i.node) j) (given-plain all i.node (prop.Next ∷ []) j) [])
    ∙ cond_map (map plain_item) (is_wire (views (nodes_in all) r i.node) i.node) (given_items all i.node (prop.Next ∷ [])) [] in
    ap (flat_map f) (parent-plain i) ∙ flat_under f h plain_instance plain_item each (parent i)

masked-plain : (all : List Lineage) (ps : List Prop) (i : Item) (f : Instance) → masked_items (map plain_lineage all) ps (plain_item i) (plain_instance f) ≡ map plain_item (masked_items all ps i f)
masked-plain all ps i f = ap (λ xs. plain_item (value_in i f) ∷ xs) (given-plain all f ps)

fields_masked-plain : (all : List Lineage) (ps : List Prop) (i : Item) (p : Instance → Bool) → ((n : Instance) → p (plain_instance n) ≡ p n)
    → flat_map (masked_items (map plain_lineage all) ps (plain_item i)) (filter p (fields_of (plain_instance i.node))) ≡ map plain_item (flat_map (masked_items all ps i) (filter p (fields_of i.node)))
fields_masked-plain all ps i p h =
    ap (λ fs. flat_map (masked_items (map plain_lineage all) ps (plain_item i)) (filter p fs)) (fields-plain i.node)
    ∙ ap (flat_map (masked_items (map plain_lineage all) ps (plain_item i))) (filter_under p p plain_instance h (fields_of i.node))
    ∙ flat_under (masked_items (map plain_lineage all) ps (plain_item i)) (masked_items all ps i) plain_instance plain_item (masked-plain all ps i) (filter p (fields_of i.node))

made_of : (all : List Lineage) (n : Instance) (as' : List Instance) (w : What) → made_from (map plain_lineage all) (plain_item (record { node = n; ancestors = as'; what = w })) ≡ map plain_item (made_from all (record { node = n; ancestors = as'; what = w }))
made_of all n as' what.Value =
    let i : Item = record { node = n; ancestors = as'; what = what.Value } in
    ap (λ xs. cond (is_a kind.Field n) xs []) (wires-plain all i) ∙ cond_map (map plain_item) (is_a kind.Field n) (wire_items all i) []
made_of all n as' what.Anded = refl
made_of all n as' what.Ored = refl
made_of all n as' what.Xored = refl
made_of all n as' what.IncrThreshold = ap (λ xs. plain_item (record { node = n; ancestors = as'; what = what.Value }) ∷ xs) (given-plain all n (prop.Incrthreshold ∷ []))
made_of all n as' what.DecrThreshold = ap (λ xs. plain_item (record { node = n; ancestors = as'; what = what.Value }) ∷ xs) (given-plain all n (prop.Decrthreshold ∷ []))
made_of all n as' what.Overflow = given-plain all n counts
made_of all n as' what.Underflow = given-plain all n counts
made_of all n as' what.SwMod = refl
made_of all n as' what.SwAcc = refl
made_of all n as' what.Intr = fields_masked-plain all (prop.Enable ∷ prop.Mask ∷ []) (record { node = n; ancestors = as'; what = what.Intr }) is_interrupt interrupt-plain
made_of all n as' what.Halt = fields_masked-plain all (prop.Haltenable ∷ prop.Haltmask ∷ []) (record { node = n; ancestors = as'; what = what.Halt }) (has_one_of (prop.Haltenable ∷ prop.Haltmask ∷ [])) (one_of-plain (prop.Haltenable ∷ prop.Haltmask ∷ []))

refers-plain : (all : List Lineage) (i : Item) → refers_to (map plain_lineage all) (plain_item i) ≡ map plain_item (refers_to all i)
refers-plain all i = (λ j. cond (missing-plain i j || in_alias-plain i j) [] (made_of all i.node i.ancestors i.what j)) ∙ cond_map (map plain_item) (is_missing i || is_in_alias i) [] (made_from all i)

position-plain : (i : Item) (xs : List Item) → position_or_len (is_item (plain_item i)) (map plain_item xs) ≡ position_or_len (is_item i) xs
position-plain i [] = refl
position-plain i (x ∷ xs) = ap (λ k. cond (not (is_item i x)) (1 + k) 0) (position-plain i xs)

pub number-plain : (all : List Lineage) (i : Item) → item_number (map plain_lineage all) (plain_item i) ≡ item_number all i
number-plain all i = ap (position_or_len (is_item (plain_item i))) (items-plain all) ∙ position-plain i (items all)

pub edges-plain : (all : List Lineage) → edges_of (map plain_lineage all) ≡ edges_of all
unfolding edges_of
edges-plain all =
    let f : Item → List ℕ = λ i. map (item_number (map plain_lineage all)) (refers_to (map plain_lineage all) i) in
    let h : Item → List ℕ = λ i. map (item_number all) (refers_to all i) in
    ap (map f) (items-plain all) ∙ go f h (λ i. ap (map (item_number (map plain_lineage all))) (refers-plain all i) ∙ numbers (refers_to all i)) (items all)
  where
    go : (f h : Item → List ℕ) → ((i : Item) → f (plain_item i) ≡ h i) → (xs : List Item) → map f (map plain_item xs) ≡ map h xs
    go f h e [] = refl
    go f h e (x ∷ xs) = λ i. e x i ∷ go f h e xs i

    numbers : (xs : List Item) → map (item_number (map plain_lineage all)) (map plain_item xs) ≡ map (item_number all) xs
    numbers [] = refl
    numbers (x ∷ xs) = λ i. number-plain all x i ∷ numbers xs i

pub edges_wanted-plain : (w : Option (List ℕ)) (s : Source) → edges_of (lineages w (plain_source s)) ≡ edges_of (lineages w s)
edges_wanted-plain w s = ap edges_of (lineages-plain w s) ∙ edges-plain (lineages w s)
