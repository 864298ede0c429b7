-- The instances of a source at no address are those of the source, apart from addresses.
use Rattle.std.specs.Option.{option_or, option_and_then}
use Rattle.std.proofs.Common.{◌≡◌, ℕ, zero, suc, ◌&&◌, cond, refl, sym, ap, ◌∙◌, List, [], ◌∷◌, ◌++◌, map, flat_map, reverse, take, Option, Some, None, option_map, option_to_list, Ok, Err}
use Rattle.std.proofs.lemmas.Grind.{reverse_onto}
use Rattle.std.proofs.lemmas.List.{map-append, take-map}
use Rattle.plain_lemmas.proofs.Bools.{cond-map as cond_map}
use Rattle.rdl_tree.specs.declared.expr.Name.{Name}
use Rattle.rdl_tree.specs.declared.item.Def.{Def}
use Rattle.rdl_tree.specs.declared.item.Item.{Item}
use Rattle.rdl_tree.specs.declared.item.Source.{Source}
use Rattle.rdl_verdict_laws.specs.Plain.{plain_name, plain_item, plain_def, plain_source}
use Rattle.rdl_values.specs.Bodies.{Scope, Closure, around, standing, scope_at, component_of}
use Rattle.rdl_values.specs.Enums.{names_of}
use Rattle.rdl_values.specs.Instances.{Instance, kind_of, body, rows, elements, given_by, seen_in, children, signals, top_of, with_below, nodes, judged_nodes, most_nodes}
use Rattle.rdl_values.specs.Lineages.{Lineage, alone, lineages_below, lineages}
use Rattle.rdl_values.specs.NoNode.{no_node, most_names}
use Rattle.rdl_values.specs.Parameters.{Bound, bound_of}
use Rattle.rdl_values.specs.Parts.{dims_of, is_empty}
use Rattle.rdl_values.specs.Paths.{path_in}
use Rattle.rdl_values.specs.Top.{root, is_addrmap, is_wanted, top_use, top_named, top_at, top_use_of, top_seen}
use Rattle.rdl_values.specs.Uses.{Use, Seen, seen}
use Rattle.rdl_values.specs.Values.{Outcome, nearest}
use Rattle.rdl_values.specs.Views.{item_is}
use Rattle.rdl_verdict_laws.specs.PlainInstances.{plain_scope, plain_closure, plain_body, plain_use, plain_seen, plain_instance, plain_lineage}
use Rattle.rdl_verdict_laws.proofs.Lists.{map_to, flat_under, list_of, both, standing_under, or_under}
use Rattle.rdl_verdict_laws.proofs.Values.{item_is-plain}
use Rattle.rdl_verdict_laws.proofs.Bodies.{around-plain, names-plain, component_of-plain}
use Rattle.rdl_verdict_laws.proofs.Uses.{seen-plain, bound-plain, dims-plain, no_node-plain}

pub body-plain : (n : Instance) → body (plain_instance n) ≡ plain_body (body n)
body-plain n = λ i. record { node = Some n.path; kind = Some (kind_of n); items = map plain_item n.closure.def.items.now; names = (ap (λ r. names_of r n.bound (map plain_item n.closure.def.items.now)) (around-plain n.closure.scope) ∙ names-plain (around n.closure.scope) n.bound n.closure.def.items.now) i; outer = plain_scope n.closure.scope }

elements-plain : (s : Seen) (c : Closure) (b : Outcome Bound) (d : Outcome (List ℕ)) → elements (plain_seen s) (plain_closure c) b d ≡ map plain_instance (elements s c b d)
elements-plain s c (Ok bound) (Ok dims) = go (rows dims)
  where
    go : (xs : List (List ℕ)) → map (λ is. record { above = (plain_seen s).above; path = path_in s.parent (record { name = s.use_.name.text.now; index = is }); use_ = plain_use s.use_; closure = plain_closure c; bound = bound }) xs
        ≡ map plain_instance (map (λ is. record { above = s.above; path = path_in s.parent (record { name = s.use_.name.text.now; index = is }); use_ = s.use_; closure = c; bound = bound }) xs)
    go [] = refl
    go (x ∷ xs) = ap (λ ys. plain_instance (record { above = s.above; path = path_in s.parent (record { name = s.use_.name.text.now; index = x }); use_ = s.use_; closure = c; bound = bound }) ∷ ys) (go xs)
elements-plain s c (Ok bound) (Err f) = refl
elements-plain s c (Err f) d = refl

pub given-plain : (s : Seen) → given_by (plain_seen s) ≡ map plain_instance (given_by s)
given-plain s =
    let f : Closure → List Instance = λ c. elements (plain_seen s) c (bound_of (plain_use s.use_) c) (dims_of (plain_use s.use_) c.def.kind) in
    let h : Closure → List Instance = λ c. elements s c (bound_of s.use_ c) (dims_of s.use_ c.def.kind) in
    let each : (c : Closure) → f (plain_closure c) ≡ map plain_instance (h c) = λ c. (λ i. elements (plain_seen s) (plain_closure c) (bound-plain s.use_ c i) (dims-plain s.use_ c.def.kind i)) ∙ elements-plain s c (bound_of s.use_ c) (dims_of s.use_ c.def.kind) in
    (λ i. cond (is_empty (no_node-plain s i)) ((ap (flat_map f) (list_of plain_closure s.use_.closure) ∙ flat_under f h plain_closure plain_instance each (option_to_list s.use_.closure)) i) [])
    ∙ cond_map (map plain_instance) (is_empty (no_node s)) (flat_map h (option_to_list s.use_.closure)) []

pub seen_in-plain : (n : Instance) → seen_in (plain_instance n) ≡ map plain_seen (seen_in n)
seen_in-plain n = (λ i. seen (map plain_body n.above ++ (body-plain n i ∷ [])) (body-plain n i)) ∙ ap (λ a. seen a (plain_body (body n))) (sym (map-append plain_body n.above (body n ∷ []))) ∙ seen-plain (n.above ++ (body n ∷ [])) (body n)

pub children-plain : (n : Instance) → children (plain_instance n) ≡ map plain_instance (children n)
children-plain n = ap (flat_map given_by) (seen_in-plain n) ∙ flat_under given_by given_by plain_seen plain_instance given-plain (seen_in n)

pub root-plain : (s : Source) → root (plain_source s) ≡ plain_body (root s)
root-plain s = λ i. record { node = None; kind = None; items = map plain_item s.items.now; names = names-plain [] [] s.items.now i; outer = [] }

pub root_seen-plain : (s : Source) → seen [] (root (plain_source s)) ≡ map plain_seen (seen [] (root s))
root_seen-plain s = ap (seen []) (root-plain s) ∙ seen-plain [] (root s)

pub signals-plain : (s : Source) → signals (plain_source s) ≡ map plain_instance (signals s)
signals-plain s = ap (flat_map given_by) (root_seen-plain s) ∙ flat_under given_by given_by plain_seen plain_instance given-plain (seen [] (root s))

-- The top.

wanted-plain : (w : Option (List ℕ)) (n : Name) → is_wanted w (plain_name n) ≡ is_wanted w n
wanted-plain None n = refl
wanted-plain (Some w) n = refl

named-plain : (w : Option (List ℕ)) (s : Scope) (d : Def) (n : Option Name) → top_named w (plain_scope s) (plain_def d) (option_map plain_name n) ≡ option_map plain_use (top_named w s d n)
named-plain w s d None = refl
named-plain w s d (Some n) = (λ i. cond (is_addrmap d.kind && wanted-plain w n i) (Some (plain_use (top_use s d n))) None) ∙ cond_map (option_map plain_use) (is_addrmap d.kind && is_wanted w n) (Some (top_use s d n)) None

abbrev at_scope : Option (List ℕ) → Scope → Option Def → Option Use
at_scope w s d = option_and_then (λ (d : Def). top_named w s d d.name) d

at_scope-plain : (w : Option (List ℕ)) (s : Scope) (d : Option Def) → at_scope w (plain_scope s) (option_map plain_def d) ≡ option_map plain_use (at_scope w s d)
at_scope-plain w s None = refl
at_scope-plain w s (Some d) = named-plain w s d d.name

at-plain : (w : Option (List ℕ)) (s : Source) (x : List Item × Item) → top_at w (plain_source s) (both plain_item x) ≡ option_map plain_use (top_at w s x)
at-plain w s x =
    (λ i. at_scope w (scope_at (root-plain s i) (map plain_item x.0)) (component_of (item_is-plain x.1 i)))
    ∙ ap (at_scope w (plain_scope (scope_at (root s) x.0))) (component_of-plain (item_is x.1))
    ∙ at_scope-plain w (scope_at (root s) x.0) (component_of (item_is x.1))

reverse-plain : {A B : Type 0} (f : A → B) (xs : List A) → reverse (map f xs) ≡ map f (reverse xs)
reverse-plain f [] = refl
reverse-plain f (x ∷ xs) = reverse_onto (map f xs) (f x) [] ∙ ap (λ ys. ys ++ (f x ∷ [])) (reverse-plain f xs) ∙ sym (map-append f (reverse xs) (x ∷ [])) ∙ ap (map f) (sym (reverse_onto xs x []))

nearest-plain : (w : Option (List ℕ)) (s : Source) (xs : List (List Item × Item)) → nearest (top_at w (plain_source s)) (map (both plain_item) xs) ≡ option_map plain_use (nearest (top_at w s) xs)
nearest-plain w s [] = refl
nearest-plain w s (x ∷ xs) = (λ i. option_or (at-plain w s x i) (nearest-plain w s xs i)) ∙ or_under plain_use (top_at w s x) (nearest (top_at w s) xs)

pub top_use-plain : (w : Option (List ℕ)) (s : Source) → top_use_of w (plain_source s) ≡ option_map plain_use (top_use_of w s)
top_use-plain None s = ap (λ xs. nearest (top_at None (plain_source s)) (reverse xs)) (standing_under plain_item s.items.now) ∙ ap (nearest (top_at None (plain_source s))) (reverse-plain (both plain_item) (standing s.items.now)) ∙ nearest-plain None s (reverse (standing s.items.now))
top_use-plain (Some w) s = ap (nearest (top_at (Some w) (plain_source s))) (standing_under plain_item s.items.now) ∙ nearest-plain (Some w) s (standing s.items.now)

top_seen_given : (u : Use) → given_by (top_seen (plain_use u)) ≡ map plain_instance (given_by (top_seen u))
top_seen_given u = given-plain (top_seen u)

pub top-plain : (w : Option (List ℕ)) (s : Source) → top_of w (plain_source s) ≡ map plain_instance (top_of w s)
top-plain w s =
    let f : Use → List Instance = λ u. given_by (top_seen u) in
    ap (λ o. flat_map f (option_to_list o)) (top_use-plain w s) ∙ ap (flat_map f) (list_of plain_use (top_use_of w s)) ∙ flat_under f f plain_use plain_instance top_seen_given (option_to_list (top_use_of w s))

pub below-plain : (k : ℕ) (n : Instance) → with_below k (plain_instance n) ≡ map plain_instance (with_below k n)
below-plain zero n = refl
below-plain (suc k) n = ap (λ ns. plain_instance n ∷ ns) (ap (flat_map (with_below k)) (children-plain n) ∙ flat_under (with_below k) (with_below k) plain_instance plain_instance (below-plain k) (children n))

pub nodes-plain : (w : Option (List ℕ)) (s : Source) → nodes w (plain_source s) ≡ map plain_instance (nodes w s)
unfolding nodes
nodes-plain w s =
    (λ i. signals-plain s i ++ (ap (flat_map (with_below most_names)) (top-plain w s) ∙ flat_under (with_below most_names) (with_below most_names) plain_instance plain_instance (below-plain most_names) (top_of w s)) i)
    ∙ sym (map-append plain_instance (signals s) (flat_map (with_below most_names) (top_of w s)))

pub judged_nodes-plain : (w : Option (List ℕ)) (s : Source) → judged_nodes w (plain_source s) ≡ map plain_instance (judged_nodes w s)
judged_nodes-plain w s = ap (take most_nodes) (nodes-plain w s) ∙ take-map plain_instance most_nodes (nodes w s)

-- Lineages.

lineages_below-plain : (k : ℕ) (above : List Instance) (n : Instance) → lineages_below k (map plain_instance above) (plain_instance n) ≡ map plain_lineage (lineages_below k above n)
lineages_below-plain zero above n = refl
lineages_below-plain (suc k) above n =
    let f : Instance → List Lineage = lineages_below k (map plain_instance (n ∷ above)) in
    ap (λ ns. plain_lineage (record { node = n; ancestors = above }) ∷ ns) (ap (flat_map f) (children-plain n) ∙ flat_under f (lineages_below k (n ∷ above)) plain_instance plain_lineage (lineages_below-plain k (n ∷ above)) (children n))

pub lineages-plain : (w : Option (List ℕ)) (s : Source) → lineages w (plain_source s) ≡ map plain_lineage (lineages w s)
unfolding lineages
lineages-plain w s =
    let f : Instance → List Lineage = lineages_below most_names [] in
    (λ i. (ap (map alone) (signals-plain s) ∙ map_to alone alone plain_instance plain_lineage (λ n. refl) (signals s)) i ++ (ap (flat_map f) (top-plain w s) ∙ flat_under f f plain_instance plain_lineage (lineages_below-plain most_names []) (top_of w s)) i)
    ∙ sym (map-append plain_lineage (map alone (signals s)) (flat_map f (top_of w s)))
