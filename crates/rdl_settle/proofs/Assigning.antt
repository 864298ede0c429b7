-- What the bodies of nodes assign, one after the other.
use Rattle.std.proofs.Common.{◌≡◌, ◌∙◌, ℕ, zero, suc, ◌+◌, ◌<◌, ◌≤◌, List, [], ◌∷◌, ◌++◌, flat_map, get_or, length, map, take, None, Some, Vec, option_map, slice_get, add-one, refl, sym, ap, subst, arith, append-nil}
use Rattle.std.specs.Global.{Global}
use Rattle.std.specs.List.{AllByRecursion}
use Rattle.std.proofs.lemmas.Grind.{flat_map-append}
use Rattle.std.proofs.lemmas.List.{length-map, map-append, take_all}
use Rattle.std.proofs.lemmas.Option.{slice_get-map}
use Rattle.rdl_base.specs.declared.fault.Fault.{Fault}
use Rattle.rdl_tree.specs.declared.node.Elab.{Elab}
use Rattle.rdl_tree.specs.declared.node.Node.{Node, out-Node}
use Rattle.rdl_values.specs.Bodies.{standing}
use Rattle.rdl_values.specs.Elaborated.{Says, nodes_of, top_name}
use Rattle.rdl_values.specs.Elaboration.{IsClean}
use Rattle.rdl_values.specs.Instances.{Instance}
use Rattle.rdl_values.specs.Lineages.{Lineage, lineages_of}
use Rattle.rdl_values.proofs.Numbered.{counted}
use Rattle.rdl_nodes.proofs.Lineages.{all_nodes}
use Rattle.rdl_nodes.specs.Rows.{AreRows, AreRowsFrom, IsRow}
use Rattle.rdl_nodes.specs.declared.table.Row.{Row}
use Rattle.rdl_failures.specs.Noted.{with_all}
use Rattle.rdl_failures.proofs.Sets.{with_all-append}
use Rattle.rdl_layers.specs.Settings.{from_above}
use Rattle.rdl_layers.specs.Tables.{entries_at}
use Rattle.rdl_layers.specs.declared.props.PropSetting.{PropSetting}
use Rattle.rdl_layers.specs.Nested.{nested}
use Rattle.rdl_merge.specs.Merged.{AreEntries}
use Rattle.rdl_bodies.specs.declared.bodies.Bodies.{Bodies}
use Rattle.rdl_values.specs.Bodies as values
use Rattle.rdl_bodies.specs.Sited.{IsOpenAs}
use Rattle.rdl_bodies.specs.declared.bodies.Body.{Body}
use Rattle.rdl_open_bodies.specs.Spots.{AreSpots, IsOpenAt, IsOpenTree, IsSpot}
use Rattle.rdl_open_bodies.specs.declared.spots.OpenTree.{OpenTree}
use Rattle.rdl_open_bodies.specs.declared.spots.Spot.{Spot}
use Rattle.rdl_open_settings.specs.Layered.{AreLayers, AreLayersOf, HasLayers, layers_at}
use Rattle.rdl_open_settings.specs.declared.layers.Layers.{Layers}
use Rattle.rdl_open_settings.specs.declared.table.LayerTable.{LayerTable}
use Rattle.rdl_dynamic.specs.Written.{AreWritten}
use Rattle.rdl_targets.specs.At.{IsAt}
use Rattle.rdl_settle.specs.Gathered.{AreAssigned, IsAssigned, of_dynamics}

-- A row with its node and its place among the open bodies.
pub record IsRowAt (e : Elab) (t : Bodies) (os : List Spot) (i : ℕ) (x : Row) : Type 0 where
  pub n : Instance
  pub number : (out-Node x.node.now).id ≡ i
  pub there : IsAt (lineages_of e) i n
  pub node_there : slice_get (nodes_of e) i ≡ Some n
  pub beside : List Node
  pub says : Says beside x.node.now n
  pub o : Spot
  pub listed : slice_get os i ≡ Some o
  pub spot : IsSpot e t o n
  pub more : take (suc i) (nodes_of e) ≡ take i (nodes_of e) ++ (n ∷ [])

record Found (e : Elab) (all : List Lineage) (k : ℕ) (x : Row) (ls : List Lineage) (i : ℕ) : Type 0 where
  l : Lineage
  here : slice_get ls i ≡ Some l
  row : IsRow e all k x l

find-row : (e : Elab) (all : List Lineage) (at : ℕ) (xs : List Row) (ls : List Lineage) (i : ℕ) (d : Row) → i < length xs → AreRowsFrom e all at xs ls → Found e all (at + i) (get_or xs i d) ls i
find-row e all at [] ls i d l h = absurd (omega (arith, l))
find-row e all at (x ∷ xs) [] i d l h = absurd h
find-row e all at (x ∷ xs) (m ∷ ls) zero d l h = record { l = m; here = refl; row = (let z : at ≡ at + 0 = omega arith in subst (λ k. IsRow e all k x m) z h.0) }
find-row e all at (x ∷ xs) (m ∷ ls) (suc i) d l h =
    let rec = find-row e all (suc at) xs ls i d (omega (arith, l)) h.1 in
    let z : suc at + i ≡ at + suc i = omega arith in
    record { l = rec.l; here = rec.here; row = subst (λ k. IsRow e all k (get_or xs i d) rec.l) z rec.row }

record SpotFound (e : Elab) (t : Bodies) (os : List Spot) (ns : List Instance) (i : ℕ) (n : Instance) : Type 0 where
  o : Spot
  listed : slice_get os i ≡ Some o
  spot : IsSpot e t o n
  more : take (suc i) ns ≡ take i ns ++ (n ∷ [])

find-spot : (e : Elab) (t : Bodies) (os : List Spot) (ns : List Instance) (i : ℕ) (n : Instance) → AreSpots e t os ns → slice_get ns i ≡ Some n → SpotFound e t os ns i n
find-spot e t [] [] i n h at = cc
find-spot e t [] (m ∷ ns) i n h at = absurd h
find-spot e t (o ∷ os) [] i n h at = absurd h
find-spot e t (o ∷ os) (m ∷ ns) zero n h at = let same : m ≡ n = cc in record { o = o; listed = refl; spot = subst (IsSpot e t o) same h.0; more = ap (λ x. x ∷ []) same }
find-spot e t (o ∷ os) (m ∷ ns) (suc i) n h at =
    let rec = find-spot e t os ns i n h.1 at in
    record { o = rec.o; listed = rec.listed; spot = rec.spot; more = ap (λ xs. m ∷ xs) rec.more }

pub node_of : (e : Elab) (i : ℕ) (n : Instance) → IsAt (lineages_of e) i n → slice_get (nodes_of e) i ≡ Some n
node_of e i n h = ap (λ ns. slice_get ns i) (sym (all_nodes _ e.source.now)) ∙ slice_get-map (λ (l : Lineage). l.node) (lineages_of e) i ∙ h

pub at_node : (e : Elab) (k : ℕ) (n : Instance) → slice_get (nodes_of e) k ≡ Some n → IsAt (lineages_of e) k n
at_node e k n h = sym (slice_get-map (λ (l : Lineage). l.node) (lineages_of e) k) ∙ ap (λ ns. slice_get ns k) (all_nodes _ e.source.now) ∙ h

pub row_found : (e : Elab) (t : Bodies) (os : List Spot) (xs : List Row) (i : ℕ) (d : Row) → i < length xs → AreRows e xs → AreSpots e t os (nodes_of e) → IsRowAt e t os i (get_or xs i d)
row_found e t os xs i d l rows spots =
    let f = find-row e (lineages_of e) 0 xs (lineages_of e) i d l rows in
    let there : IsAt (lineages_of e) i f.l.node = ap (λ o. option_map (λ (x : Lineage). x.node) o) f.here in
    let node = node_of e i f.l.node there in
    let s = find-spot e t os (nodes_of e) i f.l.node spots node in
    record {
      n = f.l.node;
      number = (let z : 0 + i ≡ i = omega arith in f.row.number ∙ z);
      there = there;
      node_there = node;
      beside = f.row.beside;
      says = f.row.says;
      o = s.o;
      listed = s.listed;
      spot = s.spot;
      more = s.more;
    }

pub rows_length : (e : Elab) (all : List Lineage) (at : ℕ) (xs : List Row) (ls : List Lineage) → AreRowsFrom e all at xs ls → length xs ≡ length ls
rows_length e all at [] [] h = refl
rows_length e all at [] (m ∷ ls) h = absurd h
rows_length e all at (x ∷ xs) [] h = absurd h
rows_length e all at (x ∷ xs) (m ∷ ls) h = ap suc (rows_length e all (suc at) xs ls h.1)

pub rows_count : (e : Elab) (xs : List Row) → IsClean e → AreRows e xs → length xs ≡ e.count
rows_count e xs clean h =
    let a = rows_length e (lineages_of e) 0 xs (lineages_of e) h in
    let b = length-map (lineages_of e) (λ (l : Lineage). l.node) in
    let c = ap length (all_nodes (Some (top_name e)) e.source.now) in
    let d = counted (Some (top_name e)) e.source.now e clean.elaborated.tree in
    omega (arith, a, b, c, d)

-- Bodies one after the other.

pub assigned_none : (e : Elab) (es : List (Vec PropSetting Global)) (start : List Fault) → length es ≡ e.count → ((j : ℕ) → entries_at es j ≡ []) → AreEntries (nodes_of e) [] [] → AreAssigned e [] es start start
assigned_none e es start size none empty = record { all_nodes = size; noted = refl; told = λ j m l at. subst (λ xs. AreEntries (nodes_of e) xs []) (sym (none j)) empty }

pub assigned_more : (e : Elab) (ns : List Instance) (n : Instance) (es fs : List (Vec PropSetting Global)) (start before after : List Fault) → AreAssigned e ns es start before → IsAssigned e n es fs before after → AreAssigned e (ns ++ (n ∷ [])) fs start after
assigned_more e ns n es fs start before after h one = record {
  all_nodes = one.pushed.same_length ∙ h.all_nodes;
  noted =
      one.noted ∙ ap (with_all (of_dynamics n)) h.noted ∙ sym (with_all-append (flat_map of_dynamics ns) (of_dynamics n) start)
      ∙ ap (λ gs. with_all gs start) (sym (flat_map-append of_dynamics ns (n ∷ []) ∙ ap (λ gs. flat_map of_dynamics ns ++ gs) (append-nil (of_dynamics n))));
  told = λ j m l at.
      let size = h.all_nodes in
      let all : flat_map (from_above m) (map nested ns) ++ from_above m (nested n) ≡ flat_map (from_above m) (map nested (ns ++ (n ∷ []))) =
      sym (ap (flat_map (from_above m)) (map-append nested ns (n ∷ [])) ∙ flat_map-append (from_above m) (map nested ns) (nested n ∷ []) ∙ ap (λ xs. flat_map (from_above m) (map nested ns) ++ xs) (append-nil (from_above m (nested n)))) in
      subst (AreEntries (nodes_of e) (entries_at fs j)) all (one.pushed.pushed j m (flat_map (from_above m) (map nested ns)) (omega (arith, l, size)) at (h.told j m l at));
}

-- Entries that are none.

items-push : (vs : List (Vec PropSetting Global)) (v : Vec PropSetting Global) (j : ℕ) → v.items ≡ [] → entries_at vs j ≡ [] → entries_at (vs ++ (v ∷ [])) j ≡ []
items-push [] v zero e h = e
items-push [] v (suc j) e h = refl
items-push (w ∷ vs) v zero e h = h
items-push (w ∷ vs) v (suc j) e h = items-push vs v j e h

pub none_push : (vs : List (Vec PropSetting Global)) (v : Vec PropSetting Global) → v.items ≡ [] → ((j : ℕ) → entries_at vs j ≡ []) → (j : ℕ) → entries_at (vs ++ (v ∷ [])) j ≡ []
none_push vs v e h j = items-push vs v j e (h j)

pub no_entries_tell : (e : Elab) → AreEntries (nodes_of e) [] []
no_entries_tell e = record { assigned = λ p. refl; first = λ p. tt }

-- What the loop over the rows keeps.

abbrev pub AssignedTo : List Row → OpenTree → LayerTable → List Fault → ℕ → List (Vec PropSetting Global) → List Fault → Type 0
AssignedTo xs tree layers start i es now = (e : Elab) (first held : List Fault) → IsClean e → AreRows e xs → IsOpenTree e tree → AreLayersOf e tree layers first held → AreAssigned e (take i (nodes_of e)) es start now

pub to_none : (xs : List Row) (tree : OpenTree) (layers : LayerTable) (start : List Fault) (es : List (Vec PropSetting Global)) → length es ≡ length xs → ((j : ℕ) → entries_at es j ≡ []) → AssignedTo xs tree layers start 0 es start
to_none xs tree layers start es size none = λ e first held clean rows open_ layered. of e (nodes_of e) (assigned_none e es start (size ∙ rows_count e xs clean rows) none (no_entries_tell e))
  where
    of : (e : Elab) (ns : List Instance) → AreAssigned e [] es start start → AreAssigned e (take 0 ns) es start start
    of e [] h = h
    of e (n ∷ ns) h = h

has-layers : (x : LayerTable) (os : List Spot) (i : ℕ) (o : Spot) → AllByRecursion (λ p. HasLayers x p.body) os → slice_get os i ≡ Some o → HasLayers x o.body
has-layers x [] i o h at = cc
has-layers x (p ∷ os) zero o h at = let same : p ≡ o = cc in subst (λ q. HasLayers x q.body) same h.0
has-layers x (p ∷ os) (suc i) o h at = has-layers x os i o h.1 at

pub to_more : (xs : List Row) (tree : OpenTree) (layers : LayerTable) (start : List Fault) (i : ℕ) (d : Row) (o : Spot) (es fs : List (Vec PropSetting Global)) (before after : List Fault) → i < length xs → slice_get tree.spots.items i ≡ Some o → AssignedTo xs tree layers start i es before
    → ((e : Elab) (n : Instance) (held : List Fault) → AreRows e xs → AreLayers tree.bodies held layers → HasLayers layers o.body → IsAt (lineages_of e) (out-Node (get_or xs i d).node.now).id n → IsSpot e tree.bodies o n → IsAssigned e n es fs before after)
    → AssignedTo xs tree layers start (i + 1) fs after
to_more xs tree layers start i d o es fs before after l listed h one = λ e first held clean rows open_ layered.
    let r = row_found e tree.bodies tree.spots.items xs i d l rows open_.nodes_ in
    let both : Some r.o ≡ Some o = sym r.listed ∙ listed in
    let same : r.o ≡ o = cc in
    let at = subst (λ k. IsAt (lineages_of e) k r.n) (sym r.number) r.there in
    let all : take (i + 1) (nodes_of e) ≡ take i (nodes_of e) ++ (r.n ∷ []) = ap (λ k. take k (nodes_of e)) (add-one i) ∙ r.more in
    subst (λ ns. AreAssigned e ns fs start after) (sym all)
    (assigned_more e (take i (nodes_of e)) r.n es fs start before after (h e first held clean rows open_ layered)
    (one e r.n held rows layered.all (has-layers layers tree.spots.items i o layered.nodes_ listed) at (subst (λ p. IsSpot e tree.bodies p r.n) same r.spot)))

pub no_spot : (e : Elab) (xs : List Row) (tree : OpenTree) (i : ℕ) (d : Row) → i < length xs → AreRows e xs → IsOpenTree e tree → slice_get tree.spots.items i ≡ None → ⊥
no_spot e xs tree i d l rows open_ none =
    let r = row_found e tree.bodies tree.spots.items xs i d l rows open_.nodes_ in
    let both : Some r.o ≡ None = sym r.listed ∙ none in
    cc

pub to_all : (xs : List Row) (tree : OpenTree) (layers : LayerTable) (start : List Fault) (i : ℕ) (es : List (Vec PropSetting Global)) (now : List Fault) → length xs ≤ i → AssignedTo xs tree layers start i es now
    → (e : Elab) (first held : List Fault) → IsClean e → AreRows e xs → IsOpenTree e tree → AreLayersOf e tree layers first held → AreAssigned e (nodes_of e) es start now
to_all xs tree layers start i es now l h = λ e first held clean rows open_ layered.
    let a = rows_count e xs clean rows in
    let b = counted (Some (top_name e)) e.source.now e clean.elaborated.tree in
    subst (λ ns. AreAssigned e ns es start now) (take_all i (nodes_of e) (omega (arith, a, b, l))) (h e first held clean rows open_ layered)

-- The body that is open at a number.
pub own_is : (t : Bodies) (k : ℕ) (x : Body) (b : values.Body) → IsOpenAt t k b → slice_get t.list.items k ≡ Some x → IsOpenAs t x b
own_is t k x b h at = let both : Some h.open_ ≡ Some x = sym h.here ∙ at in let same : h.open_ ≡ x = cc in subst (λ y. IsOpenAs t y b) same h.is

-- The dynamic assignments of a body are found with its layers.
pub written_found : (t : Bodies) (held : List Fault) (x : LayerTable) (k : ℕ) (l : Layers) (b : values.Body) → AreLayers t held x → layers_at x k ≡ Some l → IsOpenAt t k b → AreWritten l.dynamics.value.items b.items
written_found t held x k l b known here open_ = (known.known k l here b open_).1.dynamics_are

pub no_layers : (x : LayerTable) (k : ℕ) → HasLayers x k → layers_at x k ≡ None → ⊥
no_layers x k has none = let both : Some has.0 ≡ None = sym has.1 ∙ none in cc
