-- Nodes that are completed, one after the other.
use Rattle.std.proofs.Common.{◌≡◌, ◌≢◌, ◌∙◌, ℕ, suc, ◌+◌, ◌<◌, ◌≤◌, true, false, List, [], ◌∷◌, ◌++◌, flat_map, get_or, length, map, take, Some, Err, Vec, slice_get, slice_index_or, slice_set, add-one, refl, sym, ap, subst, arith, append-nil, ◌⊎◌, inl, inr}
use Rattle.std.specs.Global.{Global}
use Rattle.std.proofs.lemmas.Grind.{flat_map-append}
use Rattle.std.proofs.lemmas.List.{map-set, get_or-set_same, get_or-set_other, get_or-map, length-set, take_all}
use Rattle.rdl_base.specs.declared.fault.Fault.{Fault}
use Rattle.rdl_tree.specs.declared.node.Elab.{Elab}
use Rattle.rdl_tree.specs.declared.node.Node.{Node}
use Rattle.rdl_values.specs.Bodies.{standing}
use Rattle.rdl_values.specs.Elaborated.{nodes_of, top_name}
use Rattle.rdl_values.specs.Instances.{Instance}
use Rattle.rdl_values.specs.Lineages.{lineages_of}
use Rattle.rdl_failures.specs.Noted.{with_all}
use Rattle.rdl_failures.proofs.Sets.{with_all-append}
use Rattle.rdl_layers.specs.Phase4.{of_node}
use Rattle.rdl_layers.specs.Settings.{applied_to, from_above, setting}
use Rattle.rdl_layers.specs.Tables.{entries_at}
use Rattle.rdl_layers.specs.declared.props.PropSetting.{PropSetting}
use Rattle.rdl_merge.specs.Merged.{AreEntries}
use Rattle.rdl_open_settings.specs.Completed.{IsNode, IsScene}
use Rattle.rdl_open_settings.specs.declared.table.LayerTable.{LayerTable}
use Rattle.rdl_open_bodies.specs.declared.spots.OpenTree.{OpenTree}
use Rattle.rdl_open_bodies.specs.declared.spots.Spot.{Spot}
use Rattle.rdl_targets.specs.At.{IsAt}
use Rattle.rdl_settle.specs.Gathered.{AreAssigned, AreCompleted, AreGathered, IsCompletedAt, IsRefused, of_dynamics}
use Rattle.rdl_settle.proofs.Assigning.{at_node, node_of, row_found, rows_count}
use Rattle.rdl_nodes.specs.Rows.{AreRows}
use Rattle.rdl_nodes.specs.declared.table.Row.{Row}
use Rattle.rdl_open_bodies.specs.Spots.{IsSpot}
use Rattle.rdl_settle.proofs.Reordered.{phase_list}
use Rattle.std.specs.List.{AllByRecursion}
use Rattle.plain_lemmas.proofs.Numbers.{below_next-swapped as less-either}
use Rattle.rdl_props.specs.declared.prop.Prop.{Prop}
use Rattle.rdl_layers.specs.Nested.{nested}
use Rattle.rdl_open_settings.specs.Layered.{of_layers, of_nodes}
use Rattle.rdl_layers.specs.Answers.{Answers4, IsSettled, settings_fail}
use Rattle.rdl_layers.specs.Says.{Says}
use Rattle.rdl_layers.specs.Tables.{AreTablesOf, setting_in}
use Rattle.rdl_failures.specs.declared.error.PhaseError.{PhaseError}
use Rattle.rdl_failures.specs.declared.error.PhaseError.TheVariants as error
use Rattle.rdl_values.specs.Elaboration.{IsClean}
use Rattle.rdl_values.specs.Parts.{is_empty}
use Rattle.rdl_values.specs.Top.{root}
use Rattle.rdl_values.specs.Verdict.{IsListOf}
use Rattle.rdl_values.proofs.Numbered.{counted}
use Rattle.rdl_nodes.proofs.Members.{get-within}
use Rattle.rdl_facts.specs.Told.{AreTold}
use Rattle.plain_lemmas.proofs.Lists.{each-get as each-at, some-at as within-some}

items-length : (vs : List (Vec PropSetting Global)) → length (map (λ v. v.items) vs) ≡ length vs
items-length [] = refl
items-length (v ∷ vs) = ap suc (items-length vs)

pub at_place : (vs : List (Vec PropSetting Global)) (k : ℕ) (v : Vec PropSetting Global) → k < length vs → entries_at (slice_set vs k v) k ≡ v.items
at_place vs k v l = ap (λ es. slice_index_or es k []) (map-set (λ (x : Vec PropSetting Global). x.items) vs k v) ∙ get_or-set_same (map (λ (x : Vec PropSetting Global). x.items) vs) k v.items [] (subst (λ n. k < n) (sym (items-length vs)) l)

pub elsewhere : (vs : List (Vec PropSetting Global)) (k j : ℕ) (v : Vec PropSetting Global) → j ≢ k → entries_at (slice_set vs k v) j ≡ entries_at vs j
elsewhere vs k j v d = ap (λ es. slice_index_or es j []) (map-set (λ (x : Vec PropSetting Global). x.items) vs k v) ∙ get_or-set_other (map (λ (x : Vec PropSetting Global). x.items) vs) k j v.items [] d

pub old_place : (vs : List (Vec PropSetting Global)) (k : ℕ) (d : Vec PropSetting Global) → k < length vs → entries_at vs k ≡ (get_or vs k d).items
old_place vs k d l = get_or-map (λ (x : Vec PropSetting Global). x.items) vs k d [] l

-- one place was completed
pub completed_at : (tree : OpenTree) (layers : LayerTable) (count : ℕ) (r : Node) (o : Spot) (k : ℕ) (vs : List (Vec PropSetting Global)) (old new : Vec PropSetting Global) (d : Vec PropSetting Global) (before after : List Fault) → k < length vs → old ≡ get_or vs k d
    → ((e : Elab) (n : Instance) → IsScene e tree layers count → IsNode e tree r o n → AreEntries (nodes_of e) old.items (flat_map (from_above n) (standing n.above)) → AreEntries (nodes_of e) new.items (applied_to n))
    → ((e : Elab) (n : Instance) → IsScene e tree layers count → IsNode e tree r o n → AreEntries (nodes_of e) old.items (flat_map (from_above n) (standing n.above)) → after ≡ with_all (of_node n) before)
    → IsCompletedAt tree layers count r o k vs (slice_set vs k new) before after
completed_at tree layers count r o k vs old new d before after l is entries noted = record {
  same_length = length-set vs k new;
  others = λ j differ. elsewhere vs k j new differ;
  here = λ e n scene node h. subst (λ es. AreEntries (nodes_of e) es (applied_to n)) (sym (at_place vs k new l)) (entries e n scene node (subst (λ es. AreEntries (nodes_of e) es (flat_map (from_above n) (standing n.above))) (was k) h));
  noted = λ e n scene node h. noted e n scene node (subst (λ es. AreEntries (nodes_of e) es (flat_map (from_above n) (standing n.above))) (was k) h);
}
  where
    was : (j : ℕ) → entries_at vs k ≡ old.items
    was j = old_place vs k d l ∙ ap (λ v. v.items) (sym is)

-- The first so many are completed, and the others tell of what the bodies above assign.
pub record AreDone (e : Elab) (i : ℕ) (es : List (Vec PropSetting Global)) (before after : List Fault) : Type 0 where
  pub all_nodes : length es ≡ e.count
  pub noted : after ≡ with_all (flat_map of_node (take i (nodes_of e))) before
  pub first : (j : ℕ) (m : Instance) → j < i → j < e.count → IsAt (lineages_of e) j m → AreEntries (nodes_of e) (entries_at es j) (applied_to m)
  pub rest : (j : ℕ) (m : Instance) → i ≤ j → j < e.count → IsAt (lineages_of e) j m → AreEntries (nodes_of e) (entries_at es j) (flat_map (from_above m) (standing m.above))

pub done_more : (e : Elab) (tree : OpenTree) (layers : LayerTable) (count : ℕ) (r : Node) (o : Spot) (i : ℕ) (n : Instance) (es fs : List (Vec PropSetting Global)) (start before after : List Fault) → IsScene e tree layers count → IsNode e tree r o n → i < e.count → IsAt (lineages_of e) i n
    → take (suc i) (nodes_of e) ≡ take i (nodes_of e) ++ (n ∷ []) → AreDone e i es start before → IsCompletedAt tree layers count r o i es fs before after → AreDone e (i + 1) fs start after
done_more e tree layers count r o i n es fs start before after scene node l at more h one = record {
  all_nodes = one.same_length ∙ h.all_nodes;
  noted =
      one.noted e n scene node own ∙ ap (with_all (of_node n)) h.noted ∙ sym (with_all-append (flat_map of_node (take i (nodes_of e))) (of_node n) start)
      ∙ ap (λ gs. with_all gs start) (sym (ap (λ k. flat_map of_node (take k (nodes_of e))) (add-one i) ∙ ap (flat_map of_node) more ∙ flat_map-append of_node (take i (nodes_of e)) (n ∷ []) ∙ ap (λ gs. flat_map of_node (take i (nodes_of e)) ++ gs) (append-nil (of_node n))));
  first = λ j m low in_ there. go j m in_ there (less-either i j low);
  rest = λ j m high in_ there. subst (λ xs. AreEntries (nodes_of e) xs (flat_map (from_above m) (standing m.above))) (sym (one.others j (apart j high))) (h.rest j m (omega (arith, high)) in_ there);
}
  where
    own : AreEntries (nodes_of e) (entries_at es i) (flat_map (from_above n) (standing n.above))
    own = h.rest i n (omega arith) l at

    apart : (j : ℕ) → i + 1 ≤ j → j ≢ i
    apart j high q = omega (arith, high, q)

    below : (j : ℕ) → j < i → j ≢ i
    below j low q = omega (arith, low, q)

    go : (j : ℕ) (m : Instance) → j < e.count → IsAt (lineages_of e) j m → (j < i) ⊎ (j ≡ i) → AreEntries (nodes_of e) (entries_at fs j) (applied_to m)
    go j m in_ there (inl low) = subst (λ xs. AreEntries (nodes_of e) xs (applied_to m)) (sym (one.others j (below j low))) (h.first j m low in_ there)
    go j m in_ there (inr q) =
        let both : Some n ≡ Some m = sym at ∙ subst (λ k. IsAt (lineages_of e) k m) q there in
        let same : n ≡ m = cc in
        subst (λ k. AreEntries (nodes_of e) (entries_at fs k) (applied_to m)) (sym q) (subst (λ x. AreEntries (nodes_of e) (entries_at fs i) (applied_to x)) same (one.here e n scene node own))

pub done_none : (e : Elab) (es : List (Vec PropSetting Global)) (start before now : List Fault) → AreAssigned e (nodes_of e) es start before → AllByRecursion (λ n. flat_map (from_above n) (map nested (nodes_of e)) ≡ flat_map (from_above n) (standing n.above)) (nodes_of e) → AreDone e 0 es now now
done_none e es start before now h law = record {
  all_nodes = h.all_nodes;
  noted = nothing (nodes_of e);
  first = λ j m low in_ there. absurd (omega (arith, low));
  rest = λ j m high in_ there. subst (AreEntries (nodes_of e) (entries_at es j)) (each-at _ (nodes_of e) j m law (node_of e j m there)) (h.told j m in_ there);
}
  where
    nothing : (ns : List Instance) → now ≡ with_all (flat_map of_node (take 0 ns)) now
    nothing [] = refl
    nothing (n ∷ ns) = refl

pub done_all : (e : Elab) (es : List (Vec PropSetting Global)) (i : ℕ) (start now : List Fault) → IsClean e → e.count ≤ i → AreDone e i es start now → AreCompleted e es start now
done_all e es i start now clean l h =
    let size = counted (Some (top_name e)) e.source.now e clean.elaborated.tree in
    let all : take i (nodes_of e) ≡ nodes_of e = take_all i (nodes_of e) (omega (arith, l, size)) in
    record {
      all_nodes = h.all_nodes;
      noted = h.noted ∙ ap (λ ns. with_all (flat_map of_node ns) start) all;
      told = λ j m in_ there. h.first j m (omega (arith, in_, l)) in_ there;
    }

-- All of the phase.
pub gathered : (e : Elab) (es fs : List (Vec PropSetting Global)) (start a b c : List Fault) → a ≡ with_all (of_layers (root e.source.now) ++ of_nodes (nodes_of e)) start → AreAssigned e (nodes_of e) es a b → AreCompleted e fs b c → AreGathered e fs start c
gathered e es fs start a b c layered assigned done =
    let r = of_layers (root e.source.now) ++ of_nodes (nodes_of e) in
    let d = flat_map of_dynamics (nodes_of e) in
    let w = flat_map of_node (nodes_of e) in
    record {
      all_nodes = done.all_nodes;
      noted = done.noted ∙ ap (with_all w) (assigned.noted ∙ ap (with_all d) layered ∙ sym (with_all-append r d start)) ∙ sym (with_all-append (r ++ d) w start);
      told = done.told;
    }

-- A table of settings.

pub tables : (e : Elab) (es : List (Vec PropSetting Global)) (start now : List Fault) → IsClean e → AreGathered e es start now → ((n : Instance) (xs : List PropSetting) → AreEntries (nodes_of e) xs (applied_to n) → (p : Prop) → Says (nodes_of e) (setting_in p xs) (setting n p)) → AreTablesOf e es
tables e es start now clean h say = record {
  all_nodes = h.all_nodes;
  settings = λ k p l.
      let size = counted (Some (top_name e)) e.source.now e clean.elaborated.tree in
      let n = within-some (nodes_of e) k (omega (arith, l, size)) in
      (n.0, n.1, say n.0 (entries_at es k) (h.told k n.0 l (at_node e k n.0 n.1)) p);
}

pub told_all : (e : Elab) (es : List (Vec PropSetting Global)) (start now : List Fault) → IsClean e → AreGathered e es start now → AreTold e es
told_all e es start now clean h = record {
  each = λ k n here.
      let l = get-within (nodes_of e) k n here in
      let size = counted (Some (top_name e)) e.source.now e clean.elaborated.tree in
      h.told k n (omega (arith, l, size)) (at_node e k n here);
}

pub settled : (e : Elab) (es : List (Vec PropSetting Global)) (now : List Fault) → IsClean e → AreGathered e es [] now → now ≡ [] → IsSettled e
settled e es now clean h none = subst (IsListOf (settings_fail e)) (sym h.noted ∙ none) (phase_list e clean)

pub refused : (e : Elab) (es : List (Vec PropSetting Global)) (now : List Fault) (r : PhaseError) → IsClean e → AreGathered e es [] now → (now ≡ [] → ⊥) → IsRefused now r → Answers4 e (Err r)
refused e es now (error.Faults list) clean h some is =
    record { failures = subst (IsListOf (settings_fail e)) (sym h.noted ∙ sym is) (phase_list e clean); some = λ q. some (sym is ∙ q) }
refused e es now error.NoMemory clean h some is = tt

-- What the loop over the rows keeps.

abbrev pub CompletedTo : List Row → OpenTree → LayerTable → ℕ → List (Vec PropSetting Global) → List Fault → ℕ → List (Vec PropSetting Global) → List Fault → Type 0
CompletedTo xs tree layers count first start i es now = (length es ≡ length first) × ((e : Elab) (a b : List Fault) → AreRows e xs → IsScene e tree layers count → AreAssigned e (nodes_of e) first a b → AreDone e i es start now)

pub cut_none : (xs : List Row) (tree : OpenTree) (layers : LayerTable) (count : ℕ) (first : List (Vec PropSetting Global)) (start : List Fault) → ((e : Elab) → AllByRecursion (λ n. flat_map (from_above n) (map nested (nodes_of e)) ≡ flat_map (from_above n) (standing n.above)) (nodes_of e))
    → CompletedTo xs tree layers count first start 0 first start
cut_none xs tree layers count first start law = (refl, λ e a b rows scene h. done_none e first a b start h (law e))

pub cut_more : (xs : List Row) (tree : OpenTree) (layers : LayerTable) (count : ℕ) (first : List (Vec PropSetting Global)) (start : List Fault) (i : ℕ) (d : Row) (o : Spot) (es fs : List (Vec PropSetting Global)) (before after : List Fault) → i < length xs → slice_get tree.spots.items i ≡ Some o
    → CompletedTo xs tree layers count first start i es before → IsCompletedAt tree layers count (get_or xs i d).node.now o i es fs before after → CompletedTo xs tree layers count first start (i + 1) fs after
cut_more xs tree layers count first start i d o es fs before after l listed h one = (
  one.same_length ∙ h.0,
  λ e a b rows scene assigned.
      let r = row_found e tree.bodies tree.spots.items xs i d l rows scene.open_.nodes_ in
      let both : Some r.o ≡ Some o = sym r.listed ∙ listed in
      let same : r.o ≡ o = cc in
      let size = rows_count e xs scene.clean rows in
      done_more e tree layers count (get_or xs i d).node.now o i r.n es fs start before after scene
      (record { there = subst (λ k. slice_get (nodes_of e) k ≡ Some r.n) (sym r.number) r.node_there; beside = r.beside; says = r.says; listed = subst (λ k. slice_get tree.spots.items k ≡ Some o) (sym r.number) listed; spot = subst (λ p. IsSpot e tree.bodies p r.n) same r.spot })
      (omega (arith, l, size)) r.there r.more (h.1 e a b rows scene assigned) one,
)

pub cut_all : (xs : List Row) (tree : OpenTree) (layers : LayerTable) (count : ℕ) (first : List (Vec PropSetting Global)) (start : List Fault) (i : ℕ) (es : List (Vec PropSetting Global)) (now : List Fault) → length xs ≤ i → CompletedTo xs tree layers count first start i es now
    → (e : Elab) (a b : List Fault) → AreRows e xs → IsScene e tree layers count → AreAssigned e (nodes_of e) first a b → AreCompleted e es start now
cut_all xs tree layers count first start i es now l h e a b rows scene assigned =
    let size = rows_count e xs scene.clean rows in
    done_all e es i start now scene.clean (omega (arith, l, size)) (h.1 e a b rows scene assigned)

pub empty_is : (fs : List Fault) → is_empty fs ≡ true → fs ≡ []
empty_is [] e = refl
empty_is (f ∷ fs) e = cc

pub not_empty : (fs : List Fault) → is_empty fs ≡ false → fs ≡ [] → ⊥
not_empty [] e q = cc
not_empty (f ∷ fs) e q = cc
