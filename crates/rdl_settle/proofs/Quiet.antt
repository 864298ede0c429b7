-- Bodies that assign nothing to nodes below them.
use Rattle.std.proofs.Common.{◌≡◌, ◌∙◌, ℕ, suc, ◌==◌, Bool, true, false, ◌||◌, not, List, [], ◌∷◌, ◌++◌, filter, flat_map, length, map, Vec, refl, sym, ap, arith, subst}
use Rattle.std.specs.Global.{Global}
use Rattle.std.specs.List.{AllByRecursion, list_any}
use Rattle.std.proofs.lemmas.Bool.Decides.{nat_tests}
use Rattle.rdl_base.specs.declared.fault.Fault.{Fault}
use Rattle.rdl_tree.specs.declared.item.Item.{Item}
use Rattle.rdl_tree.specs.declared.node.Elab.{Elab}
use Rattle.rdl_values.specs.Bodies as values
use Rattle.rdl_values.specs.Bodies.{standing_from}
use Rattle.rdl_values.specs.Elaborated.{nodes_of}
use Rattle.rdl_values.specs.Elaboration.{IsClean}
use Rattle.rdl_values.specs.Instances.{Instance, body}
use Rattle.rdl_values.specs.Views as view
use Rattle.rdl_values.specs.Views.{ItemIs, item_is}
use Rattle.rdl_nodes.specs.Rows.{AreRows}
use Rattle.rdl_nodes.specs.declared.table.Row.{Row}
use Rattle.rdl_failures.specs.Noted.{with_all}
use Rattle.rdl_layers.specs.Assignments.{dynamic_in, dynamics, is_among, targets}
use Rattle.rdl_layers.specs.Judged.{all_failures, failures_of_dynamic, sound}
use Rattle.rdl_layers.specs.Nested.{nested}
use Rattle.rdl_layers.specs.Settings.{from_above, gives}
use Rattle.rdl_layers.specs.Tables.{entries_at}
use Rattle.rdl_layers.specs.declared.props.PropSetting.{PropSetting}
use Rattle.rdl_layers.specs.declared.rank.Rank.TheVariants as rank
use Rattle.rdl_merge.specs.Merged.{AreEntries}
use Rattle.rdl_bodies.specs.declared.bodies.Bodies.{Bodies}
use Rattle.rdl_open_bodies.specs.Spots.{AreSpots, IsOpenTree}
use Rattle.rdl_open_bodies.specs.declared.spots.OpenTree.{OpenTree}
use Rattle.rdl_open_bodies.specs.declared.spots.Spot.{Spot}
use Rattle.rdl_open_settings.specs.Layered.{AreLayers, AreLayersOf, HasLayers, layers_at}
use Rattle.rdl_open_settings.specs.declared.table.LayerTable.{LayerTable}
use Rattle.rdl_dynamic.specs.Written.{AreWritten, written_in}
use Rattle.rdl_dynamic.specs.declared.written.Written.{Written}
use Rattle.rdl_settle.specs.Gathered.{AreAssigned, has_dynamics, of_dynamics}
use Rattle.rdl_settle.proofs.Assigning.{no_entries_tell, rows_count, written_found}

left-false : (a b : Bool) → a || b ≡ false → a ≡ false
left-false true b e = cc e
left-false false b e = refl

right-false : (a b : Bool) → a || b ≡ false → b ≡ false
right-false true b e = cc e
right-false false b e = e

left-nil : {X : Type 0} (xs ys : List X) → xs ++ ys ≡ [] → xs ≡ []
left-nil [] ys e = refl
left-nil (x ∷ xs) ys e = cc e

right-nil : {X : Type 0} (xs ys : List X) → xs ++ ys ≡ [] → ys ≡ []
right-nil [] ys e = e
right-nil (x ∷ xs) ys e = cc e

-- Of one body.

none-in : (b : values.Body) (before : List Item) (i : Item) → written_in (item_is i) ≡ [] → dynamic_in b (before, i) ≡ []
none-in b before i none = go (item_is i) refl none
  where
    go : (v : ItemIs) → item_is i ≡ v → written_in v ≡ [] → dynamic_in b (before, i) ≡ []
    go (view.dynamic p s) e h = cc h
    go v e h = rw e refl

none-among : (b : values.Body) (before items : List Item) → flat_map (λ i. written_in (item_is i)) items ≡ [] → flat_map (dynamic_in b) (standing_from before items) ≡ []
none-among b before [] h = refl
none-among b before (i ∷ is) h =
    let first = none-in b before i (left-nil (written_in (item_is i)) (flat_map (λ j. written_in (item_is j)) is) h) in
    let rest = none-among b (before ++ (i ∷ [])) is (right-nil (written_in (item_is i)) (flat_map (λ j. written_in (item_is j)) is) h) in
    ap (λ ds. ds ++ flat_map (dynamic_in b) (standing_from (before ++ (i ∷ [])) is)) first ∙ rest

none-written : (b : values.Body) (ws : List Written) → AreWritten ws b.items → not (length ws == 0) ≡ false → dynamics b ≡ []
none-written b [] h none = none-among b [] b.items (sym h)
none-written b (w ∷ ws) h none = absurd (some (length ws) none)
  where
    some : (k : ℕ) → not (suc k == 0) ≡ false → ⊥
    some k q =
        let e : (suc k == 0) ≡ false = grind (arith, nat_tests) in
        let t : true ≡ false = sym (ap not e) ∙ q in
        cc

-- Of the bodies of nodes, one by one.

abbrev IsQuiet : Instance → Type 0
IsQuiet n = dynamics (body n) ≡ []

all-quiet : (e : Elab) (t : Bodies) (held : List Fault) (x : LayerTable) (os : List Spot) (ns : List Instance) → AreLayers t held x → AreSpots e t os ns → AllByRecursion (λ o. HasLayers x o.body) os → list_any (λ o. has_dynamics (layers_at x o.body)) os ≡ false → AllByRecursion IsQuiet ns
all-quiet e t held x [] [] known spots has none = tt
all-quiet e t held x [] (n ∷ ns) known spots has none = absurd spots
all-quiet e t held x (o ∷ os) [] known spots has none = absurd spots
all-quiet e t held x (o ∷ os) (n ∷ ns) known spots has none =
    let layers = has.0 in
    let own = left-false (has_dynamics (layers_at x o.body)) (list_any (λ p. has_dynamics (layers_at x p.body)) os) none in
    let rest = right-false (has_dynamics (layers_at x o.body)) (list_any (λ p. has_dynamics (layers_at x p.body)) os) none in (
      none-written (body n) layers.0.dynamics.value.items (written_found t held x o.body layers.0 (body n) known layers.1 spots.0.own) (sym (ap has_dynamics layers.1) ∙ own),
      all-quiet e t held x os ns known spots.1 has.1 rest,
    )

none-failed : (n : Instance) → IsQuiet n → of_dynamics n ≡ []
none-failed n quiet = ap (all_failures (failures_of_dynamic (nested n))) quiet

none-given : (m n : Instance) → IsQuiet n → from_above m (nested n) ≡ []
none-given m n quiet = ap (λ ds. flat_map (λ d. gives (rank.Dynamic (length n.above)) d.assigns) (filter (λ d. is_among (targets (nested n) d) m) (sound (failures_of_dynamic (nested n)) ds))) quiet

all-failed : (ns : List Instance) → AllByRecursion IsQuiet ns → flat_map of_dynamics ns ≡ []
all-failed [] h = refl
all-failed (n ∷ ns) h = ap (λ fs. fs ++ flat_map of_dynamics ns) (none-failed n h.0) ∙ all-failed ns h.1

all-given : (m : Instance) (ns : List Instance) → AllByRecursion IsQuiet ns → flat_map (from_above m) (map nested ns) ≡ []
all-given m [] h = refl
all-given m (n ∷ ns) h = ap (λ xs. xs ++ flat_map (from_above m) (map nested ns)) (none-given m n h.0) ∙ all-given m ns h.1

-- Where no body of a tree has dynamic assignments, none fails, and no node has entries.
pub none_assigned : (e : Elab) (xs : List Row) (tree : OpenTree) (layers : LayerTable) (es : List (Vec PropSetting Global)) (start before held : List Fault) → list_any (λ o. has_dynamics (layers_at layers o.body)) tree.spots.items ≡ false → length es ≡ length xs → ((j : ℕ) → entries_at es j ≡ [])
    → IsClean e → AreRows e xs → IsOpenTree e tree → AreLayersOf e tree layers before held → AreAssigned e (nodes_of e) es start start
none_assigned e xs tree layers es start before held quiet size none clean rows open_ layered =
    let all = all-quiet e tree.bodies held layers tree.spots.items (nodes_of e) layered.all open_.nodes_ layered.nodes_ quiet in
    record {
      all_nodes = size ∙ rows_count e xs clean rows;
      noted = sym (ap (λ fs. with_all fs start) (all-failed (nodes_of e) all));
      told = λ j m l at.
          let told : AreEntries (nodes_of e) [] (flat_map (from_above m) (map nested (nodes_of e))) = subst (AreEntries (nodes_of e) []) (sym (all-given m (nodes_of e) all)) (no_entries_tell e) in
          subst (λ ys. AreEntries (nodes_of e) ys (flat_map (from_above m) (map nested (nodes_of e)))) (sym (none j)) told;
    }
