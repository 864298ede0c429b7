-- The dynamic assignments of a body, one by one.
use Rattle.std.proofs.Common.{◌≡◌, ◌∙◌, ℕ, zero, suc, ◌+◌, ◌<◌, ◌≤◌, Bool, true, false, cond, List, [], ◌∷◌, ◌++◌, length, get_or, take, map, filter, flat_map, append-nil, append_assoc, add-one, Some, is_some, Vec, refl, sym, ap, subst, arith}
use Rattle.std.specs.Global.{Global}
use Rattle.std.proofs.lemmas.Grind.{flat_map-append}
use Rattle.std.proofs.lemmas.List.{map-append, take_all}
use Rattle.std.proofs.lemmas.List.Elements.{filter-append}
use Rattle.rdl_base.specs.declared.fault.Fault.{Fault}
use Rattle.rdl_tree.specs.declared.expr.Path.{Path}
use Rattle.rdl_tree.specs.declared.item.Item.{Item}
use Rattle.rdl_tree.specs.declared.item.Set.{Set}
use Rattle.rdl_tree.specs.declared.node.Elab.{Elab}
use Rattle.rdl_values.specs.Bodies.{scope_at, standing, standing_from}
use Rattle.rdl_values.specs.Elaborated.{nodes_of, top_name}
use Rattle.rdl_values.specs.Instances.{Instance, body}
use Rattle.rdl_values.specs.Lineages.{lineages_of}
use Rattle.rdl_values.specs.Parts.{is_empty}
use Rattle.rdl_values.specs.Views as view
use Rattle.rdl_values.specs.Views.{ItemIs, item_is}
use Rattle.rdl_failures.specs.Noted.{with_all}
use Rattle.rdl_failures.proofs.Noting.{standing-push}
use Rattle.rdl_failures.proofs.Sets.{with_all-append}
use Rattle.rdl_layers.specs.Assignments.{Dynamic, Nested, dynamic_in, dynamics, is_among, targets}
use Rattle.rdl_layers.specs.Judged.{all_failures, failures_of_dynamic, sound}
use Rattle.rdl_layers.specs.Says.{IsScopeNumber}
use Rattle.rdl_layers.specs.Settings.{Applied, gives}
use Rattle.rdl_layers.specs.Tables.{entries_at}
use Rattle.rdl_layers.specs.declared.props.PropSetting.{PropSetting}
use Rattle.rdl_layers.specs.declared.rank.Rank.TheVariants as rank
use Rattle.rdl_assignments.specs.Layers.{IsGiven}
use Rattle.rdl_assignments.specs.declared.set.ValidAssignment.{ValidAssignment}
use Rattle.rdl_layers.specs.Nested.{nested}
use Rattle.rdl_dynamic.specs.Written.{AreWritten, parts_of, written_in}
use Rattle.rdl_dynamic.specs.declared.written.Written.{Written}
use Rattle.rdl_merge.specs.Merged.{AreEntries}
use Rattle.rdl_targets.specs.At.{AreAt, IsAt}
use Rattle.rdl_dynamic.specs.Given.{IsGoing, dynamic_of, given_to}
use Rattle.rdl_dynamic.specs.Judged.{IsLed}
use Rattle.rdl_dynamic.specs.Known.{AreKnown}
use Rattle.rdl_dynamic.specs.Pushed.{PushesAll}
use Rattle.rdl_dynamic.specs.declared.dynamic.Led.{Led}
use Rattle.rdl_dynamic.specs.declared.known.Known.{Known}
use Rattle.rdl_nodes.specs.declared.table.Row.{Row}
use Rattle.rdl_dynamic.proofs.Taking.{among-numbers, node-at}

-- One more assignment.

failures-push : (f : List Dynamic × Dynamic → List Fault) (ds : List Dynamic) (d : Dynamic) → all_failures f (ds ++ (d ∷ [])) ≡ all_failures f ds ++ f (ds, d)
failures-push f ds d = ap (flat_map f) (standing-push ds d) ∙ flat_map-append f (standing ds) ((ds, d) ∷ []) ∙ ap (λ fs. all_failures f ds ++ fs) (append-nil (f (ds, d)))

sound-push : (f : List Dynamic × Dynamic → List Fault) (ds : List Dynamic) (d : Dynamic) → sound f (ds ++ (d ∷ [])) ≡ sound f ds ++ cond (is_empty (f (ds, d))) (d ∷ []) []
sound-push f ds d =
    ap (λ xs. map (λ (x : List Dynamic × Dynamic). x.1) (filter (λ x. is_empty (f x)) xs)) (standing-push ds d)
    ∙ ap (map (λ (x : List Dynamic × Dynamic). x.1)) (filter-append (λ x. is_empty (f x)) (standing ds) ((ds, d) ∷ []))
    ∙ map-append (λ (x : List Dynamic × Dynamic). x.1) (filter (λ x. is_empty (f x)) (standing ds)) (filter (λ x. is_empty (f x)) ((ds, d) ∷ []))
    ∙ ap (λ ys. sound f ds ++ ys) (last (is_empty (f (ds, d))))
  where
    last : (b : Bool) → map (λ (x : List Dynamic × Dynamic). x.1) (cond b ((ds, d) ∷ []) []) ≡ cond b (d ∷ []) []
    last true = refl
    last false = refl

-- what one more gives, if it is sound
abbrev pub one_given : Nested → Instance → Dynamic → Bool → List Applied
one_given b m d clean = cond clean (cond (is_among (targets b d) m) (gives (rank.Dynamic (length b.0)) d.assigns) []) []

given-push : (b : Nested) (m : Instance) (ds : List Dynamic) (d : Dynamic) → given_to b m (ds ++ (d ∷ [])) ≡ given_to b m ds ++ one_given b m d (is_empty (failures_of_dynamic b (ds, d)))
given-push b m ds d =
    ap (λ xs. flat_map give (filter at xs)) (sound-push (failures_of_dynamic b) ds d)
    ∙ ap (flat_map give) (filter-append at (sound (failures_of_dynamic b) ds) last)
    ∙ flat_map-append give (filter at (sound (failures_of_dynamic b) ds)) (filter at last)
    ∙ ap (λ ys. given_to b m ds ++ ys) (one (is_empty (failures_of_dynamic b (ds, d))) (at d))
  where
    give : Dynamic → List Applied
    give x = gives (rank.Dynamic (length b.0)) x.assigns

    at : Dynamic → Bool
    at x = is_among (targets b x) m

    last : List Dynamic
    last = cond (is_empty (failures_of_dynamic b (ds, d))) (d ∷ []) []

    one : (c s : Bool) → flat_map give (filter at (cond c (d ∷ []) [])) ≡ cond c (cond (at d) (give d) []) []
    one true s = kept (at d)
      where
        kept : (x : Bool) → flat_map give (cond x (d ∷ []) []) ≡ cond x (give d) []
        kept true = append-nil (give d)
        kept false = refl
    one false s = refl

-- The assignment stands in the body of the node of that number.
in-body : (e : Elab) (node : ℕ) (n : Instance) (before : List Item) → IsAt (lineages_of e) node n → IsScopeNumber (nodes_of e) (scope_at (body n) before) node
in-body e node n before h = (n, node-at (Some (top_name e)) e.source.now node n h, refl)

-- Nothing has been read.
pub go-none : (e : Elab) (node : ℕ) (rows : List Row) (n : Instance) (k : Known) (es : List (Vec PropSetting Global)) (fs : List Fault) → AreKnown e node rows (nested n) k [] → IsGoing e node rows n k es es fs fs []
go-none e node rows n k es fs h = record { are_known = h; noted = refl; same_length = refl; pushed = λ j m xs l at old. subst (AreEntries (nodes_of e) (entries_at es j)) (sym (append-nil xs)) old }

-- One more was judged.
pub go-more : (e : Elab) (node : ℕ) (rows : List Row) (n : Instance) (old new : Known) (first before after : List (Vec PropSetting Global)) (start s t : List Fault) (read : List Dynamic) (d : Dynamic) (r : Led) (items : List Item)
    → d.assigns.scope ≡ scope_at (body n) items → IsAt (lineages_of e) node n → IsGoing e node rows n old first before start s read → IsLed e node rows (nested n) read d r new s t
    → length after ≡ length before
    → ((j : ℕ) (m : Instance) (xs : List Applied) → j < length before → IsAt (lineages_of e) j m → AreEntries (nodes_of e) (entries_at before j) xs → AreEntries (nodes_of e) (entries_at after j) (xs ++ one_given (nested n) m d (is_some r.given)))
    → IsGoing e node rows n new first after start t (read ++ (d ∷ []))
go-more e node rows n old new first before after start s t read d r items scope at h led size put = record {
  are_known = led.are_known;
  noted = led.noted.put ∙ ap (with_all (failures_of_dynamic b (read, d))) h.noted ∙ sym (with_all-append (all_failures (failures_of_dynamic b) read) (failures_of_dynamic b (read, d)) start) ∙ ap (λ fs. with_all fs start) (sym (failures-push (failures_of_dynamic b) read d));
  same_length = size ∙ h.same_length;
  pushed = λ j m xs l is old. subst (AreEntries (nodes_of e) (entries_at after j)) (sym (more xs m)) (put j m (xs ++ given_to b m read) (subst (λ k. j < k) (sym h.same_length) l) is (h.pushed j m xs l is old));
}
  where
    b : Nested
    b = nested n

    more : (xs : List Applied) (m : Instance) → xs ++ given_to b m (read ++ (d ∷ [])) ≡ (xs ++ given_to b m read) ++ one_given b m d (is_some r.given)
    more xs m = ap (λ ys. xs ++ ys) (given-push b m read d ∙ ap (λ c. given_to b m read ++ one_given b m d c) (sym led.noted.none)) ∙ sym (append_assoc xs (given_to b m read) (one_given b m d (is_some r.given)))

-- It gives something at its targets, or nothing.
pub puts-some : (e : Elab) (node : ℕ) (n : Instance) (before after : List (Vec PropSetting Global)) (items : List Item) (d : Dynamic) (g : ValidAssignment) (ks : List ℕ) → d.assigns.scope ≡ scope_at (body n) items → IsAt (lineages_of e) node n → AreAt (lineages_of e) ks (targets (nested n) d) → IsGiven node g d.assigns
    → PushesAll ks g node before after
    → (j : ℕ) (m : Instance) (xs : List Applied) → j < length before → IsAt (lineages_of e) j m → AreEntries (nodes_of e) (entries_at before j) xs → AreEntries (nodes_of e) (entries_at after j) (xs ++ one_given (nested n) m d true)
puts-some e node n before after items d g ks scope at are is h j m xs l there old =
    subst (λ c. AreEntries (nodes_of e) (entries_at after j) (xs ++ cond c (gives (rank.Dynamic (length n.above)) d.assigns) [])) (among-numbers e ks (targets (nested n) d) j m are there)
    (h.pushed (nodes_of e) xs node d.assigns (rank.Dynamic (length n.above)) j l is (subst (λ s. IsScopeNumber (nodes_of e) s node) (sym scope) (in-body e node n items at)) old)

pub puts-none : (e : Elab) (n : Instance) (before : List (Vec PropSetting Global)) (d : Dynamic) (j : ℕ) (m : Instance) (xs : List Applied) → AreEntries (nodes_of e) (entries_at before j) xs → AreEntries (nodes_of e) (entries_at before j) (xs ++ one_given (nested n) m d false)
puts-none e n before d j m xs old = subst (AreEntries (nodes_of e) (entries_at before j)) (sym (append-nil xs)) old

-- Item by item.

-- In the body of a node these assignments are so written.
abbrev pub AreOf : Instance → List (Path × Set) → List Dynamic → Type 0
AreOf n [] [] = Unit {0}
AreOf n (p ∷ ps) (d ∷ ds) = ((before : List Item) × (d ≡ dynamic_of n before p.0 p.1)) × AreOf n ps ds
AreOf n _ _ = ⊥

of-append : (n : Instance) (ps qs : List (Path × Set)) (ds es : List Dynamic) → AreOf n ps ds → AreOf n qs es → AreOf n (ps ++ qs) (ds ++ es)
of-append n [] qs [] es h k = k
of-append n (p ∷ ps) qs (d ∷ ds) es h k = (h.0, of-append n ps qs ds es h.1 k)
of-append n [] qs (d ∷ ds) es h k = absurd h
of-append n (p ∷ ps) qs [] es h k = absurd h

of-item : (n : Instance) (before : List Item) (i : Item) → AreOf n (written_in (item_is i)) (dynamic_in (body n) (before, i))
of-item n before i = go (item_is i) refl
  where
    go : (v : ItemIs) → item_is i ≡ v → AreOf n (written_in (item_is i)) (dynamic_in (body n) (before, i))
    go (view.dynamic p s) e = rw e ((before, refl), tt)
    go v e = rw e tt

of-items : (n : Instance) (before items : List Item) → AreOf n (flat_map (λ i. written_in (item_is i)) items) (flat_map (dynamic_in (body n)) (standing_from before items))
of-items n before [] = tt
of-items n before (i ∷ is) = of-append n (written_in (item_is i)) (flat_map (λ j. written_in (item_is j)) is) (dynamic_in (body n) (before, i)) (flat_map (dynamic_in (body n)) (standing_from (before ++ (i ∷ [])) is)) (of-item n before i) (of-items n (before ++ (i ∷ [])) is)

pub of-body : (n : Instance) (ws : List Written) → AreWritten ws (body n).items → AreOf n (map parts_of ws) (dynamics (body n))
of-body n ws h = subst (λ ps. AreOf n ps (dynamics (body n))) (sym h) (of-items n [] (body n).items)

-- the one of a place
record IsNth (n : Instance) (w : Written) (ds : List Dynamic) (i : ℕ) : Type 0 where
  before : List Item
  more : take (suc i) ds ≡ take i ds ++ (dynamic_of n before w.target.now w.assigned.now ∷ [])

nth-of : (n : Instance) (ws : List Written) (ds : List Dynamic) (i : ℕ) (d : Written) → i < length ws → AreOf n (map parts_of ws) ds → IsNth n (get_or ws i d) ds i
nth-of n [] ds i d l h = absurd (omega (arith, l))
nth-of n (w ∷ ws) [] i d l h = absurd h
nth-of n (w ∷ ws) (x ∷ ds) zero d l h = record { before = h.0.0; more = ap (λ y. y ∷ []) h.0.1 }
nth-of n (w ∷ ws) (x ∷ ds) (suc i) d l h =
    let next = nth-of n ws ds i d (omega (arith, l)) h.1 in
    record { before = next.before; more = ap (λ xs. x ∷ xs) next.more }

pub all-of : (n : Instance) (ws : List Written) (ds : List Dynamic) (i : ℕ) → length ws ≤ i → AreOf n (map parts_of ws) ds → take i ds ≡ ds
all-of n [] [] i l h = take_all i [] l
all-of n [] (x ∷ ds) i l h = absurd h
all-of n (w ∷ ws) [] i l h = absurd h
all-of n (w ∷ ws) (x ∷ ds) zero l h = absurd (omega (arith, l))
all-of n (w ∷ ws) (x ∷ ds) (suc i) l h = ap (λ xs. x ∷ xs) (all-of n ws ds i (omega (arith, l)) h.1)

pub none-yet : (e : Elab) (node : ℕ) (rows : List Row) (n : Instance) (k : Known) (es : List (Vec PropSetting Global)) (fs : List Fault) (ds : List Dynamic) → AreKnown e node rows (nested n) k [] → IsGoing e node rows n k es es fs fs (take 0 ds)
none-yet e node rows n k es fs [] h = go-none e node rows n k es fs h
none-yet e node rows n k es fs (d ∷ ds) h = go-none e node rows n k es fs h

pub go-next : (e : Elab) (node : ℕ) (rows : List Row) (n : Instance) (k : Known) (first now : List (Vec PropSetting Global)) (s t : List Fault) (ws : List Written) (ds : List Dynamic) (i : ℕ) (d : Written) → i < length ws → AreOf n (map parts_of ws) ds
    → ((before : List Item) → IsGoing e node rows n k first now s t (take i ds ++ (dynamic_of n before (get_or ws i d).target.now (get_or ws i d).assigned.now ∷ []))) → IsGoing e node rows n k first now s t (take (i + 1) ds)
go-next e node rows n k first now s t ws ds i d l of step =
    let one = nth-of n ws ds i d l of in
    subst (IsGoing e node rows n k first now s t) (sym (ap (λ x. take x ds) (add-one i) ∙ one.more)) (step one.before)
