-- What is assigned at the targets already.
use Rattle.std.proofs.Common.{◌≡◌, ◌≢◌, ◌∙◌, ◌⊎◌, inl, inr, ℕ, zero, suc, ◌<◌, ◌==◌, ◌||◌, ◌&&◌, Bool, true, false, not, is_none, is_some, IfSome, Result, Ok, Err, cond, List, [], ◌∷◌, ◌++◌, map, filter, flat_map, append-nil, append_assoc, Option, None, Some, option_map, option_to_list, slice_get, refl, sym, ap, subst, arith}
use Rattle.std.specs.List.{list_any}
use Rattle.std.specs.Result.{result_ok}
use Rattle.std.proofs.lemmas.Bool.Decides.{nat_tests}
use Rattle.std.proofs.lemmas.List.Elements.{filter-append}
use Rattle.std.proofs.lemmas.List.Folds.{list_any-append}
use Rattle.rdl_base.specs.declared.fault.Fault.{Fault}
use Rattle.rb_base.specs.declared.place.Place.{Place}
use Rattle.rdl_base.specs.declared.rule.Rule.TheVariants as rules
use Rattle.rdl_tree.specs.declared.expr.Path.{Path as Code}
use Rattle.rdl_tree.specs.declared.item.Source.{Source}
use Rattle.rdl_tree.specs.declared.node.Elab.{Elab}
use Rattle.rdl_props.specs.declared.prop.Prop.{Prop}
use Rattle.rdl_props.specs.Same.{same_prop}
use Rattle.rdl_values.specs.Bodies.{around}
use Rattle.rdl_values.specs.Elaborated.{top_name}
use Rattle.rdl_values.specs.Faults.{at_, failures, when}
use Rattle.rdl_values.specs.Instances.{Instance, children, nodes}
use Rattle.rdl_values.specs.Lineages.{Lineage, lineages, lineages_of}
use Rattle.rdl_values.specs.Parts.{is_empty}
use Rattle.rdl_values.specs.Views.{steps_of}
use Rattle.rdl_nodes.proofs.Lineages.{all_nodes}
use Rattle.rdl_nodes.proofs.Paths.{paths_differ}
use Rattle.rdl_nodes.proofs.Members.{get-read, get-within}
use Rattle.rdl_failures.specs.Noted.{IsNoted, with_all}
use Rattle.rdl_failures.proofs.Noting.{both_noted, noted_as}
use Rattle.rdl_layers.specs.Assignments.{Dynamic, Nested, is_among, is_step, led_down, meet, members, same_path, targets}
use Rattle.rdl_layers.specs.Judged.{against, bad_indices, bad_value, failures_of_dynamic, illegal, legal_on, no_target, props_of, taken, unknown}
use Rattle.rdl_layers.specs.Meanings.{Assignment, meaning, prop_of}
use Rattle.rdl_layers.specs.Ranks.{is_related}
use Rattle.rdl_layers.specs.declared.setting.Setting.{Setting}
use Rattle.rdl_assignments.specs.declared.set.ValidAssignment.{ValidAssignment}
use Rattle.rdl_assignments.specs.Meant.{outcome_in}
use Rattle.rdl_targets.specs.At.{AreAt, IsAt}
use Rattle.rdl_dynamic.specs.Marked.{assigned_at}
use Rattle.rdl_layers.proofs.Spared.{other-path, same-self}
use Rattle.rdl_dynamic.specs.Judged.{known_fails}
use Rattle.rdl_dynamic.specs.Marks.{AreMarks, is_marked}
use Rattle.rdl_dynamic.specs.declared.marks.Marks.{Marks}

-- the targets of an assignment in the body of a node
pub led-at : (e : Elab) (b : Nested) (d : Dynamic) (path : Code) (n : Instance) (ks : List ℕ) → members b ≡ children n → d.steps ≡ steps_of path → AreAt (lineages_of e) ks (led_down children (is_step (around d.assigns.scope)) (children n) (steps_of path)) → AreAt (lineages_of e) ks (targets b d)
led-at e b d path n ks inside steps h = subst (AreAt (lineages_of e) ks) (λ i. led_down children (is_step (around d.assigns.scope)) (sym inside i) (sym steps i)) h

-- P4 and P5.

marked-at : (all : List Lineage) (b : Nested) (m : Marks) (earlier : List Dynamic) (f : Prop → Bool) (ks : List ℕ) (ns : List Instance) → AreMarks all b m earlier → AreAt all ks ns → list_any (λ k. is_marked m k f) ks ≡ list_any (λ n. list_any f (assigned_at b earlier n)) ns
marked-at all b m earlier f [] [] h at = refl
marked-at all b m earlier f (k ∷ ks) (n ∷ ns) h at = ap (λ c. c || list_any (λ i. is_marked m i f) ks) (h.at k n at.0 f) ∙ ap (λ c. list_any f (assigned_at b earlier n) || c) (marked-at all b m earlier f ks ns h at.1)
marked-at all b m earlier f [] (n ∷ ns) h at = absurd at
marked-at all b m earlier f (k ∷ ks) [] h at = absurd at

pub taken-noted : (all : List Lineage) (b : Nested) (m : Marks) (earlier : List Dynamic) (d : Dynamic) (p : Prop) (at : Place) (ks : List ℕ) (t r fresh alone : Bool) (s u v : List Fault)
    → ((f : Prop → Bool) → list_any (λ n. list_any f (assigned_at b earlier n)) (targets b d) ≡ list_any f (props_of (map (λ e. e.assigns) (filter (meet b d) earlier))))
    → AreMarks all b m earlier → AreAt all ks (targets b d) → d.assigns.set_.place ≡ at → prop_of d.assigns ≡ Some p
    → t ≡ list_any (λ k. is_marked m k (same_prop p)) ks → r ≡ list_any (λ k. is_marked m k (λ q. is_related p q && not (same_prop p q))) ks
    → IsNoted (when t (at_ rules.P4 at)) fresh s u → IsNoted (when r (at_ rules.P5 at)) alone u v
    → IsNoted (taken (map (λ x. x.assigns) (filter (meet b d) earlier)) d.assigns) (fresh && alone) s v
taken-noted all b m earlier d p at ks t r fresh alone s u v law marks are place named et er four five =
    noted_as (when t (at_ rules.P4 at) ++ when r (at_ rules.P5 at)) _ (fresh && alone) s v same (both_noted (when t (at_ rules.P4 at)) (when r (at_ rules.P5 at)) fresh alone s u v four five)
  where
    met : List Prop
    met = props_of (map (λ e. e.assigns) (filter (meet b d) earlier))

    is-t : t ≡ list_any (same_prop p) met
    is-t = et ∙ marked-at all b m earlier (same_prop p) ks (targets b d) marks are ∙ law (same_prop p)

    is-r : r ≡ list_any (λ q. is_related p q && not (same_prop p q)) met
    is-r = er ∙ marked-at all b m earlier (λ q. is_related p q && not (same_prop p q)) ks (targets b d) marks are ∙ law (λ q. is_related p q && not (same_prop p q))

    same : when t (at_ rules.P4 at) ++ when r (at_ rules.P5 at) ≡ taken (map (λ x. x.assigns) (filter (meet b d) earlier)) d.assigns
    same = (λ i. when (is-t i) (at_ rules.P4 (sym place i)) ++ when (is-r i) (at_ rules.P5 (sym place i))) ∙ sym (ap (λ o. flat_map (against met d.assigns.set_.place) (option_to_list o)) named ∙ append-nil (against met d.assigns.set_.place p))

-- Marks of one more.

abbrev passes : (Prop → Bool) → Dynamic → Bool
passes f d = list_any f (option_to_list (prop_of d.assigns))

any-props : (f : Prop → Bool) (ds : List Dynamic) → list_any f (props_of (map (λ d. d.assigns) ds)) ≡ list_any (passes f) ds
any-props f [] = refl
any-props f (d ∷ ds) = list_any-append f (option_to_list (prop_of d.assigns)) (props_of (map (λ e. e.assigns) ds)) ∙ ap (λ c. passes f d || c) (any-props f ds)

assigned-push : (b : Nested) (earlier : List Dynamic) (d : Dynamic) (n : Instance) (f : Prop → Bool) → list_any f (assigned_at b (earlier ++ (d ∷ [])) n) ≡ (list_any f (assigned_at b earlier n) || (is_among (targets b d) n && passes f d))
assigned-push b earlier d n f =
    any-props f (filter at (earlier ++ (d ∷ [])))
    ∙ ap (list_any (passes f)) (filter-append at earlier (d ∷ []))
    ∙ list_any-append (passes f) (filter at earlier) (filter at (d ∷ []))
    ∙ ap (λ c. c || list_any (passes f) (filter at (d ∷ []))) (sym (any-props f (filter at earlier)))
    ∙ ap (λ c. list_any f (assigned_at b earlier n) || c) (last (at d))
  where
    at : Dynamic → Bool
    at e = is_among (targets b e) n

    or-no : (c : Bool) → (c || false) ≡ c
    or-no true = refl
    or-no false = refl

    last : (c : Bool) → list_any (passes f) (cond c (d ∷ []) []) ≡ (c && passes f d)
    last true = or-no (passes f d)
    last false = refl

-- a node is among others where its number is among theirs
pub node-at : (wanted : Option (List ℕ)) (s : Source) (k : ℕ) (n : Instance) → IsAt (lineages wanted s) k n → slice_get (nodes wanted s) k ≡ Some n
node-at wanted s k n h = subst (λ ns. slice_get ns k ≡ Some n) (all_nodes wanted s) (mapped (lineages wanted s) k h)
  where
    mapped : (ls : List Lineage) (i : ℕ) → option_map (λ l. l.node) (slice_get ls i) ≡ Some n → slice_get (map (λ l. l.node) ls) i ≡ Some n
    mapped [] i e = cc
    mapped (l ∷ ls) zero e = e
    mapped (l ∷ ls) (suc i) e = mapped ls i e

numbers-differ : (wanted : Option (List ℕ)) (s : Source) (i j : ℕ) (m n : Instance) → IsAt (lineages wanted s) i m → IsAt (lineages wanted s) j n → i ≢ j → m.path ≢ n.path
numbers-differ wanted s i j m n p q d e = by (split i j)
  where
    before : (a b : ℕ) (x y : Instance) → IsAt (lineages wanted s) a x → IsAt (lineages wanted s) b y → a < b → x.path ≡ y.path → ⊥
    before a b x y h g l same =
        let differ = paths_differ wanted s a b x l (get-within (nodes wanted s) b y (node-at wanted s b y g)) in
        let left = get-read (nodes wanted s) a x x (node-at wanted s a x h) in
        let right = get-read (nodes wanted s) b x y (node-at wanted s b y g) in
        differ (ap (λ z. z.path) left ∙ same ∙ sym (ap (λ z. z.path) right))

    split : (a b : ℕ) → (a < b) ⊎ (b < a) ⊎ (a ≡ b)
    split a b = grind arith

    by : (i < j) ⊎ (j < i) ⊎ (i ≡ j) → ⊥
    by (inl less) = before i j m n p q less e
    by (inr (inl more)) = before j i n m q p more (sym e)
    by (inr (inr same)) = d same

same-node : (all : List Lineage) (i j : ℕ) (m n : Instance) → i ≡ j → IsAt all i m → IsAt all j n → m ≡ n
same-node all i j m n e p q = let one : Some m ≡ Some n = sym p ∙ ap (λ k. option_map (λ l. l.node) (slice_get all k)) e ∙ q in cc

pub among-numbers : (e : Elab) (ks : List ℕ) (ms : List Instance) (j : ℕ) (n : Instance) → AreAt (lineages_of e) ks ms → IsAt (lineages_of e) j n → list_any (λ k. k == j) ks ≡ is_among ms n
among-numbers e [] [] j n h at = refl
among-numbers e (k ∷ ks) (m ∷ ms) j n h at = ap (λ c. c || list_any (λ i. i == j) ks) (one (k == j) refl) ∙ ap (λ c. same_path m.path n.path || c) (among-numbers e ks ms j n h.1 at)
  where
    one : (c : Bool) → (k == j) ≡ c → (k == j) ≡ same_path m.path n.path
    one true q =
        let same : k ≡ j = grind (arith, nat_tests) in
        q ∙ sym (ap (λ x. same_path x.path n.path) (same-node (lineages_of e) k j m n same h.0 at) ∙ same-self n.path)
    one false q =
        let other : k ≢ j = grind (arith, nat_tests) in
        q ∙ sym (other-path m.path n.path (numbers-differ (Some (top_name e)) e.source.now k j m n h.0 at other))
among-numbers e [] (m ∷ ms) j n h at = absurd h
among-numbers e (k ∷ ks) [] j n h at = absurd h

pub marks-push : (e : Elab) (b : Nested) (old new : Marks) (earlier : List Dynamic) (d : Dynamic) (p : Prop) (ks : List ℕ) → AreMarks (lineages_of e) b old earlier → AreAt (lineages_of e) ks (targets b d) → prop_of d.assigns ≡ Some p
    → ((j : ℕ) (f : Prop → Bool) → is_marked new j f ≡ (is_marked old j f || (list_any (λ k. k == j) ks && f p))) → AreMarks (lineages_of e) b new (earlier ++ (d ∷ []))
marks-push e b old new earlier d p ks h are named put = record {
  at = λ k n at f. put k f ∙ ap (λ c. c || (list_any (λ i. i == k) ks && f p)) (h.at k n at f) ∙ ap (λ c. list_any f (assigned_at b earlier n) || (c && f p)) (among-numbers e ks (targets b d) k n are at) ∙ ap (λ c. list_any f (assigned_at b earlier n) || (is_among (targets b d) n && c)) (only f) ∙ sym (assigned-push b earlier d n f);
}
  where
    or-no : (c : Bool) → c ≡ (c || false)
    or-no true = refl
    or-no false = refl

    only : (f : Prop → Bool) → f p ≡ passes f d
    only f = or-no (f p) ∙ sym (ap (λ o. list_any f (option_to_list o)) named)

pub marks-stay : (all : List Lineage) (b : Nested) (m : Marks) (earlier : List Dynamic) (d : Dynamic) → AreMarks all b m earlier → prop_of d.assigns ≡ None → AreMarks all b m (earlier ++ (d ∷ []))
marks-stay all b m earlier d h none = record {
  at = λ k n at f. h.at k n at f ∙ or-none (list_any f (assigned_at b earlier n)) (is_among (targets b d) n) ∙ ap (λ o. list_any f (assigned_at b earlier n) || (is_among (targets b d) n && list_any f (option_to_list o))) (sym none) ∙ sym (assigned-push b earlier d n f);
}
  where
    or-none : (x y : Bool) → x ≡ (x || (y && false))
    or-none true y = refl
    or-none false true = refl
    or-none false false = refl

-- All failures of an assignment.

pub of-unknown : (b : Nested) (earlier : List Dynamic) (d : Dynamic) → prop_of d.assigns ≡ None → known_fails b earlier d ≡ []
of-unknown b earlier d none = (λ i. ills (targets b d) i ++ value i ++ other i)
  where
    ills : (ns : List Instance) → flat_map (λ n. illegal (legal_on n) d.assigns) ns ≡ []
    ills [] = refl
    ills (n ∷ ns) = ap (λ o. flat_map (λ p. when (not (legal_on n p)) (at_ rules.P3 d.assigns.set_.place)) (option_to_list o) ++ flat_map (λ m. illegal (legal_on m) d.assigns) ns) none ∙ ills ns

    value : bad_value d.assigns ≡ []
    value = ap (λ o. flat_map (λ p. failures (meaning p d.assigns)) (option_to_list o)) none

    other : taken (map (λ e. e.assigns) (filter (meet b d) earlier)) d.assigns ≡ []
    other = ap (λ o. flat_map (against (props_of (map (λ e. e.assigns) (filter (meet b d) earlier))) d.assigns.set_.place) (option_to_list o)) none

abbrev path_fails : Nested → Dynamic → List Fault
path_fails b d = unknown d.assigns ++ bad_indices d ++ no_target b d

in-two : (b : Nested) (earlier : List Dynamic) (d : Dynamic) → path_fails b d ++ known_fails b earlier d ≡ failures_of_dynamic b (earlier, d)
in-two b earlier d =
    let ills = flat_map (λ n. illegal (legal_on n) d.assigns) (targets b d) in
    let value = bad_value d.assigns in
    let others = taken (map (λ e. e.assigns) (filter (meet b d) earlier)) d.assigns in
    sym (append_assoc (path_fails b d) (ills ++ value) others) ∙ ap (λ fs. fs ++ others) (sym (append_assoc (path_fails b d) ills value))

pub both-parts : (b : Nested) (earlier : List Dynamic) (d : Dynamic) (x y : Bool) (s t u : List Fault) → IsNoted (unknown d.assigns ++ bad_indices d ++ no_target b d) x s t → IsNoted (known_fails b earlier d) y t u → IsNoted (failures_of_dynamic b (earlier, d)) (x && y) s u
both-parts b earlier d x y s t u h g = noted_as (path_fails b d ++ known_fails b earlier d) (failures_of_dynamic b (earlier, d)) (x && y) s u (in-two b earlier d) (both_noted (path_fails b d) (known_fails b earlier d) x y s t u h g)

first-some : (c : Bool) (x : Fault) (ys zs : List Fault) → c ≡ true → is_empty (when c x ++ ys ++ zs) ≡ false
first-some c x ys zs e = ap (λ b. is_empty (when b x ++ ys ++ zs)) e

pub unknown-part : (b : Nested) (earlier : List Dynamic) (d : Dynamic) (x : Bool) (s t : List Fault) → prop_of d.assigns ≡ None → IsNoted (unknown d.assigns ++ bad_indices d ++ no_target b d) x s t → IsNoted (failures_of_dynamic b (earlier, d)) false s t
unknown-part b earlier d x s t none h =
    let all : path_fails b d ≡ failures_of_dynamic b (earlier, d) = sym (append-nil (path_fails b d)) ∙ ap (λ fs. path_fails b d ++ fs) (sym (of-unknown b earlier d none)) ∙ in-two b earlier d in
    noted_as (path_fails b d) (failures_of_dynamic b (earlier, d)) false s t all (record { none = sym (first-some (is_none (prop_of d.assigns)) _ (bad_indices d) (no_target b d) (ap is_none none)); put = h.put })

and-more : (x y z : Bool) (o : Bool) → o ≡ ((x && z) && y) → o ≡ ((x && y) && z)
and-more true true z o e = e ∙ turn z
  where
    turn : (c : Bool) → (c && true) ≡ c
    turn true = refl
    turn false = refl
and-more true false z o e = e ∙ none z
  where
    none : (c : Bool) → (c && false) ≡ false
    none true = refl
    none false = refl
and-more false y z o e = e

-- the value's part between the others, of which the answer is the last
pub three-parts : (fs gs hs : List Fault) (x y z o : Bool) (s t u v : List Fault) → o ≡ ((x && z) && y) → IsNoted fs x s t → IsNoted gs y t u → IsNoted hs z u v → IsNoted (fs ++ gs ++ hs) o s v
three-parts fs gs hs x y z o s t u v e f g h =
    subst (λ b. IsNoted (fs ++ gs ++ hs) b s v) (sym (and-more x y z o e)) (both_noted (fs ++ gs) hs (x && y) z s u v (both_noted fs gs x y s t u f g) h)

-- Of the value.
pub value-part : (p : Prop) (a : Assignment) (r : Result Setting Fault) (o : Option Setting) (s t : List Fault) → outcome_in a.scope r ≡ meaning p a → prop_of a ≡ Some p → o ≡ result_ok r → t ≡ with_all (failures r) s → IsNoted (bad_value a) (is_some o) s t
value-part p a r o s t e named eo put =
    noted_as (failures r) (bad_value a) (is_some o) s t (fails r ∙ ap failures e ∙ sym (ap (λ q. flat_map (λ x. failures (meaning x a)) (option_to_list q)) named ∙ append-nil (failures (meaning p a)))) (record { none = ap is_some eo ∙ none r; put = put })
  where
    fails : (x : Result Setting Fault) → failures x ≡ failures (outcome_in a.scope x)
    fails (Ok y) = refl
    fails (Err f) = refl

    none : (x : Result Setting Fault) → is_some (result_ok x) ≡ is_empty (failures x)
    none (Ok y) = refl
    none (Err f) = refl

-- what is given is what the property's value says
pub given-known : (o : Option ValidAssignment) (v : Option Setting) (p : Prop) (P : ValidAssignment → Type 0) → IfSome o (λ g. (g.prop ≡ p) × (v ≡ Some g.setting)) → IfSome v (λ x. P (record { prop = p; setting = x })) → IfSome o P
given-known None v p P h k = tt
given-known (Some g) v p P h k = subst P (λ i. record { prop = sym h.0 i; setting = g.setting }) (subst (λ w. IfSome w (λ x. P (record { prop = p; setting = x }))) h.1 k)
