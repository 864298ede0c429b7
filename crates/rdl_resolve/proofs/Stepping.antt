-- A reference, step by step.
use Rattle.std.proofs.Common.{◌≡◌, ◌∙◌, ℕ, zero, suc, ◌+◌, ◌-◌, ◌<◌, ◌≤◌, ◌&&◌, Bool, true, false, cond, List, [], ◌∷◌, bytes_eq, length, get_or, take, drop, filter, flat_map, drop-cons, length-drop, take_all, add-one, Option, None, Some, inl, inr, option_and_then, option_map, option_to_list, slice_get, Ok, Err, refl, sym, ap, subst, arith}
use Rattle.std.specs.Result.{result_ok}
use Rattle.plain_lemmas.proofs.Lists.{bytes_eq-swap as turned, filter-none}
use Rattle.rdl_tree.specs.declared.expr.Expr.{Expr}
use Rattle.rdl_tree.specs.declared.expr.Step.{Step}
use Rattle.rdl_tree.specs.declared.node.Elab.{Elab}
use Rattle.rdl_values.specs.Elaborated.{index_of, top_name}
use Rattle.rdl_values.specs.Elaboration.{IsClean}
use Rattle.rdl_values.specs.Instances.{Instance, nodes}
use Rattle.rdl_values.specs.Lineages.{Lineage, children_in, lineages_of}
use Rattle.rdl_values.specs.Uses.{values}
use Rattle.rdl_values.specs.Values.{Around, Outcome, number_of, then}
use Rattle.rdl_layers.specs.Assignments.{is_index, led_down, same_path}
use Rattle.rdl_node_lists.specs.Listed.{first_listed}
use Rattle.rdl_nodes.proofs.Lineages.{all_nodes}
use Rattle.rdl_nodes.proofs.Paths.{Differ, nodes_apart}
use Rattle.rdl_nodes.proofs.Members.{In, place-in}
use Rattle.rdl_refs.specs.Leads.{members_of}
use Rattle.rdl_refs.proofs.OneTarget.{AtMost, is_same_path, of_nodes, one_passes, same_passing}
use Rattle.rdl_bits.proofs.Filtered.{in-kept}
use Rattle.rdl_sizes.proofs.Facts.{count-is}
use Rattle.rdl_members.specs.declared.table.Members.{Members}
use Rattle.rdl_members.proofs.Standing.{same-path-itself}
use Rattle.rdl_members.specs.Found.{AreMembersOf, is_element, members_at}
use Rattle.rdl_resolve.specs.Led.{IsLed, further, is_exactly}

filter-same : {X : Type 0} (p q : X → Bool) (xs : List X) → ((x : X) → p x ≡ q x) → filter p xs ≡ filter q xs
filter-same p q [] h = refl
filter-same p q (x ∷ xs) h = (λ i. cond (h x i) (x ∷ filter-same p q xs h i) (filter-same p q xs h i))

-- the indices of a step, if it has some
these : (o : Outcome (List ℕ)) (ns index : List ℕ) → Some ns ≡ result_ok o → bytes_eq index ns ≡ is_index o index
these (Ok ms) ns index e = let same : ns ≡ ms = cc e in turned index ns ∙ ap (λ ks. bytes_eq ks index) same
these (Err f) ns index e = cc e

no-index : (o : Outcome (List ℕ)) (index : List ℕ) → None ≡ result_ok o → is_index o index ≡ false
no-index (Ok ns) index e = cc e
no-index (Err f) index e = refl

and-false : (b : Bool) → b && false ≡ false
and-false true = refl
and-false false = refl

pub with-indices : (e : Elab) (env : Around) (t : Step) (ns : List ℕ) (ls : List Lineage) (r : Option ℕ) → Some ns ≡ result_ok (values env t.index.now) → option_to_list (option_and_then (slice_get (lineages_of e)) r) ≡ filter (λ l. is_element t.name.text.now ns l.node) ls → ((k : ℕ) → r ≡ Some k → k < e.count)
    → IsLed e r (filter (is_exactly env t) ls)
with-indices e env t ns ls r index found stands = record {
  node_ = found ∙ filter-same (λ l. is_element t.name.text.now ns l.node) (is_exactly env t) ls (λ l i. turned l.node.use_.name.text.now t.name.text.now i && these (values env t.index.now) ns (index_of l.node.path) index i);
  stands = stands;
}

pub without-indices : (e : Elab) (env : Around) (t : Step) (ls : List Lineage) → None ≡ result_ok (values env t.index.now) → IsLed e None (filter (is_exactly env t) ls)
without-indices e env t ls none = record {
  node_ = sym (filter-none (is_exactly env t) ls (λ l. ap (λ b. bytes_eq t.name.text.now l.node.use_.name.text.now && b) (no-index (values env t.index.now) (index_of l.node.path) none) ∙ and-false (bytes_eq t.name.text.now l.node.use_.name.text.now)));
  stands = λ k h. cc h;
}

-- as many values as there are indices
values-many : (env : Around) (xs : List Expr) (ns : List ℕ) → values env xs ≡ Ok ns → length ns ≡ length xs
values-many env [] ns h = let none : [] ≡ ns = cc h in ap length (sym none)
values-many env (x ∷ xs) ns h = go (number_of env x) (values env xs) (λ ms. values-many env xs ms) h
  where
    go : (o : Outcome ℕ) (v : Outcome (List ℕ)) → ((ms : List ℕ) → v ≡ Ok ms → length ms ≡ length xs) → (then o λ n. then v λ ms. Ok (n ∷ ms)) ≡ Ok ns → length ns ≡ suc (length xs)
    go (Ok n) (Ok ms) ih e = let same : n ∷ ms ≡ ns = cc e in ap length (sym same) ∙ ap suc (ih ms refl)
    go (Ok n) (Err f) ih e = cc e
    go (Err f) v ih e = cc e

-- a step with more indices than any node leads to none
pub too-many : (e : Elab) (env : Around) (t : Step) (b : ℕ) (m : Members) → AreMembersOf e m → b ≤ e.count → m.most < length t.index.now → IsLed e None (filter (is_exactly env t) (members_at (lineages_of e) b))
too-many e env t b m are low many = by (values env t.index.now) refl
  where
    none-there : (ns : List ℕ) (o : Option ℕ) → values env t.index.now ≡ Ok ns → first_listed m.elements (record { body = b; name = t.name.text.now; index = ns }) ≡ o → o ≡ None
    none-there ns None q h = refl
    none-there ns (Some k) q h =
        let few = are.few b t.name.text.now ns k h in
        let as-many = values-many env t.index.now ns q in
        absurd (omega (arith, few, as-many, many))

    by : (o : Outcome (List ℕ)) → values env t.index.now ≡ o → IsLed e None (filter (is_exactly env t) (members_at (lineages_of e) b))
    by (Err f) q = without-indices e env t (members_at (lineages_of e) b) (sym (ap result_ok q))
    by (Ok ns) q =
        let none = none-there ns (first_listed m.elements (record { body = b; name = t.name.text.now; index = ns })) q refl in
        with-indices e env t ns (members_at (lineages_of e) b) None (sym (ap result_ok q))
        (ap (λ o. option_to_list (option_and_then (slice_get (lineages_of e)) o)) (sym none) ∙ are.found b t.name.text.now ns low) (λ k h. cc h)

one-only : {X : Type 0} (xs : List X) (x : X) → AtMost xs → In xs x → xs ≡ x ∷ []
one-only [] x a h = absurd h
one-only (y ∷ []) x a (inl e) = ap (λ z. z ∷ []) e
one-only (y ∷ []) x a (inr h) = absurd h
one-only (y ∷ z ∷ zs) x a h = absurd a

-- the nodes in the body of a node of a number
own-body : (e : Elab) (k : ℕ) (l : Lineage) → slice_get (lineages_of e) k ≡ Some l → members_at (lineages_of e) k ≡ flat_map children_in (l ∷ [])
own-body e k l here =
    let w = Some (top_name e) in
    let s = e.source.now in
    let same : Instance → Bool = λ n. same_path n.path l.node.path in
    let all = lineages_of e in
    let few = one_passes Differ same (nodes w s) (nodes_apart w s) (λ x y p q n. n (is_same_path x.path l.node.path p ∙ sym (is_same_path y.path l.node.path q))) in
    let one = one-only (filter (λ n. same n.node) all) l (of_nodes (filter (λ n. same n.node) all) (subst AtMost (sym (same_passing same all ∙ ap (filter same) (all_nodes w s))) few)) (in-kept (λ n. same n.node) all l (place-in all k l here) (same-path-itself l.node.path)) in
    ap (λ o. members_of all (option_map (λ q. q.node.path) o)) here ∙ ap (flat_map children_in) one

-- in the body of one that was found
pub from-one : (e : Elab) → IsClean e → (k : ℕ) (ls : List Lineage) → IsLed e (Some k) ls → (k ≤ e.count) × (members_at (lineages_of e) k ≡ flat_map children_in ls)
from-one e clean k ls h = (let l = h.stands k refl in omega (arith, l), by (slice_get (lineages_of e) k) refl)
  where
    within : k < length (lineages_of e)
    within = let l = h.stands k refl in let c = count-is e clean in omega (arith, l, c)

    by : (o : Option Lineage) → slice_get (lineages_of e) k ≡ o → members_at (lineages_of e) k ≡ flat_map children_in ls
    by (Some l) at = own-body e k l at ∙ ap (flat_map children_in) (sym (ap option_to_list at) ∙ h.node_)
    by None none = absurd (has (lineages_of e) k within none)
      where
        has : {X : Type 0} (xs : List X) (k : ℕ) → k < length xs → slice_get xs k ≡ None → ⊥
        has [] k l q = omega (arith, l)
        has (x ∷ xs) zero l q = cc q
        has (x ∷ xs) (suc k) l q = has xs k (omega (arith, l)) q

pub from-none : (e : Elab) (ls : List Lineage) (t : Lineage → Bool) → IsLed e None ls → IsLed e None (filter t (flat_map children_in ls))
from-none e ls t h = record { node_ = ap (λ ms. filter t (flat_map children_in ms)) h.node_; stands = λ k q. cc q }

-- All steps.

led-first : (is : Step → Lineage → Bool) (ls : List Lineage) (t : Step) (ts : List Step) → further is (filter (is t) ls) ts ≡ led_down children_in is ls (t ∷ ts)
led-first is ls t [] = refl
led-first is ls t (u ∷ ts) = led-first is (flat_map children_in (filter (is t) ls)) u ts

pub further-more : (is : Step → Lineage → Bool) (ls : List Lineage) (ts : List Step) (i : ℕ) (d : Step) → i < length ts → further is ls (drop i ts) ≡ further is (filter (is (get_or ts i d)) (flat_map children_in ls)) (drop (i + 1) ts)
further-more is ls ts i d l = ap (further is ls) (drop-cons ts i d l) ∙ ap (λ n. further is (filter (is (get_or ts i d)) (flat_map children_in ls)) (drop n ts)) (sym (add-one i))

pub none-led : (is : Step → Lineage → Bool) (ls : List Lineage) (ts : List Step) → length ts < 1 → [] ≡ led_down children_in is ls ts
none-led is ls [] l = refl
none-led is ls (t ∷ ts) l = absurd (omega (arith, l))

rest-all : (ts : List Step) → take (length ts - 1) (drop 1 ts) ≡ drop 1 ts
rest-all ts = let n = length-drop 1 ts in take_all (length ts - 1) (drop 1 ts) (omega (arith, n))

first-led' : (is : Step → Lineage → Bool) (ls : List Lineage) (ts : List Step) (d : Step) → 1 ≤ length ts → further is (filter (is (get_or ts 0 d)) ls) (drop 1 ts) ≡ led_down children_in is ls ts
first-led' is ls [] d l = absurd (omega (arith, l))
first-led' is ls (t ∷ ts) d l = led-first is ls t ts

pub first-led : (is : Step → Lineage → Bool) (ls : List Lineage) (ts : List Step) (d : Step) → 1 ≤ length ts → further is (filter (is (get_or ts 0 d)) ls) (take (length ts - 1) (drop 1 ts)) ≡ led_down children_in is ls ts
first-led is ls ts d l = ap (further is (filter (is (get_or ts 0 d)) ls)) (rest-all ts) ∙ first-led' is ls ts d l

pub nowhere : (e : Elab) {ls : List Lineage} → ls ≡ [] → IsLed e None ls
nowhere e is = record { node_ = sym is; stands = λ k q. cc q }
