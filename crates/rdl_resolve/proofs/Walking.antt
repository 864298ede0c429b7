-- A node more.
use Rattle.std.proofs.Common.{◌≡◌, ◌∙◌, ℕ, zero, suc, ◌+◌, ◌≤◌, ◌<◌, ◌⊎◌, inl, inr, List, [], ◌∷◌, ◌++◌, flat_map, length, take, slice_get, Some, Vec, refl, sym, ap, subst, arith, length-append}
use Rattle.std.specs.Global.{Global}
use Rattle.std.proofs.lemmas.List.{take_more}
use Rattle.std.proofs.lemmas.Grind.{flat_map-append}
use Rattle.plain_lemmas.proofs.Lists.{append-none as nothing-behind}
use Rattle.rdl_base.specs.declared.fault.Fault.{Fault}
use Rattle.rdl_props.specs.Table.{reference_props}
use Rattle.rdl_tree.specs.declared.node.Elab.{Elab}
use Rattle.rdl_values.specs.Elaborated.{nodes_of}
use Rattle.rdl_values.specs.Elaboration.{IsClean}
use Rattle.rdl_values.specs.Instances.{Instance}
use Rattle.rdl_nodes.proofs.Members.{get-read, get-within}
use Rattle.rdl_refs.specs.Items.{failures_r}
use Rattle.rdl_sizes.proofs.Facts.{count-is, nodes-many}
use Rattle.rdl_resolve.specs.declared.node.NamedItem.{NamedItem}
use Rattle.rdl_resolve.specs.declared.tree.NamedItems.{NamedItems}
use Rattle.rdl_resolve.specs.Named.{AddsAims, AreItemsNamed, AreNamed, AreNamedTo, all_named, named_at, node_faults}

abbrev Lists : Type 0
Lists = List (Vec NamedItem Global)

at-end : (vs : Lists) (v : Vec NamedItem Global) (k : ℕ) → k ≡ length vs → named_at (vs ++ (v ∷ [])) k ≡ v.items
at-end [] v zero e = refl
at-end [] v (suc k) e = absurd (omega (arith, e))
at-end (x ∷ xs) v zero e = absurd (omega (arith, e))
at-end (x ∷ xs) v (suc k) e = at-end xs v k (omega (arith, e))

before-end : (vs : Lists) (v : Vec NamedItem Global) (k : ℕ) → k < length vs → named_at (vs ++ (v ∷ [])) k ≡ named_at vs k
before-end [] v k l = absurd (omega (arith, l))
before-end (x ∷ xs) v zero l = refl
before-end (x ∷ xs) v (suc k) l = before-end xs v k (omega (arith, l))

pub no-nodes : (e : Elab) (items : Lists) (faults : List Fault) → items ≡ [] → faults ≡ [] → AreNamedTo e 0 items faults
no-nodes e items faults none clean = record { many = ap length none; each = λ k n l. absurd (omega (arith, l)); faults_ = clean }

-- the instance of a number
pub node-here : (e : Elab) → IsClean e → (k : ℕ) → k < e.count → (n : Instance) × (slice_get (nodes_of e) k ≡ Some n)
node-here e clean k l = has (nodes_of e) k (let c = count-is e clean in let m = nodes-many e in omega (arith, l, c, m))
  where
    has : (xs : List Instance) (k : ℕ) → k < length xs → (n : Instance) × (slice_get xs k ≡ Some n)
    has [] k l = absurd (omega (arith, l))
    has (x ∷ xs) zero l = (x, refl)
    has (x ∷ xs) (suc k) l = has xs k (omega (arith, l))

pub node-more : (e : Elab) (i : ℕ) (n : Instance) → slice_get (nodes_of e) i ≡ Some n → (items new : Lists) (v : Vec NamedItem Global) (faults failing : List Fault) → AreNamedTo e i items faults → AddsAims e n reference_props [] v.items faults failing → new ≡ items ++ (v ∷ []) → AreNamedTo e (i + 1) new failing
node-more e i n here items new v faults failing before adds pushed = record {
  many = (let s = length-append items (v ∷ []) in let p = ap length pushed in let m = before.many in omega (arith, s, p, m));
  each = λ k m low at. subst (λ vs. AreItemsNamed (nodes_of e) (named_at vs k) (all_named e m)) (sym pushed) (by k m at (split k low));
  faults_ =
      adds.faults_
      ∙ (ap (λ fs. fs ++ node_faults e n) before.faults_
      ∙ (ap (λ fs. flat_map (node_faults e) (take i (nodes_of e)) ++ fs) (sym (nothing-behind (node_faults e n)))
      ∙ (sym (flat_map-append (node_faults e) (take i (nodes_of e)) (n ∷ [])) ∙ ap (flat_map (node_faults e)) (sym taken))));
}
  where
    taken : take (i + 1) (nodes_of e) ≡ take i (nodes_of e) ++ (n ∷ [])
    taken = take_more (nodes_of e) i n (get-within (nodes_of e) i n here) ∙ ap (λ y. take i (nodes_of e) ++ (y ∷ [])) (get-read (nodes_of e) i n n here)

    split : (k : ℕ) → k < i + 1 → (k ≡ i) ⊎ (k < i)
    split k l = grind (arith, l)

    by : (k : ℕ) (m : Instance) → slice_get (nodes_of e) k ≡ Some m → (k ≡ i) ⊎ (k < i) → AreItemsNamed (nodes_of e) (named_at (items ++ (v ∷ [])) k) (all_named e m)
    by k m at (inr less) = subst (λ xs. AreItemsNamed (nodes_of e) xs (all_named e m)) (sym (before-end items v k (let q = before.many in omega (arith, less, q)))) (before.each k m less at)
    by k m at (inl q) =
        let one : Some n ≡ Some m = sym here ∙ (ap (slice_get (nodes_of e)) (sym q) ∙ at) in
        let same : n ≡ m = cc one in
        subst (λ xs. AreItemsNamed (nodes_of e) xs (all_named e m)) (sym (at-end items v k (let b = before.many in omega (arith, q, b)) ∙ adds.items_)) (subst (λ y. AreItemsNamed (nodes_of e) adds.added (all_named e y)) same adds.named)

pub all-nodes : (e : Elab) → IsClean e → (x : NamedItems) (i : ℕ) → e.count ≤ i → i ≤ e.count → AreNamedTo e i x.items.items x.faults.items → AreNamed e x
unfolding failures_r
all-nodes e clean x i past low h =
    let count = count-is e clean in
    let many = nodes-many e in
    record {
      many = (let m = h.many in omega (arith, m, past, low));
      each = λ k n at. h.each k n (let l = get-within (nodes_of e) k n at in omega (arith, l, count, many, past)) at;
      faults_ = h.faults_ ∙ ap (flat_map (node_faults e)) (whole (nodes_of e) i (omega (arith, count, many, past)));
    }
  where
    whole : (xs : List Instance) (i : ℕ) → length xs ≤ i → take i xs ≡ xs
    whole [] zero l = refl
    whole [] (suc i) l = refl
    whole (y ∷ ys) zero l = absurd (omega (arith, l))
    whole (y ∷ ys) (suc i) l = ap (λ zs. y ∷ zs) (whole ys i (omega (arith, l)))
