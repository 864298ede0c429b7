-- What one item more refers to, and what all do.
use Rattle.std.proofs.Common.{◌≡◌, ◌∙◌, inl, inr, ℕ, zero, suc, ◌+◌, ◌<◌, ◌≤◌, List, [], ◌∷◌, ◌++◌, get_or, length, map, take, take_all, Some, Vec, slice_get, slice_index_or, refl, sym, ap, subst, arith}
use Rattle.std.specs.Global.{Global}
use Rattle.std.proofs.lemmas.List.{map-append, take_more}
use Rattle.plain_lemmas.proofs.Lists.{length-map as mapped}
use Rattle.topological_order.specs.Levels.{AreWithin}
use Rattle.rdl_tree.specs.declared.node.Elab.{Elab}
use Rattle.rdl_values.specs.Elaborated.{nodes_of}
use Rattle.rdl_values.specs.Instances.{Instance, kind_of}
use Rattle.rdl_values.specs.Lineages.{lineages_of}
use Rattle.rdl_nodes.proofs.Members.{In, get-read, get-within, in-place, in-to, map-in, place-in}
use Rattle.rdl_sizes.proofs.Facts.{lineage-at}
use Rattle.rdl_members.proofs.Standing.{one-by-path}
use Rattle.rdl_refs.specs.declared.item.ItemOf.{ItemOf}
use Rattle.rdl_refs.specs.Answers.{AreItems, AreItemsOf, IsItemOf}
use Rattle.rdl_refs.specs.Follows.{edges_of, item_number, refers_to}
use Rattle.rdl_refs.specs.Items.{Item, items, whats}
use Rattle.rdl_bind.specs.Known.{IsItem, numbers_of}
use Rattle.rdl_bind.proofs.Among.{number-low, of-node, refers-among}

item-at : (ns : List Instance) (xs : List ItemOf) (is : List Item) → AreItemsOf ns xs is → (k : ℕ) (d : ItemOf) → k < length xs → (i : Item) × (slice_get is k ≡ Some i) × IsItemOf ns (get_or xs k d) i
item-at ns [] is h k d l = absurd (omega (arith, l))
item-at ns (x ∷ xs) [] h k d l = absurd h
item-at ns (x ∷ xs) (i ∷ is) h zero d l = (i, refl, h.0)
item-at ns (x ∷ xs) (i ∷ is) h (suc k) d l = item-at ns xs is h.1 k d (omega (arith, l))

as-many : (ns : List Instance) (xs : List ItemOf) (is : List Item) → AreItemsOf ns xs is → length xs ≡ length is
as-many ns [] [] h = refl
as-many ns [] (i ∷ is) h = absurd h
as-many ns (x ∷ xs) [] h = absurd h
as-many ns (x ∷ xs) (i ∷ is) h = ap suc (as-many ns xs is h.1)

-- the item of a number
known-item : (e : Elab) (xs : List ItemOf) → AreItems e xs → (k : ℕ) (d : ItemOf) → k < length xs → (i : Item) × (slice_get (items (lineages_of e)) k ≡ Some i) × IsItem e i (get_or xs k d)
known-item e xs are k d low =
    let f = item-at (nodes_of e) xs (items (lineages_of e)) are k d low in
    let i = f.0 in
    let q = of-node e i (place-in (items (lineages_of e)) k i f.1) in
    let l = q.0 in
    let node : l.node ≡ i.node = ap (λ (j : Item). j.node) q.3 in
    let ups : l.ancestors ≡ i.ancestors = ap (λ (j : Item). j.ancestors) q.3 in
    let at = in-place (lineages_of e) l q.1 in
    let m = lineage-at e (get_or xs k d).node i.node f.2.0 in
    let same = one-by-path e (get_or xs k d).node at.0 m.0 l m.1 at.2 (ap (λ n. n.path) (m.2 ∙ sym node)) in (
      i,
      f.1,
      record {
        here = m.1 ∙ ap Some (same ∙ (λ j. record { node = node j; ancestors = ups j }));
        what_ = f.2.1;
        has = in-to (whats (kind_of i.node)) i.what (subst (λ n. In (whats (kind_of n)) i.what) node q.2);
      },
    )

pub has-item : (e : Elab) (xs : List ItemOf) → AreItems e xs → (k : ℕ) (d : ItemOf) → k < length xs → (i : Item) × IsItem e i (get_or xs k d)
has-item e xs are k d low = let f = known-item e xs are k d low in (f.0, f.2)

-- the numbers of what the first items refer to
abbrev pub edges_to : Elab → ℕ → List (List ℕ)
edges_to e k = map (λ i. numbers_of e (refers_to (lineages_of e) i)) (take k (items (lineages_of e)))

pub one-list : (e : Elab) (xs : List ItemOf) → AreItems e xs → (k : ℕ) (d : ItemOf) → k < length xs → (vs new : List (List ℕ)) (v : List ℕ) → vs ≡ edges_to e k
    → ((i : Item) → IsItem e i (get_or xs k d) → v ≡ numbers_of e (refers_to (lineages_of e) i)) → new ≡ vs ++ (v ∷ []) → new ≡ edges_to e (k + 1)
one-list e xs are k d low vs new v before is put =
    let f = known-item e xs are k d low in
    let i = f.0 in
    let all = items (lineages_of e) in
    let taken : take (k + 1) all ≡ take k all ++ (i ∷ []) = take_more all k i (get-within all k i f.1) ∙ ap (λ y. take k all ++ (y ∷ [])) (get-read all k i i f.1) in
    put
    ∙ ((λ j. before j ++ (is i f.2 j ∷ []))
    ∙ (sym (map-append (λ i. numbers_of e (refers_to (lineages_of e) i)) (take k all) (i ∷ [])) ∙ ap (map (λ i. numbers_of e (refers_to (lineages_of e) i))) (sym taken)))

pub all-lists : (e : Elab) (xs : List ItemOf) → AreItems e xs → (k : ℕ) → length xs ≤ k → (vs : List (List ℕ)) → vs ≡ edges_to e k → vs ≡ edges_of (lineages_of e)
unfolding edges_of
all-lists e xs are k past vs h =
    let many = as-many (nodes_of e) xs (items (lineages_of e)) are in
    h ∙ ap (map (λ i. numbers_of e (refers_to (lineages_of e) i))) (take_all k (items (lineages_of e)) (omega (arith, past, many)))

-- Each number is that of an item.

list-of : (e : Elab) (is : List Item) (i k j : ℕ) → slice_get (slice_index_or (map (λ i. numbers_of e (refers_to (lineages_of e) i)) is) i []) k ≡ Some j → (x : Item) × In is x × In (numbers_of e (refers_to (lineages_of e) x)) j
list-of e [] i k j h = cc h
list-of e (x ∷ xs) zero k j h = (x, inl refl, place-in (numbers_of e (refers_to (lineages_of e) x)) k j h)
list-of e (x ∷ xs) (suc i) k j h = let q = list-of e xs i k j h in (q.0, inr q.1, q.2)

pub each-within : (e : Elab) (needs : List (List ℕ)) → needs ≡ edges_of (lineages_of e) → AreWithin needs
unfolding edges_of
each-within e needs same = subst AreWithin (sym same) (λ i k j h.
    let q = list-of e (items (lineages_of e)) i k j h in
    let r = map-in (item_number (lineages_of e)) (refers_to (lineages_of e) q.0) j q.2 in
    let low = number-low e r.0 (refers-among e q.0 q.1 r.0 r.1) in
    let many = mapped (λ i. numbers_of e (refers_to (lineages_of e) i)) (items (lineages_of e)) in
    subst (λ n. n < length (map (λ i. numbers_of e (refers_to (lineages_of e) i)) (items (lineages_of e)))) r.2 (subst (λ n. item_number (lineages_of e) r.0 < n) (sym many) low))
