-- The items of one node more.
use Rattle.std.proofs.Common.{append_assoc, get_or, ◌≡◌, ◌∙◌, ◌⊎◌, inl, inr, ℕ, suc, ◌+◌, ◌<◌, ◌≤◌, ◌^◌, List, [], ◌∷◌, ◌++◌, length, flat_map, map, take, take_all, slice_get, Some, length-append, refl, sym, ap, subst, arith}
use Rattle.std.proofs.lemmas.List.{take_more}
use Rattle.std.proofs.lemmas.Grind.{flat_map-append}
use Rattle.plain_lemmas.proofs.Lists.{append-none as nothing-behind, get-front, get-last, map-append as mapped-both}
use Rattle.rb_base.specs.declared.place.Place.{Place}
use Rattle.rdl_tree.specs.declared.item.Kind.{Kind}
use Rattle.rdl_tree.specs.declared.node.Elab.{Elab}
use Rattle.rdl_values.specs.Elaborated.{nodes_of}
use Rattle.rdl_values.specs.Elaboration.{IsClean}
use Rattle.rdl_values.specs.Instances.{Instance, kind_of}
use Rattle.rdl_values.specs.Lineages.{Lineage, lineages_of}
use Rattle.rdl_refs.specs.declared.item.ItemOf.{ItemOf}
use Rattle.rdl_refs.specs.declared.item.What.{What}
use Rattle.rdl_refs.specs.Answers.{AreItemsOf}
use Rattle.rdl_refs.specs.Items.{Item, item_of, items, items_of, whats}
use Rattle.rdl_nodes.proofs.Members.{get-read, get-within}
use Rattle.rdl_sizes.proofs.Facts.{count-is, node-at}
use Rattle.rdl_bind.specs.declared.numbering.Numbers.{Numbers}
use Rattle.rdl_bind.specs.Places.{Adds}
use Rattle.rdl_bind.specs.Numbered.{AreNumbers, AreNumbersTo, first_of, items_to, place_of}

joined : (ns : List Instance) (xs ys : List ItemOf) (us vs : List Item) → AreItemsOf ns xs us → AreItemsOf ns ys vs → AreItemsOf ns (xs ++ ys) (us ++ vs)
joined ns [] ys [] vs h g = g
joined ns [] ys (u ∷ us) vs h g = absurd h
joined ns (x ∷ xs) ys [] vs h g = absurd h
joined ns (x ∷ xs) ys (u ∷ us) vs h g = (h.0, joined ns xs ys us vs h.1 g)

pub as-many : (ns : List Instance) (xs : List ItemOf) (us : List Item) → AreItemsOf ns xs us → length xs ≡ length us
as-many ns [] [] h = refl
as-many ns [] (u ∷ us) h = absurd h
as-many ns (x ∷ xs) [] h = absurd h
as-many ns (x ∷ xs) (u ∷ us) h = ap suc (as-many ns xs us h.1)

are-items : (ns : List Instance) (k : ℕ) (l : Lineage) (ws : List What) → slice_get ns k ≡ Some l.node → AreItemsOf ns (map (λ w. record { node = k; what = w }) ws) (map (item_of l) ws)
are-items ns k l [] here = tt
are-items ns k l (w ∷ ws) here = ((here, refl), are-items ns k l ws here)

their-place : (l : Lineage) (ws : List What) → map (λ w. l.node.use_.name.place) ws ≡ map place_of (map (item_of l) ws)
their-place l [] = refl
their-place l (w ∷ ws) = ap (λ ps. l.node.use_.name.place ∷ ps) (their-place l ws)

pub adds-none : (k : ℕ) (ws : List What) (p : Place) (is : List ItemOf) (ps : List Place) → Adds k (take 0 ws) p is is ps ps
adds-none k ws p is ps = record { items_ = sym (nothing-behind is); places_ = sym (nothing-behind ps) }

map-more : {X Y : Type 0} (f : X → Y) (xs : List X) (i : ℕ) (d : X) → i < length xs → (is js ks : List Y) → js ≡ is ++ map f (take i xs) → ks ≡ js ++ (f (get_or xs i d) ∷ []) → ks ≡ is ++ map f (take (i + 1) xs)
map-more f xs i d low is js ks before put =
    put
    ∙ (ap (λ ys. ys ++ (f (get_or xs i d) ∷ [])) before
    ∙ (append_assoc is (map f (take i xs)) (f (get_or xs i d) ∷ [])
    ∙ ap (λ ys. is ++ ys) (sym (mapped-both f (take i xs) (get_or xs i d ∷ [])) ∙ ap (map f) (sym (take_more xs i d low)))))

pub adds-more : (k : ℕ) (ws : List What) (p : Place) (is js ls : List ItemOf) (ps qs rs : List Place) (i : ℕ) (d : What) → i < length ws → Adds k (take i ws) p is js ps qs → ls ≡ js ++ (record { node = k; what = get_or ws i d } ∷ []) → rs ≡ qs ++ (p ∷ []) → Adds k (take (i + 1) ws) p is ls ps rs
adds-more k ws p is js ls ps qs rs i d low h put_item put_place = record {
  items_ = map-more (λ w. record { node = k; what = w }) ws i d low is js ls h.items_ put_item;
  places_ = map-more (λ w. p) ws i d low ps qs rs h.places_ put_place;
}

pub adds-all : (k : ℕ) (ws vs : List What) (p : Place) (is js : List ItemOf) (ps qs : List Place) (i : ℕ) → length ws ≤ i → ws ≡ vs → Adds k (take i ws) p is js ps qs → Adds k vs p is js ps qs
adds-all k ws vs p is js ps qs i past same h = subst (λ us. Adds k us p is js ps qs) (take_all i ws past ∙ same) h

pub no-items : (e : Elab) (is : List ItemOf) (ps : List Place) (fs : List ℕ) → is ≡ [] → ps ≡ [] → fs ≡ [] → AreNumbersTo e 0 is ps fs
no-items e is ps fs i p f = record {
  listed = subst (λ xs. AreItemsOf (nodes_of e) xs []) (sym i) tt;
  placed = p;
  many = ap length f;
  first = λ k l. absurd (omega (arith, l));
}

one-node : (e : Elab) (k : ℕ) (l : Lineage) → slice_get (lineages_of e) k ≡ Some l → (of : Kind) (place : Place) → of ≡ kind_of l.node → place ≡ l.node.use_.name.place
    → (start : ℕ) (is js : List ItemOf) (ps qs : List Place) (fs gs : List ℕ) → AreNumbersTo e k is ps fs → start ≡ length is → gs ≡ fs ++ (start ∷ []) → Adds k (whats of) place is js ps qs → AreNumbersTo e (k + 1) js qs gs
one-node e k l here of place kind at start is js ps qs fs gs h begins firsts_ puts = record {
  listed =
      subst (λ us. AreItemsOf (nodes_of e) js us) (sym more)
      (subst (λ xs. AreItemsOf (nodes_of e) xs (items_to (lineages_of e) k ++ items_of l)) (sym (puts.items_ ∙ ap (λ q. is ++ map (λ w. record { node = k; what = w }) (whats q)) kind))
      (joined (nodes_of e) is (map (λ w. record { node = k; what = w }) (whats (kind_of l.node))) (items_to (lineages_of e) k) (items_of l) h.listed (are-items (nodes_of e) k l (whats (kind_of l.node)) (node-at e k l here))));
  placed =
      puts.places_
      ∙ (ap (λ xs. xs ++ map (λ w. place) (whats of)) h.placed
      ∙ (ap (λ q. map place_of (items_to (lineages_of e) k) ++ map (λ w. q) (whats of)) at
      ∙ (ap (λ q. map place_of (items_to (lineages_of e) k) ++ map (λ w. l.node.use_.name.place) (whats q)) kind
      ∙ (ap (λ xs. map place_of (items_to (lineages_of e) k) ++ xs) (their-place l (whats (kind_of l.node)))
      ∙ (sym (mapped-both place_of (items_to (lineages_of e) k) (items_of l)) ∙ ap (map place_of) (sym more))))));
  many = (let s = length-append fs (start ∷ []) in let p = ap length firsts_ in let m = h.many in omega (arith, s, p, m));
  first = λ j low. subst (λ xs. slice_get xs j ≡ Some (first_of (lineages_of e) j)) (sym firsts_) (by j (split j low));
}
  where
    taken : take (k + 1) (lineages_of e) ≡ take k (lineages_of e) ++ (l ∷ [])
    taken = take_more (lineages_of e) k l (get-within (lineages_of e) k l here) ∙ ap (λ y. take k (lineages_of e) ++ (y ∷ [])) (get-read (lineages_of e) k l l here)

    more : items_to (lineages_of e) (k + 1) ≡ items_to (lineages_of e) k ++ items_of l
    more = ap (flat_map items_of) taken ∙ (flat_map-append items_of (take k (lineages_of e)) (l ∷ []) ∙ ap (λ xs. items_to (lineages_of e) k ++ xs) (nothing-behind (items_of l)))

    split : (j : ℕ) → j < k + 1 → (j ≡ k) ⊎ (j < k)
    split j low = grind (arith, low)

    by : (j : ℕ) → (j ≡ k) ⊎ (j < k) → slice_get (fs ++ (start ∷ [])) j ≡ Some (first_of (lineages_of e) j)
    by j (inr low) = get-front fs (start ∷ []) j (first_of (lineages_of e) j) (h.first j low)
    by j (inl q) =
        let index : j ≡ length fs = q ∙ sym h.many in
        let value : start ≡ first_of (lineages_of e) j = begins ∙ (as-many (nodes_of e) is (items_to (lineages_of e) k) h.listed ∙ ap (first_of (lineages_of e)) (sym q)) in
        ap (slice_get (fs ++ (start ∷ []))) index ∙ (get-last fs start ∙ ap Some value)

pub one-row : (e : Elab) (k n : ℕ) (l : Lineage) → slice_get (lineages_of e) k ≡ Some l → n ≡ k → (of : Kind) (place : Place) → of ≡ kind_of l.node → place ≡ l.node.use_.name.place
    → (start : ℕ) (is js : List ItemOf) (ps qs : List Place) (fs gs : List ℕ) → AreNumbersTo e k is ps fs → start ≡ length is → gs ≡ fs ++ (start ∷ []) → Adds n (whats of) place is js ps qs → AreNumbersTo e (k + 1) js qs gs
one-row e k n l here id of place kind at start is js ps qs fs gs h begins put puts = one-node e k l here of place kind at start is js ps qs fs gs h begins put (subst (λ m. Adds m (whats of) place is js ps qs) id puts)

pub all-nodes : (e : Elab) → IsClean e → (x : Numbers) (k : ℕ) → k ≡ length (lineages_of e) → AreNumbersTo e k x.items.items x.places.items x.firsts.items → length x.items.items < 2 ^ 32 → AreNumbers e x
unfolding items
all-nodes e clean x k whole h few =
    let count = count-is e clean in
    let taken : items_to (lineages_of e) k ≡ items (lineages_of e) = ap (flat_map items_of) (take_all k (lineages_of e) (omega (arith, whole))) in
    record {
      listed = subst (AreItemsOf (nodes_of e) x.items.items) taken h.listed;
      few = few;
      placed = h.placed ∙ ap (map place_of) taken;
      many = h.many ∙ (whole ∙ sym count);
      first = λ j low. h.first j (omega (arith, low, whole, count));
    }
