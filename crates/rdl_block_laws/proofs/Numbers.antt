-- Items by their numbers.
use Rattle.std.proofs.Common.{◌≡◌, ◌∙◌, ◌≢◌, inl, inr, ℕ, zero, suc, Bool, true, false, ◌&&◌, cond, List, [], ◌∷◌, find, slice_get, Some, refl, sym, ap, subst}
use Rattle.std.specs.List.{AllByRecursion}
use Rattle.std.proofs.lemmas.List.Folds.{find_at}
use Rattle.plain_lemmas.proofs.Bools.{and-both}
use Rattle.rdl_values.specs.Instances.{Instance, kind_of}
use Rattle.rdl_values.specs.Lineages.{Lineage, lineages, nodes_in}
use Rattle.rdl_layers.specs.Assignments.{same_path}
use Rattle.rdl_refs.specs.declared.item.What.{What}
use Rattle.rdl_refs.specs.Follows.{is_item, item_number}
use Rattle.rdl_refs.specs.Items.{Item, item_of, items, items_of, same_what, whats}
use Rattle.rdl_refs.proofs.OneTarget.{is_same_path}
use Rattle.rdl_nodes.proofs.Apart.{Apart}
use Rattle.rdl_nodes.proofs.Lineages.{all_nodes}
use Rattle.rdl_nodes.proofs.Paths.{nodes_apart}
use Rattle.rdl_nodes.proofs.Members.{In, each-in, flat-in, in-flat, in-map, in-place, map-in, place-in}
use Rattle.rdl_layers.proofs.Spared.{same-self}
use Rattle.rdl_ref_items.proofs.NamedItems.{is-what, what-refl}

-- An item of a node with its ancestors.
pub record Stands (all : List Lineage) (i : Item) : Type 0 where
  pub lineage : Lineage
  pub here : In all lineage
  pub is : item_of lineage i.what ≡ i
  pub has : In (whats (kind_of lineage.node)) i.what

pub stands : (all : List Lineage) (i : Item) → In (items all) i → Stands all i
unfolding items
stands all i h =
    let l = flat-in items_of all i h in
    let w = map-in (item_of l.0) (whats (kind_of l.0.node)) i l.2 in
    let what_ : w.0 ≡ i.what = ap (λ (x : Item). x.what) w.2 in
    record { lineage = l.0; here = l.1; is = ap (item_of l.0) (sym what_) ∙ w.2; has = subst (In (whats (kind_of l.0.node))) what_ w.1 }

pub among : (all : List Lineage) (l : Lineage) (w : What) → In all l → In (whats (kind_of l.node)) w → In (items all) (item_of l w)
unfolding items
among all l w h k = in-flat items_of all l (item_of l w) h (in-map (item_of l) (whats (kind_of l.node)) w k)

pub item-refl : (i : Item) → is_item i i ≡ true
item-refl i = ap (λ b. b && same_what i.what i.what) (same-self i.node.path) ∙ what-refl i.what

finds : {X : Type 0} (p : X → Bool) (xs : List X) (x : X) → In xs x → p x ≡ true → (y : X) × (find p xs ≡ Some y) × (p y ≡ true) × In xs y
finds p [] x h t = absurd h
finds p (z ∷ zs) x h t = go (p z) refl h (λ i. finds p zs x i t)
  where
    go : (b : Bool) → p z ≡ b → In (z ∷ zs) x → (In zs x → (y : _) × (find p zs ≡ Some y) × (p y ≡ true) × In zs y) → (y : _) × (find p (z ∷ zs) ≡ Some y) × (p y ≡ true) × In (z ∷ zs) y
    go true e i more = (z, ap (λ b. cond b (Some z) (find p zs)) e, e, inl refl)
    go false e (inl q) more = absurd (let s : true ≡ false = sym t ∙ (ap p (sym q) ∙ e) in cc s)
    go false e (inr i) more = let m = more i in (m.0, ap (λ b. cond b (Some z) (find p zs)) e ∙ m.1, m.2, inr m.3)

pub apart-index : {X Y : Type 0} (f : X → Y) (xs : List X) → Apart (λ a b. f a ≢ f b) xs → (i j : ℕ) (a b : X) → slice_get xs i ≡ Some a → slice_get xs j ≡ Some b → f a ≡ f b → i ≡ j
apart-index f [] h i j a b p q e = cc p
apart-index f (x ∷ xs) h zero zero a b p q e = refl
apart-index f (x ∷ xs) h zero (suc j) a b p q e = let s : x ≡ a = cc p in absurd (each-in (λ y. f x ≢ f y) xs b h.0 (place-in xs j b q) (ap f s ∙ e))
apart-index f (x ∷ xs) h (suc i) zero a b p q e = let s : x ≡ b = cc q in absurd (each-in (λ y. f x ≢ f y) xs a h.0 (place-in xs i a p) (ap f s ∙ sym e))
apart-index f (x ∷ xs) h (suc i) (suc j) a b p q e = ap suc (apart-index f xs h.1 i j a b p q e)

pub node-lineages : (ls : List Lineage) → Apart (λ (a b : Instance). a.path ≢ b.path) (nodes_in ls) → Apart (λ (a b : Lineage). a.node.path ≢ b.node.path) ls
node-lineages [] h = tt
node-lineages (l ∷ ls) h = (go ls h.0, node-lineages ls h.1)
  where
    go : (ms : List Lineage) → AllByRecursion (λ (n : Instance). l.node.path ≢ n.path) (nodes_in ms) → AllByRecursion (λ (m : Lineage). l.node.path ≢ m.node.path) ms
    go [] g = tt
    go (m ∷ ms) g = (g.0, go ms g.1)

pub same-lineage : (wanted : _) (s : _) (l m : Lineage) → In (lineages wanted s) l → In (lineages wanted s) m → l.node.path ≡ m.node.path → l ≡ m
same-lineage wanted s l m h g q =
    let apart = node-lineages (lineages wanted s) (subst (Apart (λ (a b : Instance). a.path ≢ b.path)) (sym (all_nodes wanted s)) (nodes_apart wanted s)) in
    let a = in-place (lineages wanted s) l h in
    let b = in-place (lineages wanted s) m g in
    let index = apart-index (λ (n : Lineage). n.node.path) (lineages wanted s) apart a.0 b.0 l m a.2 b.2 q in
    let one : Some l ≡ Some m = sym a.2 ∙ (ap (slice_get (lineages wanted s)) index ∙ b.2) in cc one

-- an item stands at its number
pub at-number : (wanted : _) (s : _) (i : Item) → In (items (lineages wanted s)) i → slice_get (items (lineages wanted s)) (item_number (lineages wanted s) i) ≡ Some i
at-number wanted s i h =
    let all = lineages wanted s in
    let f = finds (is_item i) (items all) i h (item-refl i) in
    let parts = and-both (same_path i.node.path f.0.node.path) (same_what i.what f.0.what) f.2 in
    let mine = stands all i h in
    let theirs = stands all f.0 f.3 in
    let path : mine.lineage.node.path ≡ theirs.lineage.node.path = ap (λ (x : Item). x.node.path) mine.is ∙ is_same_path i.node.path f.0.node.path parts.0 ∙ sym (ap (λ (x : Item). x.node.path) theirs.is) in
    let one : f.0 ≡ i = sym theirs.is ∙ ap (λ l. item_of l f.0.what) (sym (same-lineage wanted s mine.lineage theirs.lineage mine.here theirs.here path)) ∙ ap (item_of mine.lineage) (sym (is-what i.what f.0.what parts.1)) ∙ mine.is in
    sym (find_at (is_item i) (items all)) ∙ f.1 ∙ ap Some one
