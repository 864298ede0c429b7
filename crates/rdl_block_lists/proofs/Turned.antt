-- Items by their numbers, and what they are in the block.
use Rattle.std.proofs.Common.{◌≡◌, ◌∙◌, inl, inr, ℕ, zero, suc, ◌<◌, Bool, true, false, ◌||◌, cond, List, [], ◌∷◌, append-nil, flat_map, get_or, length, map, option_to_list, Some, slice_get, slice_index_or, refl, sym, ap, subst, arith}
use Rattle.std.specs.List.{AllByRecursion}
use Rattle.std.proofs.lemmas.List.{length-map}
use Rattle.rdl_tree.specs.declared.item.Kind.{Kind}
use Rattle.rdl_tree.specs.declared.item.Kind.TheVariants as kind
use Rattle.rdl_tree.specs.declared.node.Elab.{Elab}
use Rattle.rdl_values.specs.Elaborated.{nodes_of, top_name}
use Rattle.rdl_values.specs.Instances.{Instance, kind_of, upto}
use Rattle.rdl_values.specs.Lineages.{Lineage, lineages_of}
use Rattle.rdl_values.specs.Parts.{is_unit}
use Rattle.rdl_nodes.proofs.Members.{In, in-from, in-to, place-in}
use Rattle.rdl_sizes.proofs.Facts.{lineage-at}
use Rattle.plain_lemmas.proofs.Lists.{each-append, each-imp}
use Rattle.std.proofs.lemmas.List.Sorted.{Contains-permutation}
use Rattle.rdl_refs.specs.Answers.{AreItems, AreItemsOf, IsItemOf}
use Rattle.rdl_refs.specs.declared.item.ItemOf.{ItemOf}
use Rattle.rdl_refs.specs.declared.item.What.TheVariants as what
use Rattle.rdl_refs.specs.Follows.{edges_of, is_in_alias, is_missing, item_number, refers_to}
use Rattle.rdl_refs.specs.Graph.{IsOrder}
use Rattle.rdl_refs.specs.Items.{Item, items, whats}
use Rattle.rdl_ref_items.specs.Named.{IsItemAt}
use Rattle.rb_model.specs.declared.kinds.RefItem.{RefItem}
use Rattle.rdl_rules.specs.Feeds.{ref_to}
use Rattle.rdl_block_laws.specs.Ordered.{shown_as}
use Rattle.rdl_block_laws.proofs.Numbers.{same-lineage, stands}

-- What an item is in the block.

pub aliased-none : (all : List Lineage) (i : Item) → is_in_alias i ≡ true → [] ≡ shown_as all i
aliased-none all i e = go (is_missing i) e
  where
    go : (m : Bool) → is_in_alias i ≡ true → [] ≡ cond (m || is_in_alias i) [] (ref_to all i ∷ [])
    go true q = refl
    go false q = sym (ap (λ t. cond t [] (ref_to all i ∷ [])) q)

pub there-one : (all : List Lineage) (i : Item) → is_missing i ≡ false → is_in_alias i ≡ false → ref_to all i ∷ [] ≡ shown_as all i
there-one all i m a = sym (ap (λ t. cond (t || is_in_alias i) [] (ref_to all i ∷ [])) m ∙ ap (λ t. cond t [] (ref_to all i ∷ [])) a)

-- Items by number.

item-at : (ns : List Instance) (xs : List ItemOf) (is : List Item) → AreItemsOf ns xs is → (k : ℕ) (d : ItemOf) → k < length xs → (i : Item) × (slice_get is k ≡ Some i) × IsItemOf ns (slice_index_or xs k d) i
item-at ns [] is h k d l = absurd (omega (arith, l))
item-at ns (x ∷ xs) [] h k d l = absurd h
item-at ns (x ∷ xs) (i ∷ is) h zero d l = (i, refl, h.0)
item-at ns (x ∷ xs) (i ∷ is) h (suc k) d l = item-at ns xs is h.1 k d (omega (arith, l))

pub as-many : (ns : List Instance) (xs : List ItemOf) (is : List Item) → AreItemsOf ns xs is → length xs ≡ length is
as-many ns [] [] h = refl
as-many ns [] (i ∷ is) h = absurd h
as-many ns (x ∷ xs) [] h = absurd h
as-many ns (x ∷ xs) (i ∷ is) h = ap suc (as-many ns xs is h.1)

unit-value : (k : Kind) → In (whats k) what.Value → is_unit k ≡ true
unit-value kind.Signal h = refl
unit-value kind.Field h = refl
unit-value kind.Reg (inl q) = cc q
unit-value kind.Reg (inr (inl q)) = cc q
unit-value kind.Reg (inr (inr q)) = absurd q
unit-value kind.Addrmap h = absurd h
unit-value kind.Regfile h = absurd h

-- the item of a number
pub record IsKnown (e : Elab) (k : ℕ) (x : ItemOf) : Type 0 where
  pub item_ : Item
  pub here : slice_get (items (lineages_of e)) k ≡ Some item_
  pub at : IsItemAt e item_ x

pub known-item : (e : Elab) (xs : List ItemOf) → AreItems e xs → (k : ℕ) (d : ItemOf) → k < length xs → IsKnown e k (slice_index_or xs k d)
known-item e xs are k d low =
    let f = item-at (nodes_of e) xs (items (lineages_of e)) are k d low in
    let i = f.0 in
    let x = slice_index_or xs k d in
    let st = stands (lineages_of e) i (place-in (items (lineages_of e)) k i f.1) in
    let m = lineage-at e x.node i.node f.2.0 in
    let node : st.lineage.node ≡ i.node = ap (λ (j : Item). j.node) st.is in
    let ups : st.lineage.ancestors ≡ i.ancestors = ap (λ (j : Item). j.ancestors) st.is in
    let same = same-lineage (Some (top_name e)) e.source.now m.0 st.lineage (place-in (lineages_of e) x.node m.0 m.1) st.here (ap (λ (n : Instance). n.path) (m.2 ∙ sym node)) in
    record {
      item_ = i;
      here = f.1;
      at = record {
        here = m.1 ∙ ap Some (same ∙ (λ j. record { node = node j; ancestors = ups j }));
        what_ = f.2.1;
        value = λ q. unit-value (kind_of i.node) (subst (In (whats (kind_of i.node))) q (subst (λ n. In (whats (kind_of n)) i.what) node st.has));
      };
    }

-- Numbers in turn.

abbrev pub shown_by : Elab → ℕ → List RefItem
shown_by e k = flat_map (shown_as (lineages_of e)) (option_to_list (slice_get (items (lineages_of e)) k))

pub shown-one : (e : Elab) (k : ℕ) (i : Item) → slice_get (items (lineages_of e)) k ≡ Some i → shown_by e k ≡ shown_as (lineages_of e) i
shown-one e k i h = ap (λ o. flat_map (shown_as (lineages_of e)) (option_to_list o)) h ∙ append-nil (shown_as (lineages_of e) i)

below : (n : ℕ) → AllByRecursion (λ k. k < n) (upto n)
below zero = tt
below (suc n) = each-append (λ k. k < suc n) (upto n) (n ∷ []) (each-imp (λ k. k < n) (λ k. k < suc n) (upto n) (λ k l. omega (arith, l)) (below n)) (omega arith, tt)

each-of : {X : Type 0} (P : X → Type 0) (xs : List X) (x : X) → AllByRecursion P xs → In xs x → P x
each-of P [] x h i = absurd i
each-of P (y ∷ ys) x h (inl e) = subst P e h.0
each-of P (y ∷ ys) x h (inr i) = each-of P ys x h.1 i

-- a number in an order is that of an item
pub numbered : (e : Elab) (ks : List ℕ) → IsOrder (edges_of (lineages_of e)) ks → (j k : ℕ) → slice_get ks j ≡ Some k → k < length (items (lineages_of e))
unfolding edges_of
numbered e ks order j k h =
    let n = length (edges_of (lineages_of e)) in
    let i = in-from (upto n) k (Contains-permutation ks (upto n) k order.each_once (in-to ks k (place-in ks j k h))) in
    let l = each-of (λ m. m < n) (upto n) k (below n) i in
    let many : n ≡ length (items (lineages_of e)) = length-map (items (lineages_of e)) (λ i. map (item_number (lineages_of e)) (refers_to (lineages_of e) i)) in
    omega (arith, l, many)

pub reads-at : (ks : List ℕ) (j d : ℕ) → j < length ks → slice_get ks j ≡ Some (get_or ks j d)
reads-at [] j d l = absurd (omega (arith, l))
reads-at (k ∷ ks) zero d l = refl
reads-at (k ∷ ks) (suc j) d l = reads-at ks j d (omega (arith, l))
