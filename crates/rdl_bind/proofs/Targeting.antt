-- One item more, and one node more.
use Rattle.std.proofs.Common.{◌≡◌, ◌∙◌, ◌⊎◌, inl, inr, ℕ, zero, suc, ◌+◌, ◌<◌, ◌≤◌, List, [], ◌∷◌, ◌++◌, get_or, length, length-append, take, take_all, slice_get, Contains, Some, Vec, refl, sym, ap, subst, arith}
use Rattle.std.specs.Global.{Global}
use Rattle.std.proofs.lemmas.List.{take_more}
use Rattle.rdl_props.specs.declared.prop.Prop.{Prop}
use Rattle.rdl_tree.specs.declared.node.Elab.{Elab}
use Rattle.rdl_values.specs.Elaborated.{nodes_of}
use Rattle.rdl_values.specs.Elaboration.{IsClean}
use Rattle.rdl_values.specs.Instances.{Instance, kind_of}
use Rattle.rdl_values.specs.Lineages.{lineages_of}
use Rattle.rdl_nodes.proofs.Members.{get-read, get-within}
use Rattle.rdl_sizes.proofs.Facts.{count-is, nodes-many}
use Rattle.rdl_refs.specs.declared.refs.Target.{Target}
use Rattle.rdl_refs.specs.Answers.{IsItemOf, TargetAt}
use Rattle.rdl_refs.specs.Follows.{item_number}
use Rattle.rdl_refs.specs.Items.{Item, whats}
use Rattle.rdl_refs.specs.Tables.{item_at, list_at}
use Rattle.rdl_resolve.specs.declared.node.NamedItem.{NamedItem}
use Rattle.rdl_resolve.specs.Named.{AreItemsNamed, all_named, named_at}
use Rattle.rdl_bind.specs.Targeted.{AllHave, AreListed, AreNumbered, AreTargetsTo, Has}
use Rattle.rdl_bind.proofs.Having.{all-have}
use Rattle.rdl_bind.proofs.TargetLists.{is-number}

as-many : (ns : List Instance) (xs : List NamedItem) (ys : List (Prop × Item)) → AreItemsNamed ns xs ys → length xs ≡ length ys
as-many ns [] [] h = refl
as-many ns [] (y ∷ ys) h = absurd h
as-many ns (x ∷ xs) [] h = absurd h
as-many ns (x ∷ xs) (y ∷ ys) h = ap suc (as-many ns xs ys h.2)

-- what is known of the item at a place
abbrev IsAt : List Instance → NamedItem → List (Prop × Item) → ℕ → Type 0
IsAt ns x ys i = (y : Prop × Item) × (slice_get ys i ≡ Some y) × (x.prop ≡ y.0) × IsItemOf ns x.item y.1 × Has y

item-at-place : (ns : List Instance) (xs : List NamedItem) (ys : List (Prop × Item)) → AreItemsNamed ns xs ys → AllHave ys → (i : ℕ) (d : NamedItem) → i < length xs → IsAt ns (get_or xs i d) ys i
item-at-place ns [] ys h g i d l = absurd (omega (arith, l))
item-at-place ns (x ∷ xs) [] h g i d l = absurd h
item-at-place ns (x ∷ xs) (y ∷ ys) h g zero d l = (y, refl, h.0, h.1, g.0)
item-at-place ns (x ∷ xs) (y ∷ ys) h g (suc i) d l = item-at-place ns xs ys h.2 g.1 i d (omega (arith, l))

put-behind : (e : Elab) (ts : List Target) (ys : List (Prop × Item)) (t : Target) (y : Prop × Item) → AreNumbered e ts ys → t.prop ≡ y.0 → t.item ≡ item_number (lineages_of e) y.1 → AreNumbered e (ts ++ (t ∷ [])) (ys ++ (y ∷ []))
put-behind e [] [] t y h p q = (p, q, tt)
put-behind e [] (z ∷ zs) t y h p q = absurd h
put-behind e (u ∷ us) [] t y h p q = absurd h
put-behind e (u ∷ us) (z ∷ zs) t y h p q = (h.0, h.1, put-behind e us zs t y h.2 p q)

-- an item's number is the one that was found
abbrev pub IsFound : Elab → NamedItem → ℕ → Type 0
IsFound e x k = (i : Item) → IsItemOf (nodes_of e) x.item i → Contains (whats (kind_of i.node)) i.what → Some k ≡ Some (item_number (lineages_of e) i)

pub one-item : (e : Elab) (xs : List NamedItem) (ys : List (Prop × Item)) → AreItemsNamed (nodes_of e) xs ys → AllHave ys → (i : ℕ) (d : NamedItem) → i < length xs → (ts new : List Target) (k : ℕ) → AreNumbered e ts (take i ys) → IsFound e (get_or xs i d) k
    → new ≡ ts ++ (record { prop = (get_or xs i d).prop; item = k } ∷ []) → AreNumbered e new (take (i + 1) ys)
one-item e xs ys named have i d low ts new k before found put =
    let at = item-at-place (nodes_of e) xs ys named have i d low in
    let y = at.0 in
    let number : Some k ≡ Some (item_number (lineages_of e) y.1) = found y.1 at.3 at.4 in
    let is : k ≡ item_number (lineages_of e) y.1 = cc number in
    let taken : take (i + 1) ys ≡ take i ys ++ (y ∷ []) = take_more ys i y (get-within ys i y at.1) ∙ ap (λ z. take i ys ++ (z ∷ [])) (get-read ys i y y at.1) in
    subst (λ us. AreNumbered e us (take (i + 1) ys)) (sym put) (subst (AreNumbered e (ts ++ (record { prop = (get_or xs i d).prop; item = k } ∷ []))) (sym taken) (put-behind e ts (take i ys) (record { prop = (get_or xs i d).prop; item = k }) y before at.2 is))

pub all-items : (e : Elab) (xs : List NamedItem) (ys : List (Prop × Item)) → AreItemsNamed (nodes_of e) xs ys → (i : ℕ) → length xs ≤ i → (ts : List Target) → AreNumbered e ts (take i ys) → AreNumbered e ts ys
all-items e xs ys named i past ts h = let m = as-many (nodes_of e) xs ys named in subst (AreNumbered e ts) (take_all i ys (omega (arith, past, m))) h

-- Nodes.

abbrev Lists : Type 0
Lists = List (Vec Target Global)

at-end : (vs : Lists) (v : Vec Target Global) (k : ℕ) → k ≡ length vs → list_at (vs ++ (v ∷ [])) k ≡ v.items
at-end [] v zero e = refl
at-end [] v (suc k) e = absurd (omega (arith, e))
at-end (x ∷ xs) v zero e = absurd (omega (arith, e))
at-end (x ∷ xs) v (suc k) e = at-end xs v k (omega (arith, e))

before-end : (vs : Lists) (v : Vec Target Global) (k : ℕ) → k < length vs → list_at (vs ++ (v ∷ [])) k ≡ list_at vs k
before-end [] v k l = absurd (omega (arith, l))
before-end (x ∷ xs) v zero l = refl
before-end (x ∷ xs) v (suc k) l = before-end xs v k (omega (arith, l))

named-here : (vs : List (Vec NamedItem Global)) (k : ℕ) (d : Vec NamedItem Global) → k < length vs → named_at vs k ≡ (get_or vs k d).items
named-here [] k d l = absurd (omega (arith, l))
named-here (v ∷ vs) zero d l = refl
named-here (v ∷ vs) (suc k) d l = named-here vs k d (omega (arith, l))

node-here : (e : Elab) → IsClean e → (k : ℕ) → k < e.count → (n : Instance) × (slice_get (nodes_of e) k ≡ Some n)
node-here e clean k l = has (nodes_of e) k (let c = count-is e clean in let m = nodes-many e in omega (arith, l, c, m))
  where
    has : (xs : List Instance) (k : ℕ) → k < length xs → (n : Instance) × (slice_get xs k ≡ Some n)
    has [] k l = absurd (omega (arith, l))
    has (x ∷ xs) zero l = (x, refl)
    has (x ∷ xs) (suc k) l = has xs k (omega (arith, l))

-- the targets of a list of items are their numbers
abbrev pub AreOf : Elab → List NamedItem → List Target → Type 0
AreOf e xs ts = (ys : List (Prop × Item)) → AreItemsNamed (nodes_of e) xs ys → AllHave ys → AreNumbered e ts ys

pub one-node : (e : Elab) → IsClean e → (vs : List (Vec NamedItem Global)) → AreListed e vs → (k : ℕ) (d : Vec NamedItem Global) → k < length vs → (ts new : Lists) (v : Vec Target Global) → AreTargetsTo e k ts → AreOf e (get_or vs k d).items v.items → new ≡ ts ++ (v ∷ [])
    → AreTargetsTo e (k + 1) new
one-node e clean vs listed k d low ts new v h are put = record {
  many = (let s = length-append ts (v ∷ []) in let p = ap length put in let m = h.many in omega (arith, s, p, m));
  named = λ j p l. subst (λ us. TargetAt e j p (item_at p (list_at us j))) (sym put) (by j p (split j l));
}
  where
    split : (j : ℕ) → j < k + 1 → (j ≡ k) ⊎ (j < k)
    split j l = grind (arith, l)

    own : (p : Prop) → TargetAt e k p (item_at p v.items)
    own p =
        let n = node-here e clean k (let m = listed.many in omega (arith, low, m)) in
        let named = subst (λ xs. AreItemsNamed (nodes_of e) xs (all_named e n.0)) (named-here vs k d low) (listed.each k n.0 n.1) in
        (n.0, n.1, is-number e n.0 p v.items (are (all_named e n.0) named (all-have e n.0)))

    by : (j : ℕ) (p : Prop) → (j ≡ k) ⊎ (j < k) → TargetAt e j p (item_at p (list_at (ts ++ (v ∷ [])) j))
    by j p (inr less) = subst (λ xs. TargetAt e j p (item_at p xs)) (sym (before-end ts v j (let m = h.many in omega (arith, less, m)))) (h.named j p less)
    by j p (inl q) =
        let index : j ≡ length ts = q ∙ sym h.many in
        subst (λ xs. TargetAt e j p (item_at p xs)) (sym (at-end ts v j index)) (subst (λ i. TargetAt e i p (item_at p v.items)) (sym q) (own p))

pub no-nodes : (e : Elab) (ts : Lists) → ts ≡ [] → AreTargetsTo e 0 ts
no-nodes e ts none = record { many = ap length none; named = λ k p l. absurd (omega (arith, l)) }
