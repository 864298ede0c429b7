-- What software does with the fields among the nodes in one.
use Rattle.std.specs.List.{list_any}
use Rattle.std.proofs.Common.{◌≡◌, ◌∙◌, ℕ, zero, suc, ◌+◌, ◌<◌, Bool, true, false, cond, ◌&&◌, ◌||◌, Some, option_map, List, [], ◌∷◌, ◌++◌, length, get_or, take, slice_get, filter, refl, sym, ap, arith, length-append}
use Rattle.plain_lemmas.proofs.Lists.{get-map, list_any-append as any-append}
use Rattle.rdl_tree.specs.Kinds.{same_kind}
use Rattle.rdl_tree.specs.declared.item.Kind.TheVariants as kind
use Rattle.rdl_tree.specs.declared.node.Elab.{Elab}
use Rattle.rdl_tree.specs.declared.node.Node.{Node, out-Node}
use Rattle.rdl_values.specs.Elaborated.{nodes_of, top_name}
use Rattle.rdl_values.specs.Instances.{Instance, kind_of}
use Rattle.rdl_values.specs.Lineages.{Lineage, lineages_of}
use Rattle.rdl_nodes.proofs.Lineages.{all_nodes}
use Rattle.rdl_layers.specs.Fields.{is_a}
use Rattle.rdl_nodes.specs.Rows.{AreInside}

filter-push : {X : Type 0} (p : X → Bool) (xs : List X) (x : X) → filter p (xs ++ x ∷ []) ≡ filter p xs ++ cond (p x) (x ∷ []) []
filter-push p [] x = refl
filter-push p (y ∷ ys) x = go (p y) (filter-push p ys x)
  where
    go : (b : Bool) → filter p (ys ++ x ∷ []) ≡ filter p ys ++ cond (p x) (x ∷ []) [] → cond b (y ∷ filter p (ys ++ x ∷ [])) (filter p (ys ++ x ∷ [])) ≡ cond b (y ∷ filter p ys) (filter p ys) ++ cond (p x) (x ∷ []) []
    go true h = ap (λ l. y ∷ l) h
    go false h = h

-- the instance at a place, which the node there says
pub record At (e : Elab) (ns : List Instance) (i : ℕ) (r : Node) : Type 0 where
  pub instance : Instance
  pub more : take (i + 1) ns ≡ take i ns ++ instance ∷ []
  pub here : slice_get (nodes_of e) (out-Node r).id ≡ Some instance
  pub kind_is : (out-Node r).kind ≡ kind_of instance

pub inside-at : (e : Elab) (above : List Instance) (beside rs : List Node) (ns : List Instance) (i : ℕ) (r : Node) → AreInside (lineages_of e) above beside rs ns → i < length rs → r ≡ get_or rs i r → At e ns i r
inside-at e above beside [] [] i r h l is = absurd (omega (arith, l))
inside-at e above beside [] (n ∷ ns) i r h l is = absurd h
inside-at e above beside (q ∷ rs) [] i r h l is = absurd h
inside-at e above beside (q ∷ rs) (n ∷ ns) zero r h l is = record {
  instance = n;
  more = refl;
  here =
      ap (λ x. slice_get (nodes_of e) (out-Node x).id) is
      ∙ (ap (λ all. slice_get all (out-Node q).id) (sym (all_nodes (Some (top_name e)) e.source.now))
      ∙ (get-map (λ (n : Lineage). n.node) (lineages_of e) (out-Node q).id ∙ ap (option_map (λ (n : Lineage). n.node)) h.0.here));
  kind_is = ap (λ x. (out-Node x).kind) is ∙ h.0.says.kind;
}
inside-at e above beside (q ∷ rs) (n ∷ ns) (suc i) r h l is =
    let a = inside-at e above beside rs ns i r h.1 (omega (arith, l)) is in
    record {
      instance = a.instance;
      more = (let s : suc i + 1 ≡ suc (i + 1) = omega arith in ap (λ k. take k (n ∷ ns)) s ∙ ap (λ t. n ∷ t) a.more);
      here = a.here;
      kind_is = a.kind_is;
    }

-- one node more, which is no field or isn't used so
pub not-used : (p : Instance → Bool) (ns : List Instance) (i : ℕ) (c : Instance) → take (i + 1) ns ≡ take i ns ++ c ∷ [] → same_kind kind.Field (kind_of c) && p c ≡ false → list_any p (filter (is_a kind.Field) (take i ns)) ≡ false
    → list_any p (filter (is_a kind.Field) (take (i + 1) ns)) ≡ false
not-used p ns i c more nothing h =
    ap (λ t. list_any p (filter (is_a kind.Field) t)) more
    ∙ (ap (list_any p) (filter-push (is_a kind.Field) (take i ns) c)
    ∙ (any-append p (filter (is_a kind.Field) (take i ns)) (cond (is_a kind.Field c) (c ∷ []) []) ∙ (λ j. h j || last (is_a kind.Field c) nothing j)))
  where
    last : (b : Bool) → b && p c ≡ false → list_any p (cond b (c ∷ []) []) ≡ false
    last true e = none (p c) e
      where
        none : (a : Bool) → a ≡ false → a || false ≡ false
        none true e = e
        none false e = refl
    last false e = refl

take-none : {X : Type 0} (k : ℕ) → take {A = X} k [] ≡ []
take-none zero = refl
take-none (suc k) = refl

-- a node that is a field and is used so
pub is-used : (p : Instance → Bool) (ns : List Instance) (i : ℕ) (c : Instance) → take (i + 1) ns ≡ take i ns ++ c ∷ [] → is_a kind.Field c ≡ true → p c ≡ true → list_any p (filter (is_a kind.Field) ns) ≡ true
is-used p ns i c more field some = go ns i more
  where
    or-true : (a : Bool) → a || true ≡ true
    or-true true = refl
    or-true false = refl

    keep : (b : Bool) (n : Instance) (xs : List Instance) → list_any p xs ≡ true → list_any p (cond b (n ∷ xs) xs) ≡ true
    keep true n xs h = ap (λ t. p n || t) h ∙ or-true (p n)
    keep false n xs h = h

    go : (ns : List Instance) (i : ℕ) → take (i + 1) ns ≡ take i ns ++ c ∷ [] → list_any p (filter (is_a kind.Field) ns) ≡ true
    go [] i e = absurd (let l = ap length e in let z = ap length (take-none {X = Instance} (i + 1)) in let a = length-append (take i []) (c ∷ []) in omega (arith, l, z, a))
    go (n ∷ ns) zero e = let same : n ≡ c = cc e in ap (λ b. list_any p (cond b (n ∷ filter (is_a kind.Field) ns) (filter (is_a kind.Field) ns))) (ap (is_a kind.Field) same ∙ field) ∙ ap (λ b. b || list_any p (filter (is_a kind.Field) ns)) (ap p same ∙ some)
    go (n ∷ ns) (suc i) e =
        let s : suc i + 1 ≡ suc (i + 1) = omega arith in
        let f : n ∷ take (i + 1) ns ≡ n ∷ (take i ns ++ c ∷ []) = sym (ap (λ k. take k (n ∷ ns)) s) ∙ e in
        let f' : take (i + 1) ns ≡ take i ns ++ c ∷ [] = cc in
        keep (is_a kind.Field n) n (filter (is_a kind.Field) ns) (go ns i f')

pub as-many : (e : Elab) (above : List Instance) (beside rs : List Node) (ns : List Instance) → AreInside (lineages_of e) above beside rs ns → length rs ≡ length ns
as-many e above beside [] [] h = refl
as-many e above beside [] (n ∷ ns) h = absurd h
as-many e above beside (r ∷ rs) [] h = absurd h
as-many e above beside (r ∷ rs) (n ∷ ns) h = ap suc (as-many e above beside rs ns h.1)
