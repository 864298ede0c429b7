-- What the nodes in a body have, written one by one.
use Rattle.std.proofs.Common.{◌≡◌, ◌∙◌, ◌≢◌, ℕ, zero, suc, ◌+◌, ◌<◌, ◌≤◌, ◌⊎◌, inl, inr, Bool, true, false, cond, List, [], ◌∷◌, ◌++◌, map, filter, length, take, set, get_or, slice_get, Contains, Some, refl, sym, ap, subst, arith}
use Rattle.std.proofs.lemmas.List.{get_or-set_same, get_or-set_other, length-set, take_more}
use Rattle.rdl_tree.specs.declared.item.Kind.{Kind}
use Rattle.rdl_tree.specs.declared.node.Node.{Node, out-Node}
use Rattle.rdl_values.specs.Instances.{Instance, kind_of}
use Rattle.rdl_values.specs.Lineages.{Lineage, child_of}
use Rattle.rdl_nodes.specs.Rows.{AreInside, IsInside}
use Rattle.rdl_nodes.proofs.Members.{In, get-read, get-within, in-from, in-left, in-right, in-to}
use Rattle.rdl_sizes.proofs.Turns.{inside-at}

module _ {X : Type 0} (p : X → Bool) where
  pub nth-passing : (xs : List X) (i : ℕ) (x : X) → slice_get xs i ≡ Some x → p x ≡ true → slice_get (filter p xs) (length (filter p (take i xs))) ≡ Some x
  nth-passing [] i x e t = cc e
  nth-passing (y ∷ ys) zero x e t = let s : y ≡ x = cc e in ap (λ b. slice_get (cond b (y ∷ filter p ys) (filter p ys)) 0) (ap p s ∙ t) ∙ ap Some s
  nth-passing (y ∷ ys) (suc i) x e t = go (p y) (nth-passing ys i x e t)
    where
      go : (b : Bool) → slice_get (filter p ys) (length (filter p (take i ys))) ≡ Some x → slice_get (cond b (y ∷ filter p ys) (filter p ys)) (length (cond b (y ∷ filter p (take i ys)) (filter p (take i ys)))) ≡ Some x
      go true h = h
      go false h = h

-- Values that the nodes of some kinds in a body have, in a table of all nodes.
module _ {V : Type 0} (none : V) (by_kind : Kind → Bool) (has : Instance → Bool) (agree : (n : Instance) → has n ≡ by_kind (kind_of n)) where
  abbrev at_ : List V → ℕ → V
  at_ os k = get_or os k none

  abbrev pub has_kind : Node → Bool
  has_kind r = by_kind (out-Node r).kind

  -- a node is of those kinds where its instance is
  same-kind : (all : List Lineage) (up : List Instance) (beside : List Node) (r : Node) (c : Instance) → IsInside all up beside r c → has_kind r ≡ has c
  same-kind all up beside r c h = ap by_kind h.says.kind ∙ sym (agree c)

  pub same-counts : (all : List Lineage) (up : List Instance) (beside rs : List Node) (cs : List Instance) → AreInside all up beside rs cs → (i : ℕ) → length (filter has_kind (take i rs)) ≡ length (filter has (take i cs))
  same-counts all up beside rs cs h zero = refl
  same-counts all up beside [] [] h (suc i) = refl
  same-counts all up beside [] (c ∷ cs) h (suc i) = absurd h
  same-counts all up beside (r ∷ rs) [] h (suc i) = absurd h
  same-counts all up beside (r ∷ rs) (c ∷ cs) h (suc i) = ap (λ b. length (cond b (r ∷ filter has_kind (take i rs)) (filter has_kind (take i rs)))) (same-kind all up beside r c h.0) ∙ go (has c) (same-counts all up beside rs cs h.1 i)
    where
      go : (b : Bool) → length (filter has_kind (take i rs)) ≡ length (filter has (take i cs))
          → length (cond b (r ∷ filter has_kind (take i rs)) (filter has_kind (take i rs))) ≡ length (cond b (c ∷ filter has (take i cs)) (filter has (take i cs)))
      go true e = ap suc e
      go false e = e

  -- the pair at a number, from its sides
  pair-at : (os : List (Instance × V)) (cs : List Instance) (ss : List V) (k : ℕ) (c : Instance) (s : V) → map (λ o. o.0) os ≡ cs → map (λ o. o.1) os ≡ ss → slice_get cs k ≡ Some c → slice_get ss k ≡ Some s → In os (c, s)
  pair-at os cs ss k c s e f g h = go os k (subst (λ xs. slice_get xs k ≡ Some c) (sym e) g) (subst (λ xs. slice_get xs k ≡ Some s) (sym f) h)
    where
      go : (os : List (Instance × V)) (k : ℕ) → slice_get (map (λ o. o.0) os) k ≡ Some c → slice_get (map (λ o. o.1) os) k ≡ Some s → In os (c, s)
      go [] k g h = cc g
      go (o ∷ os) zero g h = let a : o.0 ≡ c = cc g in let b : o.1 ≡ s = cc h in inl (λ i. (a i, b i))
      go (o ∷ os) (suc k) g h = inr (go os k g h)

  -- the first so many nodes are written
  pub record Written (old now starts : List V) (rs : List Node) (i next : ℕ) : Type 0 where
    pub counted : next ≡ length (filter has_kind (take i rs))
    pub long : length now ≡ length old
    pub kept : (k : ℕ) → ((r : Node) → Contains (take i rs) r → (out-Node r).id ≡ k → ⊥) → at_ now k ≡ at_ old k
    pub places : (all : List Lineage) (l : Lineage) (cs : List Instance) (os : List (Instance × V)) → AreInside all (l.node ∷ l.ancestors) rs rs cs → map (λ o. o.0) os ≡ filter has cs → map (λ o. o.1) os ≡ starts
        → (j : ℕ) (r : Node) (c : Instance) → j < i → slice_get rs j ≡ Some r → slice_get cs j ≡ Some c → has c ≡ true → Contains os (c, at_ now (out-Node r).id)

  pub none-written : (old starts : List V) (rs : List Node) → Written old old starts rs 0 0
  none-written old starts rs = record { counted = refl; long = refl; kept = λ k h. refl; places = λ all l cs os h e f j r c low. absurd (omega (arith, low)) }

  pub all-written : (old now starts : List V) (rs : List Node) (i next : ℕ) → Written old now starts rs i next → length rs ≤ i → (k : ℕ) → ((r : Node) → Contains rs r → (out-Node r).id ≡ k → ⊥) → at_ now k ≡ at_ old k
  all-written old now starts rs i next w l k h = w.kept k (λ r c e. h r (taken rs i r l c) e)
    where
      whole : (xs : List Node) (n : ℕ) → length xs ≤ n → take n xs ≡ xs
      whole [] zero l = refl
      whole [] (suc n) l = refl
      whole (x ∷ xs) zero l = absurd (omega (arith, l))
      whole (x ∷ xs) (suc n) l = ap (λ ys. x ∷ ys) (whole xs n (omega (arith, l)))

      taken : (xs : List Node) (n : ℕ) (r : Node) → length xs ≤ n → Contains (take n xs) r → Contains xs r
      taken xs n r l c = subst (λ ys. Contains ys r) (whole xs n l) c

  module _ (old now starts : List V) (rs : List Node) (i next : ℕ) (w : Written old now starts rs i next) (r : Node) (here : slice_get rs i ≡ Some r) where
    low : i < length rs
    low = get-within rs i r here

    more : take (i + 1) rs ≡ take i rs ++ (r ∷ [])
    more = take_more rs i r low ∙ ap (λ x. take i rs ++ (x ∷ [])) (get-read rs i r r here)

    in-more : (x : Node) → Contains (take i rs) x → Contains (take (i + 1) rs) x
    in-more x h = subst (λ xs. Contains xs x) (sym more) (in-to (take i rs ++ (r ∷ [])) x (in-left (take i rs) (r ∷ []) x (in-from (take i rs) x h)))

    last-in : Contains (take (i + 1) rs) r
    last-in = subst (λ xs. Contains xs r) (sym more) (in-to (take i rs ++ (r ∷ [])) r (in-right (take i rs) (r ∷ []) r (inl refl)))

    counts : (b : Bool) → has_kind r ≡ b → length (filter has_kind (take (i + 1) rs)) ≡ length (filter has_kind (take i rs)) + cond b 1 0
    counts b e = ap (λ xs. length (filter has_kind xs)) more ∙ go (take i rs)
      where
        go : (xs : List Node) → length (filter has_kind (xs ++ (r ∷ []))) ≡ length (filter has_kind xs) + cond b 1 0
        go [] = ap (λ t. length (cond t (r ∷ []) [])) e ∙ last b
          where
            last : (t : Bool) → length (cond t (r ∷ []) []) ≡ 0 + cond t 1 0
            last true = refl
            last false = refl
        go (x ∷ xs) = step (has_kind x) (go xs)
          where
            step : (t : Bool) → length (filter has_kind (xs ++ (r ∷ []))) ≡ length (filter has_kind xs) + cond b 1 0 → length (cond t (x ∷ filter has_kind (xs ++ (r ∷ []))) (filter has_kind (xs ++ (r ∷ [])))) ≡ length (cond t (x ∷ filter has_kind xs) (filter has_kind xs)) + cond b 1 0
            step true q = omega (arith, q)
            step false q = q

    split : (j : ℕ) → j < i + 1 → (j ≡ i) ⊎ (j < i)
    split j l = grind (arith, l)

    pub passed-over : has_kind r ≡ false → Written old now starts rs (i + 1) next
    passed-over e = record {
      counted = (let q = counts false e in let c = w.counted in omega (arith, q, c));
      long = w.long;
      kept = λ k h. w.kept k (λ x c. h x (in-more x c));
      places = λ all l cs os h a b j x c m at cat t. by all l cs os h a b j x c at cat t (split j m);
    }
      where
        by : (all : List Lineage) (l : Lineage) (cs : List Instance) (os : List (Instance × V)) → AreInside all (l.node ∷ l.ancestors) rs rs cs → map (λ o. o.0) os ≡ filter has cs → map (λ o. o.1) os ≡ starts
            → (j : ℕ) (x : Node) (c : Instance) → slice_get rs j ≡ Some x → slice_get cs j ≡ Some c → has c ≡ true → (j ≡ i) ⊎ (j < i) → Contains os (c, at_ now (out-Node x).id)
        by all l cs os h a b j x c at cat t (inr m) = w.places all l cs os h a b j x c m at cat t
        by all l cs os h a b j x c at cat t (inl same) =
            let is = inside-at all (l.node ∷ l.ancestors) rs rs cs h j x at in
            let cs_is : is.0 ≡ c = (let p = sym is.1 ∙ cat in cc p) in
            let xs_is : x ≡ r = (let p = sym at ∙ (ap (slice_get rs) same ∙ here) in cc p) in
            let k = same-kind all (l.node ∷ l.ancestors) rs x is.0 is.2 in
            let no : false ≡ true = sym e ∙ (ap has_kind (sym xs_is) ∙ (k ∙ (ap has cs_is ∙ t))) in
            cc no

    pub room : has_kind r ≡ true → length (filter has_kind rs) ≡ length starts → next < length starts
    room e many = let q = get-within (filter has_kind rs) (length (filter has_kind (take i rs))) r (nth-passing has_kind rs i r here e) in let c = w.counted in omega (arith, q, c, many)

    pub written-one : has_kind r ≡ true → length (filter has_kind rs) ≡ length starts → (out-Node r).id < length now → (s : V) → slice_get starts next ≡ Some s → (new : List V) → new ≡ set now (out-Node r).id s → Written old new starts rs (i + 1) (next + 1)
    written-one e many low_id s start new is = record {
      counted = (let q = counts true e in let c = w.counted in omega (arith, q, c));
      long = ap length is ∙ (length-set now (out-Node r).id s ∙ w.long);
      kept = λ k h. ap (λ xs. at_ xs k) is ∙ (get_or-set_other now (out-Node r).id k s none (λ q. h r last-in (sym q)) ∙ w.kept k (λ x c. h x (in-more x c)));
      places = λ all l cs os h a b j x c m at cat t. by all l cs os h a b j x c m at cat t (same_number (out-Node x).id (out-Node r).id);
    }
      where
        same_number : (a b : ℕ) → (a ≡ b) ⊎ (a ≢ b)
        same_number a b = grind arith

        by : (all : List Lineage) (l : Lineage) (cs : List Instance) (os : List (Instance × V)) → AreInside all (l.node ∷ l.ancestors) rs rs cs → map (λ o. o.0) os ≡ filter has cs → map (λ o. o.1) os ≡ starts
            → (j : ℕ) (x : Node) (c : Instance) → j < i + 1 → slice_get rs j ≡ Some x → slice_get cs j ≡ Some c → has c ≡ true → ((out-Node x).id ≡ (out-Node r).id) ⊎ ((out-Node x).id ≢ (out-Node r).id) → Contains os (c, at_ new (out-Node x).id)
        by all l cs os h a b j x c m at cat t (inl same) =
            let mine = inside-at all (l.node ∷ l.ancestors) rs rs cs h i r here in
            let its = inside-at all (l.node ∷ l.ancestors) rs rs cs h j x at in
            let cs_is : its.0 ≡ c = (let p = sym its.1 ∙ cat in cc p) in
            let one : Some (child_of l its.0) ≡ Some (child_of l mine.0) = sym its.2.here ∙ (ap (slice_get all) same ∙ mine.2.here) in
            let twin : child_of l its.0 ≡ child_of l mine.0 = cc one in
            let c_is : mine.0 ≡ c = sym (ap (λ y. y.node) twin) ∙ cs_is in
            let placed : has mine.0 ≡ true = ap has c_is ∙ t in
            let at_next : slice_get (filter has cs) next ≡ Some mine.0 =
            subst (λ n. slice_get (filter has cs) n ≡ Some mine.0) (sym (w.counted ∙ same-counts all (l.node ∷ l.ancestors) rs rs cs h i)) (nth-passing has cs i mine.0 mine.1 placed) in
            let pair = in-to os (mine.0, s) (pair-at os (filter has cs) starts next mine.0 s a b at_next start) in
            let value : at_ new (out-Node x).id ≡ s = ap (λ xs. at_ xs (out-Node x).id) is ∙ (ap (at_ (set now (out-Node r).id s)) same ∙ get_or-set_same now (out-Node r).id s none low_id) in
            subst (λ v. Contains os (c, v)) (sym value) (subst (λ y. Contains os (y, s)) c_is pair)
        by all l cs os h a b j x c m at cat t (inr other) =
            let value : at_ new (out-Node x).id ≡ at_ now (out-Node x).id = ap (λ xs. at_ xs (out-Node x).id) is ∙ get_or-set_other now (out-Node r).id (out-Node x).id s none other in
            subst (λ v. Contains os (c, v)) (sym value) (w.places all l cs os h a b j x c (before (split j m)) at cat t)
          where
            before : (j ≡ i) ⊎ (j < i) → j < i
            before (inr l) = l
            before (inl q) = absurd (other (ap (λ y. (out-Node y).id) (let p : Some x ≡ Some r = sym at ∙ (ap (slice_get rs) q ∙ here) in cc p)))
