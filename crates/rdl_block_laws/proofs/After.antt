-- In an order of a source's items, what an item of the block refers to stands before it.
use Rattle.std.proofs.Common.{◌≡◌, ◌∙◌, ◌⊎◌, inl, inr, ℕ, zero, suc, ◌+◌, ◌<◌, Bool, true, false, ◌||◌, cond, List, [], ◌∷◌, ◌++◌, length, map, flat_map, get_or, slice_get, Option, None, Some, option_to_list, append_assoc, append-nil, nat_lt, refl, sym, ap, subst, arith}
use Rattle.std.specs.List.{AllByRecursion, AllPairs}
use Rattle.std.proofs.lemmas.Bool.{ltb-true, ltb-false}
use Rattle.std.proofs.lemmas.List.{length-append, length-map}
use Rattle.std.proofs.lemmas.List.Elements.{recursion_from_All}
use Rattle.std.proofs.lemmas.List.Sorted.{Contains-permutation, IsPermutation-sym}
use Rattle.rb_model.specs.declared.block.Block.{Block}
use Rattle.rb_model.specs.declared.kinds.RefItem.{RefItem}
use Rattle.rb_model.specs.References.{Each, IsOrdered, StandsBefore, refs}
use Rattle.rdl_tree.specs.declared.node.Elab.{Elab}
use Rattle.rdl_values.specs.Elaborated.{top_name}
use Rattle.rdl_values.specs.Elaboration.{IsClean}
use Rattle.rdl_values.specs.Instances.{upto}
use Rattle.rdl_values.specs.Lineages.{Lineage, lineages_of}
use Rattle.rdl_values.specs.Verdict.{IsListOf}
use Rattle.rdl_nodes.proofs.Members.{In, each-in, get-map, get-read, get-within, in-either, in-flat, in-from, in-left, in-map, in-place, in-right, in-to, place-in}
use Rattle.rdl_refs.specs.Answers.{IsBound}
use Rattle.rdl_refs.specs.Follows.{edges_of, is_in_alias, is_missing, item_number, refers_to}
use Rattle.rdl_refs.specs.Graph.{IsOrder, Refers}
use Rattle.rdl_refs.specs.Items.{Item, items}
use Rattle.rdl_rules.specs.Answers.{meaning_fails}
use Rattle.rdl_rules.specs.Feeds.{ref_to}
use Rattle.rdl_sound_laws.specs.Lists.{HasLists}
use Rattle.rdl_block_laws.specs.Ordered.{in_turn, shown_as}
use Rattle.rdl_block_laws.proofs.Numbers.{at-number, stands}
use Rattle.rdl_block_laws.proofs.Within.{Reaches, within}

-- Lists in which what each refers to was seen before.

module _ (b : Block) where
  abbrev Follow : List RefItem → List RefItem → Type 0
  Follow seen [] = Unit {0}
  Follow seen (i ∷ is) = AllByRecursion (In seen) (refs b i) × Follow (seen ++ (i ∷ [])) is

  get-front : (xs ys : List RefItem) (k : ℕ) (x : RefItem) → slice_get xs k ≡ Some x → slice_get (xs ++ ys) k ≡ Some x
  get-front [] ys k x e = cc e
  get-front (z ∷ xs) ys zero x e = e
  get-front (z ∷ xs) ys (suc k) x e = get-front xs ys k x e

  seen-before : (seen is : List RefItem) (js : List RefItem) → AllByRecursion (In seen) js → Each (StandsBefore (seen ++ is) (length seen)) js
  seen-before seen is [] h = tt
  seen-before seen is (j ∷ js) h = let p = in-place seen j h.0 in ((p.0, p.1, get-front seen is p.0 j p.2), seen-before seen is js h.1)

  follow-at : (seen is : List RefItem) → Follow seen is → (k : ℕ) (i : RefItem) → slice_get is k ≡ Some i → Each (StandsBefore (seen ++ is) (length seen + k)) (refs b i)
  follow-at seen [] h k i e = cc e
  follow-at seen (x ∷ is) h zero i e =
      let same : x ≡ i = cc e in
      subst (λ y. Each (StandsBefore (seen ++ (x ∷ is)) (length seen + 0)) (refs b y)) same (subst (λ n. Each (StandsBefore (seen ++ (x ∷ is)) n) (refs b x)) (omega arith) (seen-before seen (x ∷ is) (refs b x) h.0))
  follow-at seen (x ∷ is) h (suc k) i e =
      let rest = follow-at (seen ++ (x ∷ [])) is h.1 k i e in
      let long = length-append seen (x ∷ []) in
      let same : length (seen ++ (x ∷ [])) + k ≡ length seen + suc k = omega (arith, long) in
      subst (λ xs. Each (StandsBefore xs (length seen + suc k)) (refs b i)) (append_assoc seen (x ∷ []) is) (subst (λ n. Each (StandsBefore ((seen ++ (x ∷ [])) ++ is) n) (refs b i)) same rest)

  follow-ordered : (is : List RefItem) → Follow [] is → IsOrdered b is
  follow-ordered is h k i e = subst (λ n. Each (StandsBefore is n) (refs b i)) (omega arith) (follow-at [] is h k i e)

-- Places in a list.

get-behind : (xs ys : List ℕ) (k : ℕ) → slice_get (xs ++ ys) (length xs + k) ≡ slice_get ys k
get-behind [] ys k = let same : 0 + k ≡ k = omega arith in ap (slice_get ys) same
get-behind (x ∷ xs) ys k = let same : length (x ∷ xs) + k ≡ suc (length xs + k) = omega arith in ap (slice_get (x ∷ (xs ++ ys))) same ∙ get-behind xs ys k

later : (R : ℕ → ℕ → Type 0) (pre : List ℕ) (k : ℕ) (rest : List ℕ) (q : ℕ) → AllPairs R (pre ++ (k ∷ rest)) → In rest q → R k q
later R pre k rest q h i =
    let whole = pre ++ (k ∷ rest) in
    let p = in-place rest q i in
    let first : slice_get whole (length pre + 0) ≡ Some k = get-behind pre (k ∷ rest) 0 in
    let second : slice_get whole (length pre + suc p.0) ≡ Some q = get-behind pre (k ∷ rest) (suc p.0) ∙ p.2 in
    let in_ = get-within whole (length pre + suc p.0) q second in
    let pair = h (length pre + 0) (length pre + suc p.0) 0 (omega arith) in_ in
    subst (λ x. R x q) (get-read whole (length pre + 0) 0 k first) (subst (R (get_or whole (length pre + 0) 0)) (get-read whole (length pre + suc p.0) 0 q second) pair)

below-upto : (n k : ℕ) → k < n → In (upto n) k
below-upto zero k l = absurd (omega (arith, l))
below-upto (suc n) k l = go (nat_lt k n) refl (λ m. below-upto n k m)
  where
    go : (t : Bool) → nat_lt k n ≡ t → (k < n → In (upto n) k) → In (upto n ++ (n ∷ [])) k
    go true e rest = in-left (upto n) (n ∷ []) k (rest (ltb-true k n e))
    go false e rest = let m = ltb-false k n e in in-right (upto n) (n ∷ []) k (inl (omega (arith, l, m)))

module _ (e : Elab) (b : Block) (ks : List ℕ) (clean : IsClean e) (bound : IsBound e) (none : IsListOf (meaning_fails e) []) (is : HasLists (Some (top_name e)) e.source.now b) (order : IsOrder (edges_of (lineages_of e)) ks) where
  abbrev all : List Lineage
  all = lineages_of e

  abbrev pub shown : ℕ → List RefItem
  shown k = flat_map (shown_as all) (option_to_list (slice_get (items all) k))

  pub edges-many : length (edges_of all) ≡ length (items all)
  unfolding edges_of
  edges-many = length-map (items all) (λ i. map (item_number all) (refers_to all i))

  edge : (k : ℕ) (x y : Item) → slice_get (items all) k ≡ Some x → In (refers_to all x) y → Refers (edges_of all) k (item_number all y)
  unfolding edges_of
  edge k x y here h = (map (item_number all) (refers_to all x), get-map (λ i. map (item_number all) (refers_to all i)) (items all) k x here, in-to (map (item_number all) (refers_to all x)) (item_number all y) (in-map (item_number all) (refers_to all x) y h))

  pub among-all : (q : ℕ) → q < length (items all) → In ks q
  among-all q l = in-from ks q (Contains-permutation (upto (length (edges_of all))) ks q (IsPermutation-sym ks (upto (length (edges_of all))) order.each_once) (in-to (upto (length (edges_of all))) q (below-upto (length (edges_of all)) q (let m = edges-many in omega (arith, l, m)))))

  -- what a thing refers to stands before it
  before-it : (pre : List ℕ) (k : ℕ) (rest : List ℕ) (q : ℕ) → ks ≡ pre ++ (k ∷ rest) → Refers (edges_of all) k q → In ks q → In pre q
  before-it pre k rest q split r h = go (in-either pre (k ∷ rest) q (subst (λ xs. In xs q) split h))
    where
      go : In pre q ⊎ In (k ∷ rest) q → In pre q
      go (inl i) = i
      go (inr (inl i)) = absurd (each-in (λ a. ¬ (Refers (edges_of all) a a)) ks k (recursion_from_All (λ a. ¬ (Refers (edges_of all) a a)) ks order.not_to_itself) (subst (λ xs. In xs k) (sym split) (in-right pre (k ∷ rest) k (inl refl))) (subst (Refers (edges_of all) k) (sym i) r))
      go (inr (inr i)) = absurd (later (λ x y. ¬ (Refers (edges_of all) x y)) pre k rest q (subst (AllPairs (λ x y. ¬ (Refers (edges_of all) x y))) split order.after_its_own) i r)

  pub shown-there : (y : Item) (q : ℕ) (j : RefItem) → slice_get (items all) q ≡ Some y → (is_missing y || is_in_alias y) ≡ false → j ≡ ref_to all y → In (shown q) j
  shown-there y q j here present same = subst (λ o. In (flat_map (shown_as all) (option_to_list o)) j) (sym here) (in-left (shown_as all y) [] j (subst (λ c. In (cond c [] (ref_to all y ∷ [])) j) (sym present) (inl (sym same))))

  reached : (pre : List ℕ) (k : ℕ) (rest : List ℕ) (x : Item) → ks ≡ pre ++ (k ∷ rest) → slice_get (items all) k ≡ Some x → (j : RefItem) → Reaches e b clean bound none is x j → In (flat_map shown pre) j
  reached pre k rest x split here j r =
      let q = item_number all r.to in
      let at = at-number (Some (top_name e)) e.source.now r.to r.among_ in
      in-flat shown pre q j (before-it pre k rest q split (edge k x r.to here r.refers) (among-all q (get-within (items all) q r.to at))) (shown-there r.to q j at r.present r.is_)

  all-reached : (pre : List ℕ) (k : ℕ) (rest : List ℕ) (x : Item) → ks ≡ pre ++ (k ∷ rest) → slice_get (items all) k ≡ Some x → (is_missing x || is_in_alias x) ≡ false → AllByRecursion (In (flat_map shown pre)) (refs b (ref_to all x))
  all-reached pre k rest x split here present =
      let st = stands all x (place-in (items all) k x here) in
      go (refs b (ref_to all x)) (λ j h. reached pre k rest x split here j (subst (λ y. Reaches e b clean bound none is y j) st.is (within e b clean bound none is st.lineage x.what st.here st.has (subst (λ y. (is_missing y || is_in_alias y) ≡ false) (sym st.is) present) j (subst (λ y. In (refs b (ref_to all y)) j) (sym st.is) h))))
    where
      go : (js : List RefItem) → ((j : RefItem) → In js j → In (flat_map shown pre) j) → AllByRecursion (In (flat_map shown pre)) js
      go [] f = tt
      go (j ∷ js) f = (f j (inl refl), go js (λ y h. f y (inr h)))

  flat-one : (pre : List ℕ) (k : ℕ) → flat_map shown (pre ++ (k ∷ [])) ≡ flat_map shown pre ++ shown k
  flat-one [] k = append-nil (shown k)
  flat-one (p ∷ pre) k = ap (λ xs. shown p ++ xs) (flat-one pre k) ∙ sym (append_assoc (shown p) (flat_map shown pre) (shown k))

  follows : (pre os : List ℕ) → ks ≡ pre ++ os → Follow b (flat_map shown pre) (flat_map shown os)
  follows pre [] split = tt
  follows pre (k ∷ rest) split = go (slice_get (items all) k) refl (subst (λ xs. Follow b xs (flat_map shown rest)) (flat-one pre k) (follows (pre ++ (k ∷ [])) rest (split ∙ sym (append_assoc pre (k ∷ []) rest))))
    where
      Goal : List RefItem → Type 0
      Goal xs = Follow b (flat_map shown pre ++ xs) (flat_map shown rest) → Follow b (flat_map shown pre) (xs ++ flat_map shown rest)

      none-more : Goal []
      none-more h = subst (λ xs. Follow b xs (flat_map shown rest)) (append-nil (flat_map shown pre)) h

      one : (x : Item) → slice_get (items all) k ≡ Some x → (c : Bool) → (is_missing x || is_in_alias x) ≡ c → Goal (cond c [] (ref_to all x ∷ []) ++ [])
      one x here true q h = none-more h
      one x here false q h = (all-reached pre k rest x split here q, h)

      go : (o : Option Item) → slice_get (items all) k ≡ o → Goal (shown k)
      go None q = subst (λ o. Goal (flat_map (shown_as all) (option_to_list o))) (sym q) none-more
      go (Some x) q = subst (λ o. Goal (flat_map (shown_as all) (option_to_list o))) (sym q) (one x q (is_missing x || is_in_alias x) refl)

  pub ordered : IsOrdered b (in_turn all ks)
  ordered = follow-ordered b (in_turn all ks) (follows [] ks refl)
