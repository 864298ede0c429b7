-- Numbers in a list of nodes that is kept of all.
use Rattle.std.proofs.Common.{◌≡◌, ◌∙◌, ◌≢◌, ◌⊎◌, inl, inr, ℕ, zero, suc, ◌+◌, ◌<◌, ◌≤◌, Bool, true, false, not, cond, List, [], ◌∷◌, ◌++◌, map, filter, take, length, length-append, Some, slice_get, refl, sym, ap, subst, arith}
use Rattle.std.specs.List.{AllByRecursion}
use Rattle.plain_lemmas.proofs.Lists.{get-end as get-last, get-front, map-filter}
use Rattle.rdl_tree.specs.declared.item.Kind.TheVariants as kind
use Rattle.rdl_tree.specs.declared.node.Elab.{Elab}
use Rattle.rdl_values.specs.Bodies.{Path}
use Rattle.rdl_values.specs.Elaborated.{nodes_of, top_name}
use Rattle.rdl_values.specs.Elaboration.{IsClean}
use Rattle.rdl_values.specs.Instances.{Instance}
use Rattle.rdl_values.specs.Lineages.{Lineage, lineages_of, nodes_in}
use Rattle.rdl_nodes.proofs.Apart.{Apart}
use Rattle.rdl_nodes.proofs.Lineages.{all_nodes}
use Rattle.rdl_nodes.proofs.Paths.{Differ, nodes_apart}
use Rattle.rdl_nodes.proofs.Members.{get-map, get-within}
use Rattle.rdl_layers.specs.Assignments.{same_path}
use Rattle.rdl_layers.specs.Fields.{is_a}
use Rattle.rdl_sizes.proofs.Facts.{count-is, lineage-at}
use Rattle.rdl_fields.proofs.Steps.{is-same-path, path-refl}
use Rattle.rdl_rules.specs.Numbers.{all_signals, number_of, registers}
use Rattle.rdl_block_numbers.specs.declared.listed.Listing.{Listing}
use Rattle.rdl_block_numbers.specs.declared.listed.Listing.TheVariants as listing
use Rattle.rdl_block_numbers.specs.Listed.{is_listed, list_of}
use Rattle.rdl_block_numbers.specs.Numbers.{AreNumbersIn}
use Rattle.rdl_block_numbers.specs.Ranks.{AreRanksTo, marked, rank}
use Rattle.rdl_block_numbers.proofs.InOrder.{fields-own}

-- Counting marks.

pub marked-next : (bs : List Bool) (i : ℕ) (b : Bool) → slice_get bs i ≡ Some b → marked (take (suc i) bs) ≡ cond b (suc (marked (take i bs))) (marked (take i bs))
marked-next [] i b e = cc e
marked-next (true ∷ bs) zero b e = let q : true ≡ b = cc e in ap (λ c. cond c 1 0) q
marked-next (false ∷ bs) zero b e = let q : false ≡ b = cc e in ap (λ c. cond c 1 0) q
marked-next (true ∷ bs) (suc i) true e = ap suc (marked-next bs i true e)
marked-next (true ∷ bs) (suc i) false e = ap suc (marked-next bs i false e)
marked-next (false ∷ bs) (suc i) b e = marked-next bs i b e

-- one mark more
pub marked-one : (bs : List Bool) (i n m : ℕ) (b : Bool) → slice_get bs i ≡ Some b → n ≡ marked (take i bs) → m ≡ cond b (n + 1) n → m ≡ marked (take (i + 1) bs)
marked-one bs i n m true at before is = is ∙ (add (ap (λ k. k + 1) before) ∙ (sym (marked-next bs i true at) ∙ ap (λ k. marked (take k bs)) next))
  where
    next : suc i ≡ i + 1
    next = omega arith

    add : n + 1 ≡ marked (take i bs) + 1 → n + 1 ≡ suc (marked (take i bs))
    add e = omega (arith, e)
marked-one bs i n m false at before is = is ∙ (before ∙ (sym (marked-next bs i false at) ∙ ap (λ k. marked (take k bs)) next))
  where
    next : suc i ≡ i + 1
    next = omega arith

pub marked-front : (bs : List Bool) (i : ℕ) → marked (take i bs) ≤ marked bs
marked-front bs zero = omega arith
marked-front [] (suc i) = omega arith
marked-front (true ∷ bs) (suc i) = let l = marked-front bs i in omega (arith, l)
marked-front (false ∷ bs) (suc i) = marked-front bs i

-- there are more marks than stand before one
pub marked-past : (bs : List Bool) (i n : ℕ) → slice_get bs i ≡ Some true → n ≡ marked (take i bs) → n + 1 ≤ marked bs
marked-past bs i n at before = let f = marked-front bs (suc i) in let m = marked-next bs i true at in omega (arith, f, m, before)

pub marked-all : (bs : List Bool) (i : ℕ) → length bs ≤ i → marked (take i bs) ≡ marked bs
marked-all [] zero l = refl
marked-all [] (suc i) l = refl
marked-all (b ∷ bs) zero l = absurd (omega (arith, l))
marked-all (true ∷ bs) (suc i) l = ap suc (marked-all bs i (omega (arith, l)))
marked-all (false ∷ bs) (suc i) l = marked-all bs i (omega (arith, l))

pub marked-few : (bs : List Bool) → marked bs ≤ length bs
marked-few [] = omega arith
marked-few (true ∷ bs) = let l = marked-few bs in omega (arith, l)
marked-few (false ∷ bs) = let l = marked-few bs in omega (arith, l)

-- A rank more.

pub many-more : {X : Type 0} (xs new : List X) (to : ℕ) (x : X) → length xs ≡ to → new ≡ xs ++ (x ∷ []) → length new ≡ to + 1
many-more xs new to x many put = let s = length-append xs (x ∷ []) in let p = ap length put in omega (arith, s, p, many)

pub no-ranks : (bs : List Bool) (ns : List ℕ) → ns ≡ [] → AreRanksTo bs 0 ns
no-ranks bs ns e = record { many = ap length e; each = λ k b l. absurd (omega (arith, l)) }

pub one-rank : (bs : List Bool) (ns new : List ℕ) (to n : ℕ) (b : Bool) → slice_get bs to ≡ Some b → AreRanksTo bs to ns → new ≡ ns ++ (n ∷ []) → n ≡ rank bs to b → AreRanksTo bs (to + 1) new
one-rank bs ns new to n b at h put is = record {
  many = many-more ns new to n h.many put;
  each = λ k c l here. by k c l here (split k l);
}
  where
    split : (k : ℕ) → k < to + 1 → (k ≡ to) ⊎ (k < to)
    split k l = grind (arith, l)

    by : (k : ℕ) (c : Bool) → k < to + 1 → slice_get bs k ≡ Some c → (k ≡ to) ⊎ (k < to) → slice_get new k ≡ Some (rank bs k c)
    by k c l here (inl q) =
        let same' : Some c ≡ Some b = sym here ∙ (ap (slice_get bs) q ∙ at) in
        let same : c ≡ b = cc same' in
        ap (λ ys. slice_get ys k) put ∙ (get-last ns n k (q ∙ sym h.many) ∙ ap Some (is ∙ (λ i. rank bs (sym q i) (sym same i))))
    by k c l here (inr low) = ap (λ ys. slice_get ys k) put ∙ get-front ns (n ∷ []) k (rank bs k c) (h.each k c low here)

-- The number of a node among those kept.

not-same : (p q : Path) → p ≢ q → same_path p q ≡ false
not-same p q differ = go (same_path p q) refl
  where
    go : (b : Bool) → same_path p q ≡ b → b ≡ false
    go true e = absurd (differ (is-same-path p q e))
    go false e = refl

abbrev Apart-nodes : List Lineage → Type 0
Apart-nodes ls = Apart (λ a b. a.node.path ≢ b.node.path) ls

module _ (q : Lineage → Bool) where
  abbrev kept : List Lineage → List Instance
  kept ls = map (λ l. l.node) (filter q ls)

  other : (n : Instance) (m : Instance) (ns : List Instance) → m.path ≢ n.path → number_of n (m ∷ ns) ≡ suc (number_of n ns)
  other n m ns differ = ap (λ b. cond (not b) (1 + number_of n ns) 0) (not-same m.path n.path differ) ∙ one (number_of n ns)
    where
      one : (k : ℕ) → 1 + k ≡ suc k
      one k = omega arith

  absent : (n : Instance) (ls : List Lineage) → AllByRecursion (λ m. n.path ≢ m.node.path) ls → number_of n (kept ls) ≡ marked (map q ls)
  absent n [] h = refl
  absent n (m ∷ ls) h = go (q m) (absent n ls h.1)
    where
      go : (b : Bool) → number_of n (kept ls) ≡ marked (map q ls) → number_of n (map (λ (l : Lineage). l.node) (cond b (m ∷ filter q ls) (filter q ls))) ≡ marked (b ∷ map q ls)
      go true f = other n m.node (kept ls) (λ e. h.0 (sym e)) ∙ ap suc f
      go false f = f

  ranked : (ls : List Lineage) (k : ℕ) (l : Lineage) → slice_get ls k ≡ Some l → Apart-nodes ls → number_of l.node (kept ls) ≡ rank (map q ls) k (q l)
  ranked [] k l e h = cc e
  ranked (m ∷ ls) zero l e h = let s : m ≡ l = cc e in subst (λ x. number_of x.node (kept (m ∷ ls)) ≡ rank (map q (m ∷ ls)) 0 (q x)) s (go (q m))
    where
      go : (b : Bool) → number_of m.node (map (λ (x : Lineage). x.node) (cond b (m ∷ filter q ls) (filter q ls))) ≡ cond b 0 (marked (b ∷ map q ls))
      go true = ap (λ c. cond (not c) (1 + number_of m.node (kept ls)) 0) (path-refl m.node.path)
      go false = absent m.node ls h.0
  ranked (m ∷ ls) (suc k) l e h = go (q m) (q l) (ranked ls k l e h.1)
    where
      apart : (xs : List Lineage) (k : ℕ) → slice_get xs k ≡ Some l → AllByRecursion (λ x. m.node.path ≢ x.node.path) xs → m.node.path ≢ l.node.path
      apart [] k f g = cc f
      apart (x ∷ xs) zero f g = let s : x ≡ l = cc f in subst (λ y. m.node.path ≢ y.node.path) s g.0
      apart (x ∷ xs) (suc k) f g = apart xs k f g.1

      go : (b c : Bool) → number_of l.node (kept ls) ≡ rank (map q ls) k c → number_of l.node (map (λ (x : Lineage). x.node) (cond b (m ∷ filter q ls) (filter q ls))) ≡ rank (b ∷ map q ls) (suc k) c
      go true true f = other l.node m.node (kept ls) (apart ls k e h.0) ∙ ap suc f
      go true false f = other l.node m.node (kept ls) (apart ls k e h.0) ∙ ap suc f
      go false true f = f
      go false false f = f

module _ (e : Elab) where
  kept-are : (of : Listing) → kept (is_listed of) (lineages_of e) ≡ list_of of (nodes_of e)
  kept-are listing.Signals = map-filter (λ l. l.node) (is_a kind.Signal) (lineages_of e) ∙ ap all_signals (all_nodes (Some (top_name e)) e.source.now)
  kept-are listing.Fields = sym (fields-own (Some (top_name e)) e.source.now)
  kept-are listing.Registers = map-filter (λ l. l.node) (is_a kind.Reg) (lineages_of e) ∙ ap registers (all_nodes (Some (top_name e)) e.source.now)

  unmapped : (ls : List Lineage) → Apart Differ (nodes_in ls) → Apart-nodes ls
  unmapped [] h = tt
  unmapped (l ∷ ls) h = (each ls h.0, unmapped ls h.1)
    where
      each : (ms : List Lineage) → AllByRecursion (Differ l.node) (nodes_in ms) → AllByRecursion (λ m. l.node.path ≢ m.node.path) ms
      each [] g = tt
      each (m ∷ ms) g = (g.0, each ms g.1)

  all-apart : Apart-nodes (lineages_of e)
  all-apart = unmapped (lineages_of e) (subst (Apart Differ) (sym (all_nodes (Some (top_name e)) e.source.now)) (nodes_apart (Some (top_name e)) e.source.now))

  pub numbers-in : IsClean e → (of : Listing) (bs : List Bool) (ns : List ℕ) → bs ≡ map (is_listed of) (lineages_of e) → AreRanksTo bs (length bs) ns → AreNumbersIn of e ns
  numbers-in clean of bs ns are h = record {
    many = h.many ∙ (ap length are ∙ (mapped (lineages_of e) ∙ sym (count-is e clean)));
    each = λ k n here.
        let l = lineage-at e k n here in
        let at : slice_get bs k ≡ Some (is_listed of l.0) = ap (λ xs. slice_get xs k) are ∙ get-map (is_listed of) (lineages_of e) k l.0 l.1 in
        let told = h.each k (is_listed of l.0) (get-within bs k (is_listed of l.0) at) at in
        told ∙ ap Some (ap (λ xs. rank xs k (is_listed of l.0)) are ∙ (sym (ranked (is_listed of) (lineages_of e) k l.0 l.1 all-apart) ∙ ((λ i. number_of (l.2 i) (kept-are of i)))));
  }
    where
      mapped : (ls : List Lineage) → length (map (is_listed of) ls) ≡ length ls
      mapped [] = refl
      mapped (l ∷ ls) = ap suc (mapped ls)
