-- The items of a block differ from one another, and so do those of a source.
use Rattle.std.proofs.Common.{◌≡◌, ◌∙◌, ◌≢◌, ◌⊎◌, inl, inr, ℕ, suc, ◌+◌, ◌<◌, Bool, true, false, ◌&&◌, if◌then◌else◌, nat_lt, List, [], ◌∷◌, ◌++◌, map, flat_map, is_some, refl, sym, ap, arith}
use Rattle.std.specs.List.{AllByRecursion, enumerate_from}
use Rattle.std.proofs.lemmas.Bool.{ltb-true}
use Rattle.plain_lemmas.proofs.Bools.{and-both}
use Rattle.rb_model.specs.Kept.{when}
use Rattle.rdl_nodes.proofs.Apart.{Apart, apart-append, apart-flat_map}
use Rattle.rdl_nodes.proofs.Members.{In, each-in, flat-in, in-either}
use Rattle.rb_model.specs.declared.block.Block.{Block}
use Rattle.rb_model.specs.declared.block.Field.{Field}
use Rattle.rb_model.specs.declared.block.Reg.{Reg}
use Rattle.rb_model.specs.declared.kinds.RefItem.{RefItem}
use Rattle.rb_model.specs.declared.kinds.RefItem.TheVariants as item
use Rattle.rb_model.specs.Items.{field_items, items, reg_items}
use Rattle.rdl_block_laws.proofs.Permuted.{Differ, across-of, apart-of, each-of}

-- what an item is, and of which number
abbrev pub rank_of : RefItem → ℕ
rank_of (item.Field k) = 0
rank_of (item.Anded k) = 1
rank_of (item.Ored k) = 2
rank_of (item.Xored k) = 3
rank_of (item.IncrThreshold k) = 4
rank_of (item.DecrThreshold k) = 5
rank_of (item.Overflow k) = 6
rank_of (item.Underflow k) = 7
rank_of (item.SwMod k) = 8
rank_of (item.SwAcc k) = 9
rank_of (item.Intr k) = 10
rank_of (item.Halt k) = 11
rank_of (item.Signal k) = 12

abbrev pub index_of : RefItem → ℕ
index_of (item.Field k) = k
index_of (item.Anded k) = k
index_of (item.Ored k) = k
index_of (item.Xored k) = k
index_of (item.IncrThreshold k) = k
index_of (item.DecrThreshold k) = k
index_of (item.Overflow k) = k
index_of (item.Underflow k) = k
index_of (item.SwMod k) = k
index_of (item.SwAcc k) = k
index_of (item.Intr k) = k
index_of (item.Halt k) = k
index_of (item.Signal k) = k

-- Rising numbers.

abbrev rises_from : ℕ → List ℕ → Bool
rises_from n [] = true
rises_from n (m ∷ ms) = nat_lt n m && rises_from m ms

abbrev pub rises : List ℕ → Bool
rises [] = true
rises (n ∷ ns) = rises_from n ns

above : {X : Type 0} (f : X → ℕ) (n : ℕ) (xs : List X) → rises_from n (map f xs) ≡ true → AllByRecursion (λ x. n < f x) xs
above f n [] e = tt
above f n (x ∷ xs) e =
    let p = and-both (nat_lt n (f x)) (rises_from (f x) (map f xs)) e in
    let l = ltb-true n (f x) p.0 in
    (l, each-of (λ y. n < f y) xs (λ y i. let m = each-in (λ z. f x < f z) xs y (above f (f x) xs p.1) i in omega (arith, l, m)))

rises-more : (n : ℕ) (ms : List ℕ) → rises_from n ms ≡ true → rises ms ≡ true
rises-more n [] e = refl
rises-more n (m ∷ ms) e = (and-both (nat_lt n m) (rises_from m ms) e).1

pub apart-by : {X : Type 0} (f : X → ℕ) (xs : List X) → rises (map f xs) ≡ true → Apart Differ xs
apart-by f [] e = tt
apart-by f (x ∷ xs) e = (each-of (Differ x) xs (λ y i q. let m = each-in (λ z. f x < f z) xs y (above f (f x) xs e) i in let s = ap f q in absurd (omega (arith, m, s))), apart-by f xs (rises-more (f x) (map f xs) e))

-- The items of a block.

of-signal : {X : Type 0} → ℕ × X → List RefItem
of-signal s = item.Signal s.0 ∷ []

numbers-apart : {X : Type 0} (n : ℕ) (xs : List X) → AllByRecursion (λ (p : ℕ × X). (q : ℕ) × (p.0 ≡ n + q)) (enumerate_from n xs)
numbers-apart n [] = tt
numbers-apart n (x ∷ xs) = ((0, omega arith), each-of (λ (p : ℕ × _). (q : ℕ) × (p.0 ≡ n + q)) (enumerate_from (n + 1) xs) (λ p i. let h = each-in (λ (r : ℕ × _). (q : ℕ) × (r.0 ≡ (n + 1) + q)) (enumerate_from (n + 1) xs) p (numbers-apart (n + 1) xs) i in let e = h.1 in (suc h.0, omega (arith, e))))

pub enumerated-apart : {X : Type 0} (n : ℕ) (xs : List X) → Apart (λ (p q : ℕ × X). p.0 ≢ q.0) (enumerate_from n xs)
enumerated-apart n [] = tt
enumerated-apart n (x ∷ xs) = (each-of (λ (q : ℕ × _). n ≢ q.0) (enumerate_from (n + 1) xs) (λ q i e. let h = each-in (λ (r : ℕ × _). (m : ℕ) × (r.0 ≡ (n + 1) + m)) (enumerate_from (n + 1) xs) q (numbers-apart (n + 1) xs) i in let s = h.1 in absurd (omega (arith, s, e))), enumerated-apart (n + 1) xs)

-- lists of items, each of the number of what it is of
numbered-apart : {X : Type 0} (f : ℕ × X → List RefItem) (ps : List (ℕ × X)) → ((p : ℕ × X) → AllByRecursion (λ i. index_of i ≡ p.0) (f p)) → ((p : ℕ × X) → Apart Differ (f p)) → Apart (λ (p q : ℕ × X). p.0 ≢ q.0) ps → Apart Differ (flat_map f ps)
numbered-apart f ps number each d = apart-flat_map Differ f ps
    (apart-of (λ p q. p.0 ≢ q.0) _ ps (λ p q i j n. across-of (f p) (f q) (λ x y h g e. n (sym (each-in (λ z. index_of z ≡ p.0) (f p) x (number p) h) ∙ ap index_of e ∙ each-in (λ z. index_of z ≡ q.0) (f q) y (number q) g))) d)
    (each-of (λ p. Apart Differ (f p)) ps (λ p i. each p))

field-numbers : (p : ℕ × Field) → AllByRecursion (λ i. index_of i ≡ p.0) (field_items p)
field-numbers p = go (is_some p.1.count)
  where
    go : (c : Bool) → AllByRecursion (λ i. index_of i ≡ p.0) (item.Field p.0 ∷ item.Anded p.0 ∷ item.Ored p.0 ∷ item.Xored p.0 ∷ ((if c then item.IncrThreshold p.0 ∷ item.DecrThreshold p.0 ∷ item.Overflow p.0 ∷ item.Underflow p.0 ∷ [] else []) ++ item.SwMod p.0 ∷ item.SwAcc p.0 ∷ []))
    go true = (refl, (refl, (refl, (refl, (refl, (refl, (refl, (refl, (refl, (refl, tt))))))))))
    go false = (refl, (refl, (refl, (refl, (refl, (refl, tt))))))

field-ranks : (p : ℕ × Field) → Apart Differ (field_items p)
field-ranks p = apart-by rank_of (field_items p) (go (is_some p.1.count))
  where
    go : (c : Bool) → rises (map rank_of (item.Field p.0 ∷ item.Anded p.0 ∷ item.Ored p.0 ∷ item.Xored p.0 ∷ ((if c then item.IncrThreshold p.0 ∷ item.DecrThreshold p.0 ∷ item.Overflow p.0 ∷ item.Underflow p.0 ∷ [] else []) ++ item.SwMod p.0 ∷ item.SwAcc p.0 ∷ []))) ≡ true
    go true = refl
    go false = refl

reg-numbers : (p : ℕ × Reg) → AllByRecursion (λ i. index_of i ≡ p.0) (reg_items p)
reg-numbers p = go p.1.intr p.1.halt
  where
    go : (a b : Bool) → AllByRecursion (λ i. index_of i ≡ p.0) (when a (item.Intr p.0) ++ when b (item.Halt p.0))
    go true true = (refl, (refl, tt))
    go true false = (refl, tt)
    go false true = (refl, tt)
    go false false = tt

reg-ranks : (p : ℕ × Reg) → Apart Differ (reg_items p)
reg-ranks p = apart-by rank_of (reg_items p) (go p.1.intr p.1.halt)
  where
    go : (a b : Bool) → rises (map rank_of (when a (item.Intr p.0) ++ when b (item.Halt p.0))) ≡ true
    go true true = refl
    go true false = refl
    go false true = refl
    go false false = refl

-- the ranks of the items of each kind
signal-rank : {X : Type 0} (ps : List (ℕ × X)) (i : RefItem) → In (flat_map (λ (s : ℕ × X). item.Signal s.0 ∷ []) ps) i → rank_of i ≡ 12
signal-rank {X} ps i h = let q = flat-in (λ (s : ℕ × X). item.Signal s.0 ∷ []) ps i h in go q.0 q.2
  where
    go : (p : ℕ × X) → In (item.Signal p.0 ∷ []) i → rank_of i ≡ 12
    go p (inl e) = sym (ap rank_of e)
    go p (inr k) = absurd k

field-rank : (ps : List (ℕ × Field)) (i : RefItem) → In (flat_map field_items ps) i → rank_of i < 10
field-rank ps i h = let q = flat-in field_items ps i h in each-in (λ j. rank_of j < 10) (field_items q.0) i (go q.0 (is_some q.0.1.count)) q.2
  where
    go : (p : ℕ × Field) (c : Bool) → AllByRecursion (λ j. rank_of j < 10) (item.Field p.0 ∷ item.Anded p.0 ∷ item.Ored p.0 ∷ item.Xored p.0 ∷ ((if c then item.IncrThreshold p.0 ∷ item.DecrThreshold p.0 ∷ item.Overflow p.0 ∷ item.Underflow p.0 ∷ [] else []) ++ item.SwMod p.0 ∷ item.SwAcc p.0 ∷ []))
    go p true = (omega arith, (omega arith, (omega arith, (omega arith, (omega arith, (omega arith, (omega arith, (omega arith, (omega arith, (omega arith, tt))))))))))
    go p false = (omega arith, (omega arith, (omega arith, (omega arith, (omega arith, (omega arith, tt))))))

reg-rank : (ps : List (ℕ × Reg)) (i : RefItem) → In (flat_map reg_items ps) i → (10 < suc (rank_of i)) × (rank_of i < 12)
reg-rank ps i h = let q = flat-in reg_items ps i h in each-in (λ j. (10 < suc (rank_of j)) × (rank_of j < 12)) (reg_items q.0) i (go q.0 q.0.1.intr q.0.1.halt) q.2
  where
    go : (p : ℕ × Reg) (a b : Bool) → AllByRecursion (λ j. (10 < suc (rank_of j)) × (rank_of j < 12)) (when a (item.Intr p.0) ++ when b (item.Halt p.0))
    go p true true = ((omega arith, omega arith), ((omega arith, omega arith), tt))
    go p true false = ((omega arith, omega arith), tt)
    go p false true = ((omega arith, omega arith), tt)
    go p false false = tt

pub items-apart : (b : Block) → Apart Differ (items b)
items-apart b =
    let ss = flat_map (λ (s : ℕ × _). item.Signal s.0 ∷ []) (enumerate_from 0 b.signals) in
    let fs = flat_map field_items (enumerate_from 0 b.fields) in
    let rs = flat_map reg_items (enumerate_from 0 b.regs) in
    let signals-apart : Apart Differ ss = numbered-apart (λ (s : ℕ × _). item.Signal s.0 ∷ []) (enumerate_from 0 b.signals) (λ p. (refl, tt)) (λ p. (tt, tt)) (enumerated-apart 0 b.signals) in
    let fields-apart : Apart Differ fs = numbered-apart field_items (enumerate_from 0 b.fields) field-numbers field-ranks (enumerated-apart 0 b.fields) in
    let regs-apart : Apart Differ rs = numbered-apart reg_items (enumerate_from 0 b.regs) reg-numbers reg-ranks (enumerated-apart 0 b.regs) in
    let first : Apart Differ (ss ++ fs) = apart-append Differ ss fs signals-apart fields-apart (across-of ss fs (λ x y h g e. let a = signal-rank (enumerate_from 0 b.signals) x h in let c = field-rank (enumerate_from 0 b.fields) y g in let q = ap rank_of e in absurd (omega (arith, a, c, q)))) in
    apart-append Differ (ss ++ fs) rs first regs-apart (across-of (ss ++ fs) rs (λ x y h g e. apart-last x y (in-either ss fs x h) g e))
  where
    apart-last : (x y : RefItem) → In (flat_map (λ (s : ℕ × _). item.Signal s.0 ∷ []) (enumerate_from 0 b.signals)) x ⊎ In (flat_map field_items (enumerate_from 0 b.fields)) x → In (flat_map reg_items (enumerate_from 0 b.regs)) y → x ≡ y → ⊥
    apart-last x y (inl h) g e = let a = signal-rank (enumerate_from 0 b.signals) x h in let c = reg-rank (enumerate_from 0 b.regs) y g in let d = c.1 in let q = ap rank_of e in absurd (omega (arith, a, d, q))
    apart-last x y (inr h) g e = let a = field-rank (enumerate_from 0 b.fields) x h in let c = reg-rank (enumerate_from 0 b.regs) y g in let d = c.0 in let q = ap rank_of e in absurd (omega (arith, a, d, q))
