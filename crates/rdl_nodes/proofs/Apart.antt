-- Lists whose elements differ from one another.
use Rattle.std.proofs.Common.{◌≡◌, ◌≢◌, ℕ, zero, suc, ◌<◌, List, [], ◌∷◌, ◌++◌, map, flat_map, refl, sym, ap, ◌∙◌, arith}
use Rattle.std.specs.List.{AllByRecursion, AllPairs}
use Rattle.std.proofs.lemmas.List.Elements.{All-from_recursion}
use Rattle.std.proofs.lemmas.List.Kept.{AllPairs-cons}
use Rattle.plain_lemmas.proofs.Lists.{each-append, each-both as both, each-flat_map, each-imp}
use Rattle.rdl_values.specs.Instances.{upto, rows}

-- each is related to all behind it
abbrev pub Apart : {X : Type 0} → (X → X → Type 0) → List X → Type 0
Apart R [] = Unit {0}
Apart R (x ∷ xs) = AllByRecursion (R x) xs × Apart R xs

-- each of one list to each of the other
abbrev pub Across : {X : Type 0} → (X → X → Type 0) → List X → List X → Type 0
Across R xs ys = AllByRecursion (λ x. AllByRecursion (R x) ys) xs

pub pairs : {X : Type 0} (R : X → X → Type 0) (xs : List X) → Apart R xs → AllPairs R xs
pairs R [] h = λ i j d l m. absurd (omega (arith, m))
pairs R (x ∷ xs) h = AllPairs-cons R x xs (All-from_recursion (R x) xs h.0) (pairs R xs h.1)

pub all-of : {X : Type 0} (P : X → Type 0) (xs : List X) → ((x : X) → P x) → AllByRecursion P xs
all-of P [] h = tt
all-of P (x ∷ xs) h = (h x, all-of P xs h)

pub across : {X : Type 0} (P Q : X → Type 0) (R : X → X → Type 0) (xs ys : List X) → ((x y : X) → P x → Q y → R x y) → AllByRecursion P xs → AllByRecursion Q ys → Across R xs ys
across P Q R xs ys f p q = each-imp P (λ x. AllByRecursion (R x) ys) xs (λ x h. each-imp Q (R x) ys (λ y g. f x y h g) q) p

pub apart-append : {X : Type 0} (R : X → X → Type 0) (xs ys : List X) → Apart R xs → Apart R ys → Across R xs ys → Apart R (xs ++ ys)
apart-append R [] ys h g c = g
apart-append R (x ∷ xs) ys h g c = (each-append (R x) xs ys h.0 c.0, apart-append R xs ys h.1 g c.1)

across-flat_map : {X Y : Type 0} (R : Y → Y → Type 0) (f : X → List Y) (xs : List Y) (bs : List X) → AllByRecursion (λ b. Across R xs (f b)) bs → Across R xs (flat_map f bs)
across-flat_map R f [] bs h = tt
across-flat_map R f (x ∷ xs) bs h = (each-flat_map (R x) f bs (each-imp _ (λ b. AllByRecursion (R x) (f b)) bs (λ b g. g.0) h), across-flat_map R f xs bs (each-imp _ (λ b. Across R xs (f b)) bs (λ b g. g.1) h))

pub apart-flat_map : {X Y : Type 0} (R : Y → Y → Type 0) (f : X → List Y) (xs : List X) → Apart (λ a b. Across R (f a) (f b)) xs → AllByRecursion (λ a. Apart R (f a)) xs → Apart R (flat_map f xs)
apart-flat_map R f [] h g = tt
apart-flat_map R f (x ∷ xs) h g = apart-append R (f x) (flat_map f xs) g.0 (apart-flat_map R f xs h.1 g.1) (across-flat_map R f (f x) xs h.0)

pub apart-map : {X Y : Type 0} (R : Y → Y → Type 0) (f : X → Y) (xs : List X) → Apart (λ a b. R (f a) (f b)) xs → Apart R (map f xs)
apart-map R f [] h = tt
apart-map R f (x ∷ xs) h = (mapped (R (f x)) f xs h.0, apart-map R f xs h.1)
  where
    mapped : {X Y : Type 0} (P : Y → Type 0) (f : X → Y) (xs : List X) → AllByRecursion (λ x. P (f x)) xs → AllByRecursion P (map f xs)
    mapped P f [] h = tt
    mapped P f (x ∷ xs) h = (h.0, mapped P f xs h.1)

pub apart-imp : {X : Type 0} (P : X → Type 0) (R S : X → X → Type 0) (xs : List X) → ((x y : X) → P x → P y → R x y → S x y) → AllByRecursion P xs → Apart R xs → Apart S xs
apart-imp P R S [] f p h = tt
apart-imp P R S (x ∷ xs) f p h = (both P (R x) (S x) xs (λ y q r. f x y p.0 q r) p.1 h.0, apart-imp P R S xs f p.1 h.1)

-- Numbers, and indices.

below : (n : ℕ) → AllByRecursion (λ k. k < n) (upto n)
below zero = tt
below (suc n) = each-append (λ k. k < suc n) (upto n) (n ∷ []) (each-imp (λ k. k < n) (λ k. k < suc n) (upto n) (λ k l. omega (arith, l)) (below n)) (omega arith, tt)

apart-upto : (n : ℕ) → Apart (λ i j. i ≢ j) (upto n)
apart-upto zero = tt
apart-upto (suc n) = apart-append (λ i j. i ≢ j) (upto n) (n ∷ []) (apart-upto n) (tt, tt) (each-imp (λ k. k < n) (λ k. AllByRecursion (λ j. k ≢ j) (n ∷ [])) (upto n) (λ k l. ((λ e. absurd (omega (arith, l, e))), tt)) (below n))

abbrev head_of : List ℕ → ℕ
head_of [] = 0
head_of (i ∷ is) = i

abbrev tail_of : List ℕ → List ℕ
tail_of [] = []
tail_of (i ∷ is) = is

abbrev IsHeaded : ℕ → List ℕ → Type 0
IsHeaded i [] = ⊥
IsHeaded i (j ∷ js) = i ≡ j

headed : (i : ℕ) (rs : List (List ℕ)) → AllByRecursion (IsHeaded i) (map (λ is. i ∷ is) rs)
headed i [] = tt
headed i (r ∷ rs) = (refl, headed i rs)

pub apart-rows : (dims : List ℕ) → Apart (λ i j. i ≢ j) (rows dims)
apart-rows [] = (tt, tt)
apart-rows (d ∷ ds) = apart-flat_map (λ i j. i ≢ j) (λ i. map (λ is. i ∷ is) (rows ds)) (upto d) (apart-imp (λ k. k < d) (λ i j. i ≢ j) _ (upto d) (λ i j l m n. blocks i j n) (below d) (apart-upto d)) (all-of _ (upto d) (block (apart-rows ds)))
  where
    block : Apart (λ i j. i ≢ j) (rows ds) → (i : ℕ) → Apart (λ i j. i ≢ j) (map (λ is. i ∷ is) (rows ds))
    block h i = apart-map (λ i j. i ≢ j) (λ is. i ∷ is) (rows ds) (apart-imp (λ r. Unit {0}) (λ i j. i ≢ j) _ (rows ds) (λ x y p q n e. n (ap tail_of e)) (all-of _ (rows ds) (λ r. tt)) h)

    heads : (i j : ℕ) → i ≢ j → (xs ys : List ℕ) → IsHeaded i xs → IsHeaded j ys → xs ≢ ys
    heads i j n [] ys p q = absurd p
    heads i j n (x ∷ xs) [] p q = absurd q
    heads i j n (x ∷ xs) (y ∷ ys) p q = λ e. n (p ∙ ap head_of e ∙ sym q)

    blocks : (i j : ℕ) → i ≢ j → Across (λ i j. i ≢ j) (map (λ is. i ∷ is) (rows ds)) (map (λ is. j ∷ is) (rows ds))
    blocks i j n = across (IsHeaded i) (IsHeaded j) (λ i j. i ≢ j) _ _ (heads i j n) (headed i (rows ds)) (headed j (rows ds))
