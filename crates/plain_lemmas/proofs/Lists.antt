-- Lemmas on lists.
use Rattle.std.proofs.Common.{ℕ, ◌≡◌, true, List, refl, ◌-◌, ◌∷◌, length, take, drop, arith, length-drop, zero, suc, ◌+◌, [], ◌++◌, Some, slice_get, ◌≤◌, None, ap, ◌<◌, ◌∙◌, Bool, false, cond, filter, if◌then◌else◌, ◌||◌, map, fold, option_map, flat_map, sym, subst, get_or}
use Rattle.std.proofs.lemmas.Grind.{common_steps}
use Rattle.std.proofs.lemmas.List.{take_all}
use Rattle.std.proofs.lemmas.List.Sums.{sum_by-append, sum_by-cons}
use Rattle.std.proofs.lemmas.Option.{same_Some}
use Rattle.std.proofs.lemmas.Slice.Eq.{bytes_eq-Decides}
use Rattle.std.specs.Cmp.Lexicographic.{nat_list_eq_equiv, bytes_decides}
use Rattle.std.specs.List.{AllByRecursion, list_any, list_all, position_from}
use Rattle.std.specs.List.Sorted.{IsStrictlyIncreasing}
use Rattle.std.specs.Prelude.{Contains, count_by}
use Rattle.std.specs.Str.{bytes_eq}
use Rattle.plain_lemmas.proofs.Bools.{and-both as and_left}
use Rattle.std.proofs.lemmas.Bool.{false_from_ne_true}

pub bytes_eq-itself : (n : List ℕ) → bytes_eq n n ≡ true
bytes_eq-itself n = (bytes_eq-Decides n n).1 refl

pub take_drop-one : (x : ℕ) (bs : List ℕ) → take (length (x ∷ bs) - 1) (drop 1 (x ∷ bs)) ≡ bs
take_drop-one x bs = grind (arith, common_steps)

pub take_drop-rest : (n : ℕ) (text : List ℕ) → take (length text - n) (drop n text) ≡ drop n text
take_drop-rest n text = take_all (length text - n) (drop n text) (omega (arith, length-drop n text))

pub bytes_eq-swap : (a b : List ℕ) → bytes_eq a b ≡ bytes_eq b a
bytes_eq-swap a b = nat_list_eq_equiv.symm a b

pub bytes_eq-same : (a b : List ℕ) → bytes_eq a b ≡ true → a ≡ b
bytes_eq-same a b e = (bytes_decides a b).0 e

pub take_drop-two : (x y : ℕ) (bs : List ℕ) → take (length (x ∷ y ∷ bs) - 2) (drop 2 (x ∷ y ∷ bs)) ≡ bs
take_drop-two x y bs = grind (arith, common_steps)

pub get-end : {X : Type 0} (xs : List X) (y : X) (k : ℕ) → k ≡ length xs → slice_get (xs ++ (y ∷ [])) k ≡ Some y
get-end [] y zero e = refl
get-end [] y (suc k) e = absurd (omega (arith, e))
get-end (z ∷ xs) y zero e = absurd (omega (arith, e))
get-end (z ∷ xs) y (suc k) e = get-end xs y k (omega (arith, e))

pub get-last : {X : Type 0} (xs : List X) (x : X) → slice_get (xs ++ (x ∷ [])) (length xs) ≡ Some x
get-last [] x = refl
get-last (y ∷ ys) x = get-last ys x

pub get-beyond : {X : Type 0} (xs : List X) (k : ℕ) → length xs ≤ k → slice_get xs k ≡ None
get-beyond [] k l = refl
get-beyond (x ∷ xs) zero l = absurd (omega (arith, l))
get-beyond (x ∷ xs) (suc k) l = get-beyond xs k (omega (arith, l))

pub take-all : {X : Type 0} (xs : List X) (n : ℕ) → length xs ≤ n → take n xs ≡ xs
take-all [] zero l = refl
take-all [] (suc n) l = refl
take-all (x ∷ xs) zero l = absurd (omega (arith, l))
take-all (x ∷ xs) (suc n) l = ap (λ t. x ∷ t) (take-all xs n (omega (arith, l)))

pub none-beyond : {X : Type 0} (xs : List X) (k : ℕ) → slice_get xs k ≡ None → length xs ≤ k
none-beyond [] k e = omega arith
none-beyond (x ∷ xs) zero e = cc e
none-beyond (x ∷ xs) (suc k) e = let l = none-beyond xs k e in omega (arith, l)

pub get-not_none : {X : Type 0} (xs : List X) (k : ℕ) → k < length xs → slice_get xs k ≡ None → ⊥
get-not_none [] k l e = omega (arith, l)
get-not_none (x ∷ xs) zero l e = cc e
get-not_none (x ∷ xs) (suc k) l e = get-not_none xs k (omega (arith, l)) e

pub append-none : {X : Type 0} (xs : List X) → xs ++ [] ≡ xs
append-none [] = refl
append-none (x ∷ xs) = ap (λ ys. x ∷ ys) (append-none xs)

pub filter-none : {X : Type 0} (p : X → Bool) (xs : List X) → ((x : X) → p x ≡ false) → filter p xs ≡ []
filter-none p [] h = refl
filter-none p (x ∷ xs) h = ap (λ b. cond b (x ∷ filter p xs) (filter p xs)) (h x) ∙ filter-none p xs h

pub filter-each : {X : Type 0} (f : X → Bool) (xs : List X) → AllByRecursion (λ x. f x ≡ true) (filter f xs)
filter-each f [] = tt
filter-each f (x ∷ xs) = go (f x) refl (filter-each f xs)
  where
    go : (b : Bool) → f x ≡ b → AllByRecursion (λ y. f y ≡ true) (filter f xs) → AllByRecursion (λ y. f y ≡ true) (cond b (x ∷ filter f xs) (filter f xs))
    go true e h = (e, h)
    go false e h = h

pub filter-append : {X : Type 0} (p : X → Bool) (xs ys : List X) → filter p (xs ++ ys) ≡ filter p xs ++ filter p ys
filter-append p [] ys = refl
filter-append p (x ∷ xs) ys = elim (p x) as (λ (b : Bool). (if b then x ∷ filter p (xs ++ ys) else filter p (xs ++ ys)) ≡ (if b then x ∷ filter p xs else filter p xs) ++ filter p ys) [
  | true ↦ ap (λ l. x ∷ l) (filter-append p xs ys)
  | false ↦ filter-append p xs ys
]

pub list_any-append : {X : Type 0} (p : X → Bool) (xs ys : List X) → list_any p (xs ++ ys) ≡ list_any p xs || list_any p ys
list_any-append p [] ys = refl
list_any-append p (x ∷ xs) ys = ap (λ b. p x || b) (list_any-append p xs ys) ∙ or-assoc (p x) (list_any p xs) (list_any p ys)
  where
    or-assoc : (a b c : Bool) → a || (b || c) ≡ (a || b) || c
    or-assoc true b c = refl
    or-assoc false b c = refl

pub each-filter : {X : Type 0} (P : X → Type 0) (f : X → Bool) (xs : List X) → AllByRecursion P xs → AllByRecursion P (filter f xs)
each-filter P f [] h = tt
each-filter P f (x ∷ xs) h = go (f x) (each-filter P f xs h.1)
  where
    go : (b : Bool) → AllByRecursion P (filter f xs) → AllByRecursion P (cond b (x ∷ filter f xs) (filter f xs))
    go true rest = (h.0, rest)
    go false rest = rest

pub each-left : {X : Type 0} (P : X → Type 0) (xs ys : List X) → AllByRecursion P (xs ++ ys) → AllByRecursion P xs
each-left P [] ys h = tt
each-left P (x ∷ xs) ys h = (h.0, each-left P xs ys h.1)

pub each-right : {X : Type 0} (P : X → Type 0) (xs ys : List X) → AllByRecursion P (xs ++ ys) → AllByRecursion P ys
each-right P [] ys h = h
each-right P (x ∷ xs) ys h = each-right P xs ys h.1

pub nil-cons : {X : Type 0} (y : X) (ys : List X) → [] ≡ y ∷ ys → ⊥
nil-cons y ys e = cc

pub get-front_of : {X : Type 0} (xs ys : List X) (y : X) (k : ℕ) → slice_get xs k ≡ Some y → slice_get (xs ++ ys) k ≡ Some y
get-front_of [] ys y k e = cc
get-front_of (z ∷ xs) ys y zero e = e
get-front_of (z ∷ xs) ys y (suc k) e = get-front_of xs ys y k e

pub get-front : {X : Type 0} (xs ys : List X) (j : ℕ) (x : X) → slice_get xs j ≡ Some x → slice_get (xs ++ ys) j ≡ Some x
get-front [] ys j x e = cc e
get-front (z ∷ zs) ys zero x e = e
get-front (z ∷ zs) ys (suc j) x e = get-front zs ys j x e

pub get-behind : {X : Type 0} (xs ys : List X) (k : ℕ) → slice_get (xs ++ ys) (length xs + k) ≡ slice_get ys k
get-behind [] ys k = ap (slice_get ys) (omega arith)
get-behind (x ∷ xs) ys k = let e : length (x ∷ xs) + k ≡ suc (length xs + k) = omega arith in ap (slice_get (x ∷ (xs ++ ys))) e ∙ get-behind xs ys k

pub length-append : {X : Type 0} (xs ys : List X) → length (xs ++ ys) ≡ length xs + length ys
length-append [] ys = omega arith
length-append (x ∷ xs) ys = let rest = length-append xs ys in omega (arith, rest)

pub list_any-alike : {X : Type 0} (p q : X → Bool) (xs : List X) → ((x : X) → p x ≡ q x) → list_any p xs ≡ list_any q xs
list_any-alike p q [] h = refl
list_any-alike p q (x ∷ xs) h = (λ i. h x i || list_any-alike p q xs h i)

pub cons-head : {X : Type 0} (x y : X) (xs ys : List X) → x ∷ xs ≡ y ∷ ys → x ≡ y
cons-head x y xs ys e = cc

pub cons-tail : {X : Type 0} (x y : X) (xs ys : List X) → x ∷ xs ≡ y ∷ ys → xs ≡ ys
cons-tail x y xs ys e = cc

pub each-both : {X : Type 0} (P Q R : X → Type 0) (xs : List X) → ((x : X) → P x → Q x → R x) → AllByRecursion P xs → AllByRecursion Q xs → AllByRecursion R xs
each-both P Q R [] f p q = tt
each-both P Q R (x ∷ xs) f p q = (f x p.0 q.0, each-both P Q R xs f p.1 q.1)

pub each-mapped : {X Y : Type 0} (P : X → Type 0) (Q : Y → Type 0) (f : X → Y) (xs : List X) → ((x : X) → P x → Q (f x)) → AllByRecursion P xs → AllByRecursion Q (map f xs)
each-mapped P Q f [] g h = tt
each-mapped P Q f (x ∷ xs) g h = (g x h.0, each-mapped P Q f xs g h.1)

pub fold-push : {A X : Type 0} (f : A → X → A) (a : A) (xs : List X) (x : X) → fold f a (xs ++ x ∷ []) ≡ f (fold f a xs) x
fold-push f a [] x = refl
fold-push f a (y ∷ xs) x = fold-push f (f a y) xs x

pub get-map_at : {X Y : Type 0} (f : X → Y) (xs : List X) (k : ℕ) (x : X) → slice_get xs k ≡ Some x → slice_get (map f xs) k ≡ Some (f x)
get-map_at f [] k x e = cc
get-map_at f (y ∷ xs) zero x e = ap (λ z. Some (f z)) (same_Some y x e)
get-map_at f (y ∷ xs) (suc k) x e = get-map_at f xs k x e

pub get-map : {X Y : Type 0} (f : X → Y) (xs : List X) (i : ℕ) → slice_get (map f xs) i ≡ option_map f (slice_get xs i)
get-map f [] i = refl
get-map f (x ∷ xs) zero = refl
get-map f (x ∷ xs) (suc i) = get-map f xs i

pub length-map : {X Y : Type 0} (f : X → Y) (xs : List X) → length (map f xs) ≡ length xs
length-map f [] = refl
length-map f (x ∷ xs) = ap suc (length-map f xs)

pub map-filter : {X Y : Type 0} (g : X → Y) (p : Y → Bool) (xs : List X) → map g (filter (λ x. p (g x)) xs) ≡ filter p (map g xs)
map-filter g p [] = refl
map-filter g p (x ∷ xs) = go (p (g x)) (map-filter g p xs)
  where
    go : (b : Bool) → map g (filter (λ y. p (g y)) xs) ≡ filter p (map g xs) → map g (cond b (x ∷ filter (λ y. p (g y)) xs) (filter (λ y. p (g y)) xs)) ≡ cond b (g x ∷ filter p (map g xs)) (filter p (map g xs))
    go true h = ap (λ ys. g x ∷ ys) h
    go false h = h

pub map-append : {X Y : Type 0} (f : X → Y) (xs ys : List X) → map f (xs ++ ys) ≡ map f xs ++ map f ys
map-append f [] ys = refl
map-append f (x ∷ xs) ys = ap (λ z. f x ∷ z) (map-append f xs ys)

pub each-flat : {X Y : Type 0} (P : Y → Type 0) (f : X → List Y) (xs : List X) → AllByRecursion P (flat_map f xs) → AllByRecursion (λ x. AllByRecursion P (f x)) xs
each-flat P f [] h = tt
each-flat {Y = Y} P f (x ∷ xs) h = (left (f x) h, each-flat P f xs (right (f x) h))
  where
    left : (ys : List Y) → AllByRecursion P (ys ++ flat_map f xs) → AllByRecursion P ys
    left [] g = tt
    left (y ∷ ys) g = (g.0, left ys g.1)

    right : (ys : List Y) → AllByRecursion P (ys ++ flat_map f xs) → AllByRecursion P (flat_map f xs)
    right [] g = g
    right (y ∷ ys) g = right ys g.1

pub flat_map-alike : {X Y : Type 0} (f g : X → List Y) (xs : List X) → ((x : X) → f x ≡ g x) → flat_map f xs ≡ flat_map g xs
flat_map-alike f g [] h = refl
flat_map-alike f g (x ∷ xs) h = ap (λ ys. ys ++ flat_map f xs) (h x) ∙ ap (λ ys. g x ++ ys) (flat_map-alike f g xs h)

pub map-alike : {X Y : Type 0} (f g : X → Y) (xs : List X) → ((x : X) → Contains xs x → f x ≡ g x) → map f xs ≡ map g xs
map-alike f g [] h = refl
map-alike f g (x ∷ xs) h = (λ i. h x (0, omega arith, refl) i ∷ map-alike f g xs (λ y c. h y (suc c.0, omega (arith, c.1), c.2)) i)

pub map-map : {X Y Z : Type 0} (f : Y → Z) (g : X → Y) (xs : List X) → map f (map g xs) ≡ map (λ x. f (g x)) xs
map-map f g [] = refl
map-map f g (x ∷ xs) = ap (λ ys. f (g x) ∷ ys) (map-map f g xs)

pub get-within : {A : Type 0} (xs : List A) (i : ℕ) (x : A) → slice_get xs i ≡ Some x → i < length xs
get-within [] i x e = cc e
get-within (y ∷ ys) zero x e = omega arith
get-within (y ∷ ys) (suc i) x e = let l = get-within ys i x e in omega (arith, l)

pub all-get : {X : Type 0} (test : X → Bool) (xs : List X) (k : ℕ) (x : X) → list_all test xs ≡ true → slice_get xs k ≡ Some x → test x ≡ true
all-get test [] k x h e = cc
all-get test (y ∷ ys) zero x h e = ap test (sym (same_Some y x e)) ∙ (and_left (test y) (list_all test ys) h).0
all-get test (y ∷ ys) (suc k) x h e = all-get test ys k x (and_left (test y) (list_all test ys) h).1 e

pub each-get : {X : Type 0} (P : X → Type 0) (xs : List X) (k : ℕ) (x : X) → AllByRecursion P xs → slice_get xs k ≡ Some x → P x
each-get P [] k x h e = cc e
each-get P (y ∷ ys) zero x h e = let same : y ≡ x = cc e in subst P same h.0
each-get P (y ∷ ys) (suc k) x h e = each-get P ys k x h.1 e

pub some-at : {X : Type 0} (xs : List X) (i : ℕ) → i < length xs → (x : X) × (slice_get xs i ≡ Some x)
some-at [] i l = absurd (omega (arith, l))
some-at (x ∷ xs) zero l = (x, refl)
some-at (x ∷ xs) (suc i) l = some-at xs i (omega (arith, l))

pub each-append : {X : Type 0} (P : X → Type 0) (xs ys : List X) → AllByRecursion P xs → AllByRecursion P ys → AllByRecursion P (xs ++ ys)
each-append P [] ys h g = g
each-append P (x ∷ xs) ys h g = (h.0, each-append P xs ys h.1 g)

pub each-imp : {X : Type 0} (P Q : X → Type 0) (xs : List X) → ((x : X) → P x → Q x) → AllByRecursion P xs → AllByRecursion Q xs
each-imp P Q [] f h = tt
each-imp P Q (x ∷ xs) f h = (f x h.0, each-imp P Q xs f h.1)

pub take-get_more : {A : Type 0} (xs : List A) (n i : ℕ) (x : A) → slice_get (take n xs) i ≡ Some x → slice_get (take (suc n) xs) i ≡ Some x
take-get_more [] zero i x h = cc h
take-get_more [] (suc n) i x h = cc h
take-get_more (y ∷ ys) zero i x h = cc h
take-get_more (y ∷ ys) (suc n) zero x h = h
take-get_more (y ∷ ys) (suc n) (suc i) x h = take-get_more ys n i x h

pub mapped-at : {X Y : Type 0} (f : X → Y) (xs : List X) (i : ℕ) (x : X) (d : Y) → slice_get xs i ≡ Some x → get_or (map f xs) i d ≡ f x
mapped-at f [] i x d h = cc h
mapped-at f (y ∷ ys) zero x d h = let e : y ≡ x = cc in ap f e
mapped-at f (y ∷ ys) (suc i) x d h = mapped-at f ys i x d h

pub get-at : {X : Type 0} (xs : List X) (i : ℕ) (d : X) → i < length xs → slice_get xs i ≡ Some (get_or xs i d)
get-at [] i d l = absurd (omega (arith, l))
get-at (x ∷ xs) zero d l = refl
get-at (x ∷ xs) (suc i) d l = get-at xs i d (omega (arith, l))

pub drop-rest : {X : Type 0} (xs : List X) (k : ℕ) (x : X) (rest : List X) → drop k xs ≡ x ∷ rest → drop (suc k) xs ≡ rest
drop-rest [] zero x rest e = cc e
drop-rest [] (suc k) x rest e = cc e
drop-rest (y ∷ ys) zero x rest e = let same : ys ≡ rest = cc e in same
drop-rest (y ∷ ys) (suc k) x rest e = drop-rest ys k x rest e

pub take-rest : {X : Type 0} (xs : List X) (n : ℕ) → take (length xs - n) (drop n xs) ≡ drop n xs
take-rest xs n = take_all (length xs - n) (drop n xs) (omega (arith, length-drop n xs))

pub each-flat_map : {X Y : Type 0} (P : Y → Type 0) (f : X → List Y) (xs : List X) → AllByRecursion (λ x. AllByRecursion P (f x)) xs → AllByRecursion P (flat_map f xs)
each-flat_map P f [] h = tt
each-flat_map P f (x ∷ xs) h = each-append P (f x) (flat_map f xs) h.0 (each-flat_map P f xs h.1)

pub any-get : {X : Type 0} (p : X → Bool) (xs : List X) (i : ℕ) (x : X) → slice_get xs i ≡ Some x → p x ≡ true → list_any p xs ≡ true
any-get p [] i x e t = cc
any-get p (y ∷ ys) zero x e t = let q : y ≡ x = cc in let r : p y ≡ true = ap p q ∙ t in rw r refl
any-get p (y ∷ ys) (suc i) x e t = let r : list_any p ys ≡ true = any-get p ys i x e t in later (p y) r
  where
    later : (c : Bool) → list_any p ys ≡ true → (c || list_any p ys) ≡ true
    later true r = refl
    later false r = r

pub any-map : {X Y : Type 0} (p : Y → Bool) (f : X → Y) (xs : List X) → list_any p (map f xs) ≡ list_any (λ x. p (f x)) xs
any-map p f [] = refl
any-map p f (x ∷ xs) = ap (λ b. p (f x) || b) (any-map p f xs)

pub position_from-least : (f : List ℕ → Bool) (i : ℕ) (xs : List (List ℕ)) (k : ℕ) → position_from f i xs ≡ Some k → i ≤ k
position_from-least f i [] k e = cc
position_from-least f i (x ∷ xs) k e = go (f x) e (position_from-least f (i + 1) xs k)
  where
    go : (b : Bool) → cond b (Some i) (position_from f (i + 1) xs) ≡ Some k → (position_from f (i + 1) xs ≡ Some k → i + 1 ≤ k) → i ≤ k
    go true e ih = let same : i ≡ k = cc in omega (arith, same)
    go false e ih = let l = ih e in omega (arith, l)

pub any-default : {X : Type 0} (xs : List X) (i : ℕ) (d e : X) → i < length xs → get_or xs i d ≡ get_or xs i e
any-default [] i d e l = absurd (omega (arith, l))
any-default (x ∷ xs) zero d e l = refl
any-default (x ∷ xs) (suc i) d e l = any-default xs i d e (omega (arith, l))

pub get_or-front : (xs : List ℕ) (y i : ℕ) → i < length xs → get_or (xs ++ y ∷ []) i 0 ≡ get_or xs i 0
get_or-front xs y i h = grind (arith, common_steps)

pub get_or-end : (xs : List ℕ) (y i : ℕ) → i ≡ length xs → get_or (xs ++ y ∷ []) i 0 ≡ y
get_or-end xs y i h = grind (arith, common_steps)

pub differ_by : (a b : List ℕ) → (a ≡ b → ⊥) → bytes_eq a b ≡ false
differ_by a b h = false_from_ne_true (bytes_eq a b) (λ t. h ((bytes_eq-Decides a b).0 t))

pub map-flat_map : {X Y Z : Type 0} (g : Y → Z) (f : X → List Y) (xs : List X) → map g (flat_map f xs) ≡ flat_map (λ x. map g (f x)) xs
map-flat_map g f [] = refl
map-flat_map g f (x ∷ xs) = map-append g (f x) (flat_map f xs) ∙ ap (λ ys. map g (f x) ++ ys) (map-flat_map g f xs)

pub get-mapped : {X Y : Type 0} (f : X → Y) (xs : List X) (k : ℕ) (y : Y) → slice_get (map f xs) k ≡ Some y → (x : X) × (slice_get xs k ≡ Some x) × (f x ≡ y)
get-mapped f [] k y e = cc e
get-mapped f (x ∷ xs) zero y e = let same : f x ≡ y = cc e in (x, refl, same)
get-mapped f (x ∷ xs) (suc k) y e = get-mapped f xs k y e

pub get-taken : {X : Type 0} (xs : List X) (n k : ℕ) (x : X) → slice_get (take n xs) k ≡ Some x → (k < n) × (slice_get xs k ≡ Some x)
get-taken xs zero k x e = cc
get-taken [] (suc n) k x e = cc
get-taken (y ∷ ys) (suc n) zero x e = (omega arith, e)
get-taken (y ∷ ys) (suc n) (suc k) x e = let r = get-taken ys n k x e in (omega (arith, r.0), r.1)

pub count_by-append : {X : Type 0} (p : X → Bool) (xs ys : List X) → count_by p (xs ++ ys) ≡ count_by p xs + count_by p ys
count_by-append p xs ys = sum_by-append (λ x. cond (p x) 1 0) xs ys

pub count_by-cons : {X : Type 0} (p : X → Bool) (x : X) (xs : List X) → count_by p (x ∷ xs) ≡ cond (p x) 1 0 + count_by p xs
count_by-cons p x xs = sum_by-cons (λ y. cond (p y) 1 0) x xs

pub each-unit : {X : Type 0} (xs : List X) → AllByRecursion (λ x. Unit {0}) xs
each-unit [] = tt
each-unit (x ∷ xs) = (tt, each-unit xs)

pub get_or-not_below : (xs : List ℕ) → IsStrictlyIncreasing xs → (i n : ℕ) → i + n < length xs → get_or xs i 0 ≤ get_or xs (i + n) 0
get_or-not_below xs up i zero l = let e : i + 0 ≡ i = omega arith in rw e (omega arith)
get_or-not_below xs up i (suc n) l =
    let before : get_or xs i 0 ≤ get_or xs (i + n) 0 = get_or-not_below xs up i n (omega (arith, l)) in
    let e : i + suc n ≡ i + n + 1 = omega arith in
    let next : get_or xs (i + n) 0 < get_or xs (i + n + 1) 0 = up (i + n) (omega (arith, l)) in
    rw e (omega (arith, before, next))

pub get_or-below : (xs : List ℕ) → IsStrictlyIncreasing xs → (i j : ℕ) → i < j → j < length xs → get_or xs i 0 < get_or xs j 0
get_or-below xs up i j l within =
    let first : get_or xs i 0 < get_or xs (i + 1) 0 = up i (omega (arith, l, within)) in
    let at : i + 1 + (j - (i + 1)) ≡ j = omega (arith, l) in
    let rest : get_or xs (i + 1) 0 ≤ get_or xs (i + 1 + (j - (i + 1))) 0 = get_or-not_below xs up (i + 1) (j - (i + 1)) (omega (arith, l, within)) in
    let same : get_or xs (i + 1 + (j - (i + 1))) 0 ≡ get_or xs j 0 = ap (λ k. get_or xs k 0) at in
    omega (arith, first, rest, same)
