-- Readers of places, and those of one parameter more.
use Rattle.std.proofs.Common.{◌≡◌, ◌∙◌, ◌⊎◌, inl, inr, ℕ, zero, suc, ◌<◌, ◌≤◌, Bool, true, false, ◌&&◌, ◌||◌, cond, nat_eq, nat_lt, bytes_eq, List, [], ◌∷◌, ◌++◌, length, map, take, slice_get, unwrap_or, option_map, Option, None, Some, IfSome, refl, sym, ap, subst, arith}
use Rattle.std.specs.BTreeMap.{is_at}
use Rattle.std.specs.BTreeSet.{contains}
use Rattle.std.specs.Cmp.{tied_then, unsigned_tied}
use Rattle.std.specs.List.{list_any, position_from}
use Rattle.std.specs.Ordering.{is_gt, nat_cmp}
use Rattle.std.proofs.lemmas.Bool.Decides.{nat_tests}
use Rattle.std.proofs.lemmas.Map.Keys.{le_from_not_gt}
use Rattle.rdl_tree.specs.declared.expr.Name.{Name}
use Rattle.rdl_tree.specs.declared.item.Param.{Param}
use Rattle.rdl_values.specs.Firsts.{AreFirsts, place_of}
use Rattle.rdl_values.specs.Overlaid.{names_of, plain_of}
use Rattle.rdl_values.specs.Places.{IsNextPlace, has_place, is_found}
use Rattle.rdl_values.specs.Readers.{AreReaders, has_reader, is_meant, is_reader, place_cmp, stands_at}
use Rattle.rdl_values.specs.declared.firsts.Firsts.{Firsts}
use Rattle.rdl_values.specs.declared.places.Places.{Places}
use Rattle.rdl_values.specs.declared.readers.Readers.{Readers}
use Rattle.rdl_values.proofs.Plains.{plain-names}
use Rattle.plain_lemmas.proofs.Lists.{get-beyond, get-end, get-front, length-append, list_any-alike, list_any-append}

-- One that is put in.

put_one : (a : Bool) (b : Bool) → cond a true b ≡ (a || b)
put_one true b = refl
put_one false b = refl

pub one_more : (old new : Readers) (read reader : ℕ) → ((q : ℕ × ℕ) → contains place_cmp new.set q ≡ cond (is_at (place_cmp (read, reader)) q) true (contains place_cmp old.set q)) → (j k : ℕ) → has_reader new j k ≡ ((nat_eq read j && nat_eq reader k) || has_reader old j k)
one_more old new read reader updates j k =
    updates (j, k) ∙ ap (λ t. cond t true (has_reader old j k)) (sym (tied_then (nat_cmp read j) (nat_cmp reader k)) ∙ (λ i. unsigned_tied read j i && unsigned_tied reader k i)) ∙ put_one (nat_eq read j && nat_eq reader k) (has_reader old j k)

-- The order of pairs of places.

pair-le : (j from k : ℕ) → from ≤ k → is_gt (place_cmp (j, from) (j, k)) ≡ false
pair-le j from k l =
    let first : nat_lt j j ≡ false = grind (arith, nat_tests) in
    let same : nat_eq j j ≡ true = grind (arith, nat_tests) in
    rw (first, same) (second (nat_lt from k) refl (nat_eq from k) refl)
  where
    second : (a : Bool) → nat_lt from k ≡ a → (b : Bool) → nat_eq from k ≡ b → is_gt (nat_cmp from k) ≡ false
    second true p b q = rw p refl
    second false p true q = rw (p, q) refl
    second false p false q = absurd (grind (arith, nat_tests, l, p, q))

le-pair : (j from k m : ℕ) → is_gt (place_cmp (j, from) (k, m)) ≡ false → (j ≤ k) × (j ≡ k → from ≤ m)
le-pair j from k m h = go (nat_lt j k) refl (nat_eq j k) refl
  where
    go : (a : Bool) → nat_lt j k ≡ a → (b : Bool) → nat_eq j k ≡ b → (j ≤ k) × (j ≡ k → from ≤ m)
    go true p b q = (grind (arith, nat_tests, p), λ e. absurd (grind (arith, nat_tests, p, e)))
    go false p true q =
        let rest : is_gt (nat_cmp from m) ≡ false = sym (rw (p, q) refl) ∙ h in
        (grind (arith, nat_tests, q), λ e. le_from_not_gt from m rest)
    go false p false q = let no : true ≡ false = sym (rw (p, q) refl) ∙ h in cc

-- The first reader from a place on, by the first pair.

pub first_of : {X : Type 0} (P : X → Type 0) (xs : List X) (x : X) (rest : List X) → xs ≡ x ∷ rest → IfSome (slice_get xs 0) P → P x
first_of P xs x rest e h = subst (λ ys. IfSome (slice_get ys 0) P) e h

not_true : (b : Bool) → (b ≡ true → ⊥) → b ≡ false
not_true true h = absurd (h refl)
not_true false h = refl

module _ (r : Readers) (read from : ℕ) where
  pub none_next : ((q : ℕ × ℕ) → is_gt (place_cmp (read, from) q) ≡ false → contains place_cmp r.set q ≡ false) → (k : ℕ) → from ≤ k → has_reader r read k ≡ false
  none_next none k l = none (read, k) (pair-le read from k l)

  module _ (j m : ℕ) (above : is_gt (place_cmp (read, from) (j, m)) ≡ false) (has : contains place_cmp r.set (j, m) ≡ true) (least : (q : ℕ × ℕ) → is_gt (place_cmp (read, from) q) ≡ false → contains place_cmp r.set q ≡ true → is_gt (place_cmp (j, m) q) ≡ false) where
    pub is_next : j ≡ read → IsNextPlace (has_reader r read) from (Some m)
    is_next e =
        let at = le-pair read from j m above in (
          at.1 (sym e),
          ap (λ i. contains place_cmp r.set (i, m)) (sym e) ∙ has,
          λ k l n. not_true (has_reader r read k) (λ t.
              let behind = le-pair j m read k (least (read, k) (pair-le read from k l) t) in
              let past = behind.1 e in
              omega (arith, past, n)),
        )

    pub no_next : (j ≡ read → ⊥) → IsNextPlace (has_reader r read) from None
    no_next other k l = not_true (has_reader r read k) (λ t.
        let at = le-pair read from j m above in
        let behind = le-pair j m read k (least (read, k) (pair-le read from k l) t) in
        other (omega (arith, at.0, behind.0)))

-- Readers that are put among places.

module _ (r : Readers) (read : ℕ) (before now : Places) where
  -- those in front of a place were put
  abbrev pub ArePut : ℕ → Type 0
  ArePut from = (k : ℕ) → has_place now k ≡ ((nat_lt k from && has_reader r read k) || has_place before k)

below-none : (k : ℕ) → nat_lt k 0 ≡ false
below-none k = grind (arith, nat_tests)

pub none_put : (r : Readers) (read : ℕ) (before now : Places) → now ≡ before → ArePut r read before now 0
none_put r read before now e k = ap (λ p. has_place p k) e ∙ ap (λ b. (b && has_reader r read k) || has_place before k) (sym (below-none k))

-- up to another place, in front of which no others stand
pub put_upto : (r : Readers) (read : ℕ) (before now : Places) (from upto : ℕ) → ArePut r read before now from → from ≤ upto → ((k : ℕ) → from ≤ k → k < upto → has_reader r read k ≡ false) → ArePut r read before now upto
put_upto r read before now from upto put l none k = put k ∙ ap (λ b. b || has_place before k) (go (nat_lt k from) refl (nat_lt k upto) refl)
  where
    go : (a : Bool) → nat_lt k from ≡ a → (b : Bool) → nat_lt k upto ≡ b → (nat_lt k from && has_reader r read k) ≡ (nat_lt k upto && has_reader r read k)
    go true p true q = rw (p, q) refl
    go true p false q = absurd (grind (arith, nat_tests, l, p, q))
    go false p false q = rw (p, q) refl
    go false p true q =
        let above : from ≤ k = grind (arith, nat_tests, p) in
        let below : k < upto = grind (arith, nat_tests, q) in
        let no = none k above below in
        rw (p, q, no) refl

-- one that is put
pub put_next : (r : Readers) (read : ℕ) (before now then_ : Places) (from reader : ℕ) → ArePut r read before now from → from ≤ reader → has_reader r read reader ≡ true → ((k : ℕ) → from ≤ k → k < reader → has_reader r read k ≡ false)
    → ((k : ℕ) → has_place then_ k ≡ (nat_eq reader k || has_place now k)) → ArePut r read before then_ (suc reader)
put_next r read before now then_ from reader put l has none more k = more k ∙ ap (λ b. nat_eq reader k || b) (put_upto r read before now from reader put l none k) ∙ go (nat_eq reader k) refl
  where
    go : (e : Bool) → nat_eq reader k ≡ e → (nat_eq reader k || ((nat_lt k reader && has_reader r read k) || has_place before k)) ≡ ((nat_lt k (suc reader) && has_reader r read k) || has_place before k)
    go true p =
        let same : reader ≡ k = grind (arith, nat_tests, p) in
        let here : has_reader r read k ≡ true = ap (has_reader r read) (sym same) ∙ has in
        let within : nat_lt k (suc reader) ≡ true = grind (arith, nat_tests, same) in
        rw (p, here, within) refl
    go false p =
        let within : nat_lt k (suc reader) ≡ nat_lt k reader = grind (arith, nat_tests, p) in
        rw (p, within) refl

-- A reader of some names, and of others.

pub none_noted : (r o : Bool) → o ≡ ((r && false) || o)
none_noted true o = refl
none_noted false o = refl

pub one_noted : (a r o : Bool) → ((a && r) || o) ≡ ((r && (a || false)) || o)
one_noted true true o = refl
one_noted true false o = refl
one_noted false true o = refl
one_noted false false o = refl

pub both_noted : {X : Type 0} (f : X → Bool) (xs ys : List X) (r o : Bool) → ((r && list_any f ys) || ((r && list_any f xs) || o)) ≡ ((r && list_any f (xs ++ ys)) || o)
both_noted f xs ys r o = go r (list_any f xs) (list_any f ys) ∙ ap (λ b. (r && b) || o) (sym (list_any-append f xs ys))
  where
    go : (r a b : Bool) → ((r && b) || ((r && a) || o)) ≡ ((r && (a || b)) || o)
    go false a b = refl
    go true true true = refl
    go true true false = refl
    go true false true = refl
    go true false false = refl

-- The readers of one parameter more.

pub no_readers : (r : Readers) → ((j k : ℕ) → has_reader r j k ≡ false) → AreReaders r []
no_readers r h j k = h j k

take-within : {X : Type 0} (xs : List X) (x : X) (k : ℕ) → k ≤ length xs → take k (xs ++ (x ∷ [])) ≡ take k xs
take-within xs x zero l = refl
take-within [] x (suc k) l = absurd (omega (arith, l))
take-within (y ∷ ys) x (suc k) l = ap (λ r. y ∷ r) (take-within ys x k (omega (arith, l)))

take-whole : {X : Type 0} (xs : List X) (x : X) → take (length xs) (xs ++ (x ∷ [])) ≡ xs
take-whole [] x = refl
take-whole (y ∷ ys) x = ap (λ r. y ∷ r) (take-whole ys x)

-- what a list has at a place, or nothing past its end
at-or-beyond : {X : Type 0} (xs : List X) (k : ℕ) → ((x : X) × (slice_get xs k ≡ Some x)) ⊎ (slice_get xs k ≡ None)
at-or-beyond [] k = inr refl
at-or-beyond (x ∷ xs) zero = inl (x, refl)
at-or-beyond (x ∷ xs) (suc k) = at-or-beyond xs k

at-within : {X : Type 0} (xs : List X) (k : ℕ) (x : X) → slice_get xs k ≡ Some x → k < length xs
at-within [] k x e = cc
at-within (y ∷ ys) zero x e = omega arith
at-within (y ∷ ys) (suc k) x e = let l = at-within ys k x e in omega (arith, l)

beyond-at : {X : Type 0} (xs : List X) (k : ℕ) → slice_get xs k ≡ None → length xs ≤ k
beyond-at [] k e = omega arith
beyond-at (y ∷ ys) zero e = cc
beyond-at (y ∷ ys) (suc k) e = let l = beyond-at ys k e in omega (arith, l)

-- whether what may stand at a place reads one in front of it
abbrev by_ : ℕ → List Param → Option Param → Bool
by_ read before o = unwrap_or (option_map (λ q. list_any (is_meant before read) (names_of q.default)) o) false

module _ (ps : List Param) (p : Param) (read : ℕ) where
  pub reader-more : (k : ℕ) → is_reader (ps ++ (p ∷ [])) read k ≡ ((nat_eq (length ps) k && list_any (is_meant ps read) (names_of p.default)) || is_reader ps read k)
  reader-more k = go (at-or-beyond ps k)
    where
      go : ((x : Param) × (slice_get ps k ≡ Some x)) ⊎ (slice_get ps k ≡ None) → is_reader (ps ++ (p ∷ [])) read k ≡ ((nat_eq (length ps) k && list_any (is_meant ps read) (names_of p.default)) || is_reader ps read k)
      go (inl there) =
          let l = at-within ps k there.0 there.1 in
          let other : nat_eq (length ps) k ≡ false = grind (arith, nat_tests, l) in
          let front = take-within ps p k (omega (arith, l)) in
          ap (by_ read (take k (ps ++ (p ∷ [])))) (get-front ps (p ∷ []) k there.0 there.1 ∙ sym there.1) ∙ ap (λ before. by_ read before (slice_get ps k)) front
          ∙ ap (λ b. (b && list_any (is_meant ps read) (names_of p.default)) || is_reader ps read k) (sym other)
      go (inr none) = last (nat_eq (length ps) k) refl
        where
          l : length ps ≤ k
          l = beyond-at ps k none

          or-none : (b : Bool) → b ≡ (b || false)
          or-none true = refl
          or-none false = refl

          last : (e : Bool) → nat_eq (length ps) k ≡ e → is_reader (ps ++ (p ∷ [])) read k ≡ ((nat_eq (length ps) k && list_any (is_meant ps read) (names_of p.default)) || is_reader ps read k)
          last true q =
              let same : k ≡ length ps = grind (arith, nat_tests, q) in
              let front : take k (ps ++ (p ∷ [])) ≡ ps = ap (λ i. take i (ps ++ (p ∷ []))) same ∙ take-whole ps p in
              ap (by_ read (take k (ps ++ (p ∷ [])))) (get-end ps p k same) ∙ ap (λ before. list_any (is_meant before read) (names_of p.default)) front ∙ or-none (list_any (is_meant ps read) (names_of p.default))
              ∙ (λ j. (sym q j && list_any (is_meant ps read) (names_of p.default)) || by_ read (take k ps) (sym none j))
          last false q =
              let past : length (ps ++ (p ∷ [])) ≤ k = let size = length-append ps (p ∷ []) in grind (arith, nat_tests, q, l, size) in
              ap (by_ read (take k (ps ++ (p ∷ [])))) (get-beyond (ps ++ (p ∷ [])) k past) ∙ (λ j. (sym q j && list_any (is_meant ps read) (names_of p.default)) || by_ read (take k ps) (sym none j))

pub readers_more : (places : Firsts) (old new : Readers) (ps : List Param) (p : Param) (at : ℕ) → AreReaders old ps → AreFirsts places (map (λ x. x.0) (plain_of ps)) → at ≡ length ps
    → ((j k : ℕ) → has_reader new j k ≡ ((nat_eq at k && list_any (stands_at places j) (names_of p.default)) || has_reader old j k)) → AreReaders new (ps ++ (p ∷ []))
readers_more places old new ps p at h firsts e more j k =
    more j k ∙ (λ i. (nat_eq (e i) k && list_any-alike (stands_at places j) (is_meant ps j) (names_of p.default) meant i) || h j k i) ∙ sym (reader-more ps p j k)
  where
    meant : (n : Name) → stands_at places j n ≡ is_meant ps j n
    meant n = ap (λ o. is_found o j) (firsts.at n.text.now ∙ ap (position_from (λ m. bytes_eq m n.text.now) 0) (plain-names ps))

-- a reader stands in the list
pub within_list : (ps : List Param) (read k size : ℕ) → size ≡ length ps → (nat_lt k size && is_reader ps read k) ≡ is_reader ps read k
within_list ps read k size e = go (at-or-beyond ps k)
  where
    none : (b : Bool) → (b && false) ≡ false
    none true = refl
    none false = refl

    go : ((x : Param) × (slice_get ps k ≡ Some x)) ⊎ (slice_get ps k ≡ None) → (nat_lt k size && is_reader ps read k) ≡ is_reader ps read k
    go (inl there) =
        let l = at-within ps k there.0 there.1 in
        let within : nat_lt k size ≡ true = grind (arith, nat_tests, l, e) in
        ap (λ b. b && is_reader ps read k) within
    go (inr gone) = ap (λ b. nat_lt k size && b) (no gone) ∙ none (nat_lt k size) ∙ sym (no gone)
      where
        no : slice_get ps k ≡ None → is_reader ps read k ≡ false
        no q = ap (λ o. by_ read (take k ps) o) q
