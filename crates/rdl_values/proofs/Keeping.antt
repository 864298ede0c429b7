-- One parameter more that is kept.
use Rattle.std.proofs.Common.{◌≡◌, ◌∙◌, ℕ, zero, suc, Bool, true, false, not, ◌&&◌, ◌||◌, cond, bytes_eq, nat_eq, List, [], ◌∷◌, ◌++◌, length, map, slice_get, Option, None, Some, option_map, option_and_then, is_some, is_none, refl, sym, ap, subst, arith, append_assoc}
use Rattle.std.specs.Borrow.{Bor}
use Rattle.std.specs.List.{list_any}
use Rattle.std.specs.Option.{option_or}
use Rattle.std.proofs.lemmas.Bool.Decides.{nat_tests}
use Rattle.std.proofs.lemmas.List.{length-map, map-append}
use Rattle.std.proofs.lemmas.List.Folds.{list_any-append}
use Rattle.rdl_tree.specs.declared.item.Param.{Param}
use Rattle.rdl_tree.specs.declared.value.Value.{Value}
use Rattle.rdl_values.specs.Firsts.{AreFirsts, place_of}
use Rattle.rdl_values.specs.Seen.{val_of}
use Rattle.rdl_values.specs.Values.{Val}
use Rattle.rdl_values.proofs.Plains.{plain-length}
use Rattle.rdl_values.proofs.Named.{IsPut, any-named, firsts-some, firsts_more}
use Rattle.rdl_values.specs.Kept.{AreDefaults, IsFirstTwice, entry_of, is_needed}
use Rattle.rdl_values.specs.Overlaid.{AreApart, Plain, plain_of}
use Rattle.rdl_values.specs.Places.{has_place}
use Rattle.rdl_values.specs.declared.defaults.Defaults.{Defaults}
use Rattle.plain_lemmas.proofs.Lists.{bytes_eq-swap}

eq-suc : (a b : ℕ) → nat_eq (suc a) (suc b) ≡ nat_eq a b
eq-suc a b = grind (arith, nat_tests)

eq-zero : (k : ℕ) → nat_eq 0 (suc k) ≡ false
eq-zero k = grind (arith, nat_tests)

zero-eq : (k : ℕ) → nat_eq (suc k) 0 ≡ false
zero-eq k = grind (arith, nat_tests)

needed-more : (xs : Plain) (x : List ℕ × Option Val) (k : ℕ) → is_needed (xs ++ (x ∷ [])) k ≡ ((is_none x.1 && nat_eq (length xs) k) || is_needed xs k)
needed-more [] x zero = go (is_none x.1)
  where
    go : (b : Bool) → b ≡ ((b && true) || false)
    go true = refl
    go false = refl
needed-more [] x (suc k) = go (is_none x.1) ∙ ap (λ e. (is_none x.1 && e) || false) (sym (eq-zero k))
  where
    go : (b : Bool) → false ≡ ((b && false) || false)
    go true = refl
    go false = refl
needed-more (y ∷ xs) x zero = go (is_none x.1) ∙ ap (λ e. (is_none x.1 && e) || is_none y.1) (sym (zero-eq (length xs)))
  where
    go : (b : Bool) → is_none y.1 ≡ ((b && false) || is_none y.1)
    go true = refl
    go false = refl
needed-more (y ∷ xs) x (suc k) = needed-more xs x k ∙ ap (λ e. (is_none x.1 && e) || is_needed xs k) (sym (eq-suc (length xs) k))

pub apart_more : (xs : Plain) (n : List ℕ) (o : Option Val) → AreApart xs → list_any (λ x. bytes_eq x.0 n) xs ≡ false → AreApart (xs ++ ((n, o) ∷ []))
apart_more [] n o h e = (refl, tt)
apart_more (x ∷ xs) n o h e = go (bytes_eq x.0 n) refl e (apart_more xs n o h.1)
  where
    go : (b : Bool) → bytes_eq x.0 n ≡ b → (b || list_any (λ x. bytes_eq x.0 n) xs) ≡ false → (list_any (λ x. bytes_eq x.0 n) xs ≡ false → AreApart (xs ++ ((n, o) ∷ []))) → AreApart (x ∷ (xs ++ ((n, o) ∷ [])))
    go true q k r = cc
    go false q k r =
        let other : bytes_eq n x.0 ≡ false = bytes_eq-swap n x.0 ∙ q in
        let last : list_any (λ (y : List ℕ × Option Val). bytes_eq y.0 x.0) ((n, o) ∷ []) ≡ false = rw other refl in
        (list_any-append (λ y. bytes_eq y.0 x.0) xs ((n, o) ∷ []) ∙ ap (λ b. list_any (λ y. bytes_eq y.0 x.0) xs || b) last ∙ ap (λ b. b || false) h.0, r k)

twice_more : (xs : Plain) (n : List ℕ) (o : Option Val) (at : ℕ) (t : Option ℕ) (again : Bool) → at ≡ length xs → again ≡ list_any (λ x. bytes_eq x.0 n) xs → IsFirstTwice xs t → IsFirstTwice (xs ++ ((n, o) ∷ [])) (option_or t (cond again (Some at) None))
twice_more xs n o at (Some k) again e a h = record {
  before = h.before;
  entry = h.entry;
  behind = h.behind ++ ((n, o) ∷ []);
  all = ap (λ ys. ys ++ ((n, o) ∷ [])) h.all ∙ append_assoc h.before (h.entry ∷ h.behind) ((n, o) ∷ []);
  at = h.at;
  apart = h.apart;
  taken = h.taken;
}
twice_more xs n o at None true e a h = record {
  before = xs;
  entry = (n, o);
  behind = [];
  all = refl;
  at = e;
  apart = h;
  taken = sym a;
}
twice_more xs n o at None false e a h = apart_more xs n o h (sym a)

pub defaults_more : (old new : Defaults) (xs : Plain) (n : Bor (List ℕ)) (value : Option Value) (o : Option Val) (at : ℕ) (again none : Bool) → AreDefaults old xs → at ≡ length old.entries.items → option_map val_of value ≡ o
    → again ≡ is_some (place_of old.places n.now) → IsPut n.now at old.places new.places → new.twice ≡ option_or old.twice (cond again (Some at) None) → none ≡ is_none value → ((k : ℕ) → has_place new.needed k ≡ ((none && nat_eq at k) || has_place old.needed k))
    → new.entries.items ≡ old.entries.items ++ ((n, value) ∷ []) → AreDefaults new (xs ++ ((n.now, o) ∷ []))
defaults_more old new xs n value o at again none h e v a put t m needed entries = record {
  entries = ap (map entry_of) entries ∙ map-append entry_of old.entries.items ((n, value) ∷ []) ∙ (λ j. h.entries j ++ ((n.now, v j) ∷ []));
  places = subst (AreFirsts new.places) (sym (map-append (λ x. x.0) xs ((n.now, o) ∷ []))) (firsts_more old.places new.places (map (λ x. x.0) xs) n.now at h.places (size ∙ sym (length-map xs (λ x. x.0))) put);
  needed = λ k. needed k ∙ (λ j. (none-is j && nat_eq (size j) k) || h.needed k j) ∙ sym (needed-more xs (n.now, o) k);
  twice = subst (IsFirstTwice (xs ++ ((n.now, o) ∷ []))) (sym t) (twice_more xs n.now o at old.twice again size (a ∙ firsts-some old.places (map (λ x. x.0) xs) n.now h.places ∙ any-named (λ x. x.0) n.now xs) h.twice);
}
  where
    size : at ≡ length xs
    size = e ∙ sym (length-map old.entries.items entry_of) ∙ ap length h.entries

    none-of : (w : Option Value) → is_none w ≡ is_none (option_map val_of w)
    none-of None = refl
    none-of (Some x) = refl

    none-is : none ≡ is_none o
    none-is = m ∙ none-of value ∙ ap is_none v

pub read-at : (es : List (Bor (List ℕ) × Option Value)) (k : ℕ) → option_and_then (λ x. x.1) (slice_get (map entry_of es) k) ≡ option_and_then (λ e. option_map val_of e.1) (slice_get es k)
read-at [] k = refl
read-at (e ∷ es) zero = refl
read-at (e ∷ es) (suc k) = read-at es k

pub none-by : {X : Type 0} (o : Option X) (b : Bool) → is_some o ≡ not b → b ≡ is_none o
none-by None true h = refl
none-by None false h = cc
none-by (Some x) true h = cc
none-by (Some x) false h = refl

-- how many parameters are kept
pub size-of : (d : Defaults) (ps : List Param) → AreDefaults d (plain_of ps) → length d.entries.items ≡ length ps
size-of d ps h = sym (length-map d.entries.items entry_of) ∙ ap length h.entries ∙ plain-length ps
