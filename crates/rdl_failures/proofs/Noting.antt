-- Failures that are noted one after the other.
use Rattle.std.proofs.Common.{◌≡◌, ◌∙◌, ℕ, ◌+◌, ◌<◌, ◌≤◌, length, get_or, take, subst, append_assoc, append-nil, Bool, true, ◌&&◌, List, [], ◌∷◌, ◌++◌, flat_map, Ok, Err, refl, sym, ap}
use Rattle.std.specs.Result.{is_ok}
use Rattle.std.proofs.lemmas.Grind.{flat_map-append}
use Rattle.std.proofs.lemmas.List.{take_all, take_more}
use Rattle.rdl_base.specs.declared.fault.Fault.{Fault}
use Rattle.rdl_values.specs.Bodies.{standing, standing_from}
use Rattle.rdl_values.specs.Faults.{failures}
use Rattle.rdl_values.specs.Parts.{is_empty}
use Rattle.rdl_values.specs.Values.{Outcome}
use Rattle.rdl_failures.specs.Noted.{Holds, IsNoted, with_all}
use Rattle.rdl_failures.proofs.Sets.{again, with_all-append}

pub is_empty-append : {A : Type 0} (xs ys : List A) → is_empty (xs ++ ys) ≡ (is_empty xs && is_empty ys)
is_empty-append [] ys = refl
is_empty-append (x ∷ xs) ys = refl

-- nothing is noted
pub nothing_noted : (list : List Fault) → IsNoted [] true list list
nothing_noted list = record { none = refl; put = refl }

-- the failures of two steps
pub both_noted : (fs gs : List Fault) (a b : Bool) (s t u : List Fault) → IsNoted fs a s t → IsNoted gs b t u → IsNoted (fs ++ gs) (a && b) s u
both_noted fs gs a b s t u h k = record {
  none = ap (λ c. c && b) h.none ∙ ap (λ c. is_empty fs && c) k.none ∙ sym (is_empty-append fs gs);
  put = k.put ∙ ap (with_all gs) h.put ∙ sym (with_all-append fs gs s);
}

-- the failures of each of some things, and those of others behind them
pub each_noted : {X : Type 0} (f : X → List Fault) (xs ys : List X) (a b : Bool) (s t u : List Fault) → IsNoted (flat_map f xs) a s t → IsNoted (flat_map f ys) b t u → IsNoted (flat_map f (xs ++ ys)) (a && b) s u
each_noted f xs ys a b s t u h k =
    let both = both_noted (flat_map f xs) (flat_map f ys) a b s t u h k in
    let same = flat_map-append f xs ys in record {
      none = both.none ∙ ap is_empty (sym same);
      put = both.put ∙ ap (λ fs. with_all fs s) (sym same);
    }

-- the failure of a value, if it has one
pub value_noted : {A : Type 0} (o : Outcome A) (s t : List Fault) → t ≡ with_all (failures o) s → IsNoted (failures o) (is_ok o) s t
value_noted (Ok x) s t e = record { none = refl; put = e }
value_noted (Err f) s t e = record { none = refl; put = e }

-- Things one by one, by their places.

-- those before the next one, and it
pub step_noted : {X : Type 0} (f : X → List Fault) (xs : List X) (i : ℕ) (x : X) → i < length xs → x ≡ get_or xs i x → (a b : Bool) (s t u : List Fault) → IsNoted (flat_map f (take i xs)) a s t → IsNoted (f x) b t u
    → IsNoted (flat_map f (take (i + 1) xs)) (a && b) s u
step_noted f xs i x l at a b s t u h k =
    let last : take (i + 1) xs ≡ take i xs ++ (x ∷ []) = take_more xs i x l ∙ ap (λ y. take i xs ++ (y ∷ [])) (sym at) in
    let one = subst (λ fs. IsNoted fs b t u) (sym (append-nil (f x))) k in
    subst (λ ys. IsNoted (flat_map f ys) (a && b) s u) (sym last) (each_noted f (take i xs) (x ∷ []) a b s t u h one)

pub standing_from-push : {X : Type 0} (before xs : List X) (x : X) → standing_from before (xs ++ (x ∷ [])) ≡ standing_from before xs ++ ((before ++ xs, x) ∷ [])
standing_from-push before [] x = ap (λ b. (b, x) ∷ []) (sym (append-nil before))
standing_from-push before (y ∷ xs) x = ap (λ zs. (before, y) ∷ zs) (standing_from-push (before ++ (y ∷ [])) xs x ∙ ap (λ b. standing_from (before ++ (y ∷ [])) xs ++ ((b, x) ∷ [])) (append_assoc before (y ∷ []) xs))

pub standing-push : {X : Type 0} (xs : List X) (x : X) → standing (xs ++ (x ∷ [])) ≡ standing xs ++ ((xs, x) ∷ [])
standing-push xs x = standing_from-push [] xs x

-- the same where each is judged by those before it
pub standing_noted : {X : Type 0} (f : List X × X → List Fault) (xs : List X) (i : ℕ) (x : X) → i < length xs → x ≡ get_or xs i x → (a b : Bool) (s t u : List Fault) → IsNoted (flat_map f (standing (take i xs))) a s t
    → IsNoted (f (take i xs, x)) b t u → IsNoted (flat_map f (standing (take (i + 1) xs))) (a && b) s u
standing_noted f xs i x l at a b s t u h k =
    let last : take (i + 1) xs ≡ take i xs ++ (x ∷ []) = take_more xs i x l ∙ ap (λ y. take i xs ++ (y ∷ [])) (sym at) in
    let one = subst (λ fs. IsNoted fs b t u) (sym (append-nil (f (take i xs, x)))) k in
    let both = each_noted f (standing (take i xs)) ((take i xs, x) ∷ []) a b s t u h one in
    let pushed = ap standing last ∙ standing-push (take i xs) x in
    subst (λ ys. IsNoted (flat_map f ys) (a && b) s u) (sym pushed) both

-- the same failures
pub noted_as : (fs gs : List Fault) (b : Bool) (s t : List Fault) → fs ≡ gs → IsNoted fs b s t → IsNoted gs b s t
noted_as fs gs b s t e h = subst (λ xs. IsNoted xs b s t) e h

-- the same of what a list has at a place, whatever it has past its end

pub step_noted_at : {X : Type 0} (f : X → List Fault) (xs : List X) (i : ℕ) (d : X) → i < length xs → (a b : Bool) (s t u : List Fault) → IsNoted (flat_map f (take i xs)) a s t → IsNoted (f (get_or xs i d)) b t u
    → IsNoted (flat_map f (take (i + 1) xs)) (a && b) s u
step_noted_at f xs i d l a b s t u h k =
    let one = subst (λ fs. IsNoted fs b t u) (sym (append-nil (f (get_or xs i d)))) k in
    subst (λ ys. IsNoted (flat_map f ys) (a && b) s u) (sym (take_more xs i d l)) (each_noted f (take i xs) (get_or xs i d ∷ []) a b s t u h one)

pub standing_noted_at : {X : Type 0} (f : List X × X → List Fault) (xs : List X) (i : ℕ) (d : X) → i < length xs → (a b : Bool) (s t u : List Fault) → IsNoted (flat_map f (standing (take i xs))) a s t
    → IsNoted (f (take i xs, get_or xs i d)) b t u → IsNoted (flat_map f (standing (take (i + 1) xs))) (a && b) s u
standing_noted_at f xs i d l a b s t u h k =
    let one = subst (λ fs. IsNoted fs b t u) (sym (append-nil (f (take i xs, get_or xs i d)))) k in
    let both = each_noted f (standing (take i xs)) ((take i xs, get_or xs i d) ∷ []) a b s t u h one in
    let pushed = ap standing (take_more xs i d l) ∙ standing-push (take i xs) (get_or xs i d) in
    subst (λ ys. IsNoted (flat_map f ys) (a && b) s u) (sym pushed) both

-- those of all
pub standing_noted_all : {X : Type 0} (f : List X × X → List Fault) (xs : List X) (i : ℕ) → length xs ≤ i → (a : Bool) (s t : List Fault) → IsNoted (flat_map f (standing (take i xs))) a s t → IsNoted (flat_map f (standing xs)) a s t
standing_noted_all f xs i l a s t h = subst (λ ys. IsNoted (flat_map f (standing ys)) a s t) (take_all i xs l) h

-- failures that are held are noted without a step
pub held_noted : (fs list : List Fault) → Holds list fs → IsNoted fs (is_empty fs) list list
held_noted fs list h = record { none = refl; put = sym (again fs list h) }
