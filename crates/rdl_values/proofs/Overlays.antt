-- Values of a text, with others put over them.
use Rattle.std.proofs.Common.{◌≡◌, ◌∙◌, ℕ, Bool, true, false, ◌||◌, cond, bytes_eq, List, [], ◌∷◌, ◌++◌, map, Option, None, Some, option_and_then, option_to_list, Ok, refl, sym, ap, subst}
use Rattle.std.specs.List.{list_any}
use Rattle.rdl_base.specs.declared.rule.Rule.TheVariants as rules
use Rattle.rdl_tree.specs.declared.item.Param.{Param}
use Rattle.rdl_values.specs.Bodies.{Scope, around}
use Rattle.rdl_values.specs.Parameters.{Bound, argument, given, is_bound, value_at}
use Rattle.rdl_values.specs.Uses.{Use}
use Rattle.rdl_values.specs.Values.{Val, entry_named, fails}
use Rattle.rdl_values.specs.Overlaid.{AreApart, Plain, overlaid, value_over}
use Rattle.plain_lemmas.proofs.Lists.{bytes_eq-itself, bytes_eq-same}

-- what stands under a name that is new
pub named_new : {A : Type 0} (n : List ℕ) (v : A) (xs ys : List (List ℕ × A)) → list_any (λ b. bytes_eq b.0 n) xs ≡ false → entry_named n (xs ++ ((n, v) ∷ ys)) ≡ Some v
named_new n v [] ys h = rw (bytes_eq-itself n) refl
named_new n v (x ∷ xs) ys h = go (bytes_eq x.0 n) refl h (named_new n v xs ys)
  where
    go : (b : Bool) → bytes_eq x.0 n ≡ b → (b || list_any (λ b. bytes_eq b.0 n) xs) ≡ false → (list_any (λ b. bytes_eq b.0 n) xs ≡ false → entry_named n (xs ++ ((n, v) ∷ ys)) ≡ Some v) → entry_named n (x ∷ (xs ++ ((n, v) ∷ ys))) ≡ Some v
    go true e k r = cc
    go false e k r = rw e (r k)

-- a parameter that has a value is not one of two
pub free_at : (u : Use) (scope : Scope) (bound : Bound) (p : Param) (v : Val) → value_at u scope bound p ≡ Ok v → is_bound p.name bound ≡ false
free_at u scope bound p v e = go (is_bound p.name bound) refl e
  where
    go : (b : Bool) → is_bound p.name bound ≡ b → cond b (fails rules.E6 p.name.place) (given (around u.scope) ((record { bound = bound; enums = [] }) ∷ around scope) u.type_place p (argument u.args p.name) p.default) ≡ Ok v → is_bound p.name bound ≡ false
    go true q k = cc
    go false q k = q

-- Look-ups.

pub none-named : {A : Type 0} (n : List ℕ) (xs : List (List ℕ × A)) → list_any (λ x. bytes_eq x.0 n) xs ≡ false → entry_named n xs ≡ None
none-named n [] h = refl
none-named n (x ∷ xs) h = go (bytes_eq x.0 n) refl h (none-named n xs)
  where
    go : (b : Bool) → bytes_eq x.0 n ≡ b → (b || list_any (λ x. bytes_eq x.0 n) xs) ≡ false → (list_any (λ x. bytes_eq x.0 n) xs ≡ false → entry_named n xs ≡ None) → entry_named n (x ∷ xs) ≡ None
    go true e k r = cc
    go false e k r = rw e (r k)

pub named_over : (plain : Plain) (touched : Bound) (n : List ℕ) → AreApart plain → entry_named n (overlaid plain touched) ≡ option_and_then (λ o. value_over touched (n, o)) (entry_named n plain)
named_over [] touched n h = refl
named_over (x ∷ xs) touched n h = go (named_over xs touched n h.1) (bytes_eq x.0 n) refl (value_over touched x) refl
  where
    go : entry_named n (overlaid xs touched) ≡ option_and_then (λ o. value_over touched (n, o)) (entry_named n xs) → (b : Bool) → bytes_eq x.0 n ≡ b → (o : Option Val) → value_over touched x ≡ o → entry_named n (map (λ v. (x.0, v)) (option_to_list (value_over touched x)) ++ overlaid xs touched) ≡ option_and_then (λ o. value_over touched (n, o)) (entry_named n (x ∷ xs))
    go rest true e (Some v) q =
        let m : x.0 ≡ n = bytes_eq-same x.0 n e in
        let over : value_over touched (n, x.1) ≡ Some v = ap (λ k. value_over touched (k, x.1)) (sym m) ∙ q in
        rw (q, e) (sym over)
    go rest true e None q =
        let m : x.0 ≡ n = bytes_eq-same x.0 n e in
        let over : value_over touched (n, x.1) ≡ None = ap (λ k. value_over touched (k, x.1)) (sym m) ∙ q in
        let gone : entry_named n xs ≡ None = none-named n xs (subst (λ k. list_any (λ y. bytes_eq y.0 k) xs ≡ false) m h.0) in
        rw (q, e) (rest ∙ ap (option_and_then (λ o. value_over touched (n, o))) gone ∙ sym over)
    go rest false e (Some v) q = rw (q, e) rest
    go rest false e None q = rw (q, e) rest
