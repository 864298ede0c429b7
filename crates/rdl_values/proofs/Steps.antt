-- Parameters one after the other, those that a use touches put over those of the text.
use Rattle.std.proofs.Common.{◌≡◌, ◌∙◌, ℕ, Bool, true, false, ◌||◌, bytes_eq, List, [], ◌∷◌, ◌++◌, map, Option, None, Some, option_to_list, is_some, Ok, refl, sym, ap, append_assoc, append-nil}
use Rattle.std.specs.List.{AllByRecursion, list_any}
use Rattle.rdl_base.specs.declared.rule.Rule.TheVariants as rules
use Rattle.rdl_tree.specs.declared.expr.Expr.{Expr}
use Rattle.rdl_tree.specs.declared.item.Param.{Param}
use Rattle.rdl_values.specs.Bodies.{Scope, around}
use Rattle.rdl_values.specs.Parameters.{Bound, argument, bound_from, is_bound, typed, value_at}
use Rattle.rdl_values.specs.Uses.{Use}
use Rattle.rdl_values.specs.Values.{Val, Outcome, entry_named, fails}
use Rattle.rdl_values.specs.Overlaid.{AreApart, ArePassed, HasThese, IsPassed, Plain, names_in, names_of, overlaid, plain_by, plain_value, value_over}
use Rattle.rdl_values.proofs.Growing.{same_reads, untouched_value}
use Rattle.rdl_values.proofs.Overlays.{named_new}
use Rattle.plain_lemmas.proofs.Lists.{bytes_eq-swap}

-- The names of what is overlaid.

pub overlaid-append : (xs ys : Plain) (t : Bound) → overlaid (xs ++ ys) t ≡ overlaid xs t ++ overlaid ys t
overlaid-append [] ys t = refl
overlaid-append (x ∷ xs) ys t =
    let one = map (λ v. (x.0, v)) (option_to_list (value_over t x)) in
    ap (λ r. one ++ r) (overlaid-append xs ys t) ∙ sym (append_assoc one (overlaid xs t) (overlaid ys t))

pub none-over : (xs : Plain) (t : Bound) (n : List ℕ) → list_any (λ x. bytes_eq x.0 n) xs ≡ false → list_any (λ b. bytes_eq b.0 n) (overlaid xs t) ≡ false
none-over [] t n h = refl
none-over (x ∷ xs) t n h = go (bytes_eq x.0 n) refl h (value_over t x) refl (none-over xs t n)
  where
    go : (b : Bool) → bytes_eq x.0 n ≡ b → (b || list_any (λ x. bytes_eq x.0 n) xs) ≡ false → (o : Option Val) → value_over t x ≡ o → (list_any (λ x. bytes_eq x.0 n) xs ≡ false → list_any (λ b. bytes_eq b.0 n) (overlaid xs t) ≡ false)
        → list_any (λ b. bytes_eq b.0 n) (map (λ v. (x.0, v)) (option_to_list (value_over t x)) ++ overlaid xs t) ≡ false
    go true e k o q r = cc
    go false e k None q r = rw q (r k)
    go false e k (Some v) q r = rw (q, e) (r k)

-- where each has a value, they are those of the text
pub any-over : (xs : Plain) (t : Bound) (n : List ℕ) → AllByRecursion (λ x. is_some (value_over t x) ≡ true) xs → list_any (λ b. bytes_eq b.0 n) (overlaid xs t) ≡ list_any (λ x. bytes_eq x.0 n) xs
any-over [] t n h = refl
any-over (x ∷ xs) t n h = go (value_over t x) refl h.0 (any-over xs t n h.1)
  where
    go : (o : Option Val) → value_over t x ≡ o → is_some (value_over t x) ≡ true → list_any (λ b. bytes_eq b.0 n) (overlaid xs t) ≡ list_any (λ x. bytes_eq x.0 n) xs
        → list_any (λ b. bytes_eq b.0 n) (map (λ v. (x.0, v)) (option_to_list (value_over t x)) ++ overlaid xs t) ≡ (bytes_eq x.0 n || list_any (λ x. bytes_eq x.0 n) xs)
    go None q s r = let no : false ≡ true = ap is_some (sym q) ∙ s in cc
    go (Some v) q s r = rw q (ap (λ b. bytes_eq x.0 n || b) r)

any-left : (b c : Bool) → (b || c) ≡ false → b ≡ false
any-left true c h = cc
any-left false c h = refl

any-right : (b c : Bool) → (b || c) ≡ false → c ≡ false
any-right true c h = cc
any-right false c h = h

any-behind : {X : Type 0} (p : X → Bool) (xs : List X) (y : X) (ys : List X) → list_any p (xs ++ (y ∷ ys)) ≡ false → p y ≡ false
any-behind p [] y ys h = any-left (p y) (list_any p ys) h
any-behind p (x ∷ xs) y ys h = any-behind p xs y ys (any-right (p x) (list_any p (xs ++ (y ∷ ys))) h)

-- none in front of a parameter has its name
pub front-apart : (xs : Plain) (y : List ℕ × Option Val) (ys : Plain) → AreApart (xs ++ (y ∷ ys)) → list_any (λ x. bytes_eq x.0 y.0) xs ≡ false
front-apart [] y ys h = refl
front-apart (x ∷ xs) y ys h =
    let one : bytes_eq x.0 y.0 ≡ false = bytes_eq-swap x.0 y.0 ∙ any-behind (λ z. bytes_eq z.0 x.0) xs y ys h.0 in
    rw one (front-apart xs y ys h.1)

-- One more that is put over them.

entry-more : (t : Bound) (n m : List ℕ) (v : Val) → bytes_eq n m ≡ false → entry_named m (t ++ ((n, v) ∷ [])) ≡ entry_named m t
entry-more [] n m v e = rw e refl
entry-more (y ∷ t) n m v e = go (bytes_eq y.0 m) refl (entry-more t n m v e)
  where
    go : (b : Bool) → bytes_eq y.0 m ≡ b → entry_named m (t ++ ((n, v) ∷ [])) ≡ entry_named m t → entry_named m (y ∷ (t ++ ((n, v) ∷ []))) ≡ entry_named m (y ∷ t)
    go true q r = rw q refl
    go false q r = rw q r

pub over-more : (xs : Plain) (t : Bound) (n : List ℕ) (v : Val) → list_any (λ x. bytes_eq x.0 n) xs ≡ false → overlaid xs (t ++ ((n, v) ∷ [])) ≡ overlaid xs t
over-more [] t n v h = refl
over-more (x ∷ xs) t n v h =
    let other : bytes_eq n x.0 ≡ false = bytes_eq-swap n x.0 ∙ any-left (bytes_eq x.0 n) (list_any (λ x. bytes_eq x.0 n) xs) h in
    let rest = over-more xs t n v (any-right (bytes_eq x.0 n) (list_any (λ x. bytes_eq x.0 n) xs) h) in
    rw (entry-more t n x.0 v other, rest) refl

-- A parameter behind others.

pub over-behind : (before : Plain) (n : List ℕ) (o : Option Val) (t : Bound) (v : Val) → value_over t (n, o) ≡ Some v → overlaid (before ++ ((n, o) ∷ [])) t ≡ overlaid before t ++ ((n, v) ∷ [])
over-behind before n o t v over = overlaid-append before ((n, o) ∷ []) t ∙ ap (λ x. overlaid before t ++ (map (λ w. (n, w)) (option_to_list x) ++ [])) over

module _ (u : Use) (scope : Scope) where
  abbrev behind_ : Plain → Bound → List Param → Outcome Bound
  behind_ before t ps = bound_from u scope (overlaid before t) ps

  -- one that is touched
  pub put_over : (before : Plain) (t : Bound) (p : Param) (o : Option Val) (ps : List Param) (v : Val) → list_any (λ x. bytes_eq x.0 p.name.text.now) before ≡ false → is_bound p.name t ≡ false
      → value_at u scope (overlaid before t) p ≡ Ok v → behind_ before t (p ∷ ps) ≡ behind_ (before ++ ((p.name.text.now, o) ∷ [])) (t ++ ((p.name.text.now, v) ∷ [])) ps
  put_over before t p o ps v front new is =
      let n = p.name.text.now in
      let over : value_over (t ++ ((n, v) ∷ [])) (n, o) ≡ Some v = rw (named_new n v t [] new) refl in
      let step : behind_ before t (p ∷ ps) ≡ bound_from u scope (overlaid before t ++ ((n, v) ∷ [])) ps = rw is refl in
      let here : overlaid (before ++ ((n, o) ∷ [])) (t ++ ((n, v) ∷ [])) ≡ overlaid before t ++ ((n, v) ∷ []) =
      over-behind before n o (t ++ ((n, v) ∷ [])) v over ∙ ap (λ b. b ++ ((n, v) ∷ [])) (over-more before t n v front) in
      step ∙ ap (λ b. bound_from u scope b ps) (sym here)

  -- those that are not
  pub passed : (xs : List (Param × Option Val)) (before : Plain) (t : Bound) (ps : List Param) → ArePassed u scope t before xs → behind_ before t (map (λ x. x.0) xs ++ ps) ≡ behind_ (before ++ plain_by xs) t ps
  passed [] before t ps h = ap (λ b. behind_ b t ps) (sym (append-nil before))
  passed (x ∷ xs) before t ps h =
      let n = x.0.name.text.now in
      let one = h.0 in
      let over : value_over t (n, x.1) ≡ Some one.value = rw (one.not_put, one.plain) refl in
      let step : behind_ before t (map (λ x. x.0) (x ∷ xs) ++ ps) ≡ bound_from u scope (overlaid before t ++ ((n, one.value) ∷ [])) (map (λ x. x.0) xs ++ ps) = rw one.is refl in
      step ∙ ap (λ b. bound_from u scope b (map (λ x. x.0) xs ++ ps)) (sym (over-behind before n x.1 t one.value over)) ∙ passed xs (before ++ ((n, x.1) ∷ [])) t ps h.1
      ∙ ap (λ b. behind_ b t ps) (append_assoc before ((n, x.1) ∷ []) (plain_by xs))

  -- one of a name that stands before
  pub twice_fails : (before : Plain) (t : Bound) (p : Param) (ps : List Param) → AllByRecursion (λ x. is_some (value_over t x) ≡ true) before
      → list_any (λ x. bytes_eq x.0 p.name.text.now) before ≡ true → behind_ before t (p ∷ ps) ≡ fails rules.E6 p.name.place
  twice_fails before t p ps h e =
      let taken : is_bound p.name (overlaid before t) ≡ true = any-over before t p.name.text.now h ∙ e in
      rw taken refl

-- a parameter whose default has a value by the text, and names what has the same value here
pub untouched_passed : (u : Use) (scope : Scope) (before : Plain) (t : Bound) (p : Param) (v : Val) → list_any (λ x. bytes_eq x.0 p.name.text.now) before ≡ false → argument u.args p.name ≡ None → entry_named p.name.text.now t ≡ None
    → HasThese (overlaid before []) (overlaid before t) (names_of p.default) → plain_value (overlaid before []) p ≡ Some v → IsPassed u scope (overlaid before t) t p (Some v)
untouched_passed u scope before t p v front none new same plain = record {
  value = v;
  plain = refl;
  is = untouched_value u scope (overlaid before []) (overlaid before t) p v (none-over before t p.name.text.now front) none same plain;
  not_put = new;
}

-- one that has no argument, and whose default's names have the values that they had where it was evaluated without arguments
pub read_passed : (u : Use) (scope : Scope) (known : Bound) (before : Plain) (t : Bound) (p : Param) (e : Expr) (v : Val) → list_any (λ x. bytes_eq x.0 p.name.text.now) before ≡ false → argument u.args p.name ≡ None → entry_named p.name.text.now t ≡ None
    → p.default ≡ Some e → AllByRecursion (λ n. entry_named n.text.now known ≡ entry_named n.text.now (overlaid before t)) (names_in e) → typed ((record { bound = known; enums = [] }) ∷ around scope) p e ≡ Ok v
    → IsPassed u scope (overlaid before t) t p (Some v)
read_passed u scope known before t p e v front none new default same is = record {
  value = v;
  plain = refl;
  is = rw (none-over before t p.name.text.now front, none, default) (sym (same_reads known (overlaid before t) (around scope) p e same) ∙ is);
  not_put = new;
}
