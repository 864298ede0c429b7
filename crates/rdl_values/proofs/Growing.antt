-- Values where further names stand for something.
use Rattle.std.proofs.Common.{◌≡◌, ℕ, Bool, true, false, not, cond, List, [], ◌∷◌, Option, None, Some, option_and_then, option_to_list, ◌++◌, Ok, Err, refl, ap}
use Rattle.std.specs.List.{AllByRecursion}
use Rattle.std.specs.Option.{option_or}
use Rattle.std.specs.Result.{result_ok}
use Rattle.rb_base.specs.declared.place.Place.{Place}
use Rattle.rdl_base.specs.declared.rule.Rule.{Rule}
use Rattle.rdl_base.specs.declared.rule.Rule.TheVariants as rules
use Rattle.rdl_tree.specs.declared.expr.Expr.{Expr, Number, Flag, Str, Ref, EntryOf, Not', Binary', Pick'}
use Rattle.rdl_tree.specs.declared.expr.Name.{Name}
use Rattle.rdl_tree.specs.declared.item.Param.{Param}
use Rattle.rdl_values.specs.Bodies.{Scope, around}
use Rattle.rdl_values.specs.Parameters.{Bound, argument, given, is_bound, typed, value_at}
use Rattle.rdl_values.specs.Uses.{Use}
use Rattle.rdl_values.specs.Values.{Around, Val, Outcome, flag, as_flag, as_type, applied, bare_name, entry_named, entry_value, or_fails, parameter, parameter_of, path_place, start, then, value_of}
use Rattle.rdl_values.specs.Views.{steps_of}
use Rattle.rdl_values.specs.Overlaid.{HasThese, IsBelow, names_in, names_of, plain_value}
use Rattle.plain_lemmas.proofs.Lists.{each-imp, each-left, each-right}

pub then_ok : {A B : Type 0} (o : Outcome A) (f : A → Outcome B) (y : B) → then o f ≡ Ok y → (x : A) × (o ≡ Ok x) × (f x ≡ Ok y)
then_ok (Ok x) f y e = (x, refl, e)
then_ok (Err g) f y e = cc

there : (o p : Option Val) (r : Rule) (at : Place) (v : Val) → ((x : Val) → o ≡ Some x → p ≡ Some x) → or_fails o r at ≡ Ok v → or_fails p r at ≡ Ok v
there None p r at v h e = cc
there (Some x) p r at v h e = rw (h x refl) e

parameter_grows : (a b : Around) (o : Option Name) → AllByRecursion (λ n. (v : Val) → parameter a n.text.now ≡ Some v → parameter b n.text.now ≡ Some v) (option_to_list o) → (v : Val) → parameter_of a o ≡ Some v → parameter_of b o ≡ Some v
parameter_grows a b None h v e = cc
parameter_grows a b (Some n) h v e = h.0 v e

-- A value stays the same where what it names does.
pub grown_named : (a b : Around) → ((e n : Name) (v : Val) → entry_value a e n ≡ Ok v → entry_value b e n ≡ Ok v) → (x : Expr) → AllByRecursion (λ n. (v : Val) → parameter a n.text.now ≡ Some v → parameter b n.text.now ≡ Some v) (names_in x) → (v : Val) → value_of a x ≡ Ok v → value_of b x ≡ Ok v
grown_named a b q (Number n k) h v e = e
grown_named a b q (Flag f k) h v e = e
grown_named a b q (Str s k) h v e = e
grown_named a b q (Ref path item) h v e = there _ _ _ _ v (parameter_grows a b (bare_name path item) h) e
grown_named a b q (EntryOf x n) h v e = q x n v e
grown_named a b q (Not' r x k) h v e =
    let f : Val → Outcome Val = λ y. then (or_fails (as_flag y) rules.V2 k) λ t. Ok (flag (not t)) in
    let one = then_ok (value_of a x) f v e in
    let now = grown_named a b q x h one.0 one.1 in
    rw now one.2
grown_named a b q (Binary' o r x s y k) h v e =
    let f : Val → Outcome Val = λ m. then (value_of a y) λ n. applied o k m n in
    let one = then_ok (value_of a x) f v e in
    let two = then_ok (value_of a y) (applied o k one.0) v one.2 in
    let left = grown_named a b q x (each-left _ (names_in x) (names_in y) h) one.0 one.1 in
    let right = grown_named a b q y (each-right _ (names_in x) (names_in y) h) two.0 two.1 in
    rw (left, right) two.2
grown_named a b q (Pick' r c s x t y k) h v e =
    let f : Val → Outcome Val = λ m. then (or_fails (as_flag m) rules.V2 k) λ t. cond t (value_of a x) (value_of a y) in
    let one = then_ok (value_of a c) f v e in
    let two = then_ok (or_fails (as_flag one.0) rules.V2 k) (λ t. cond t (value_of a x) (value_of a y)) v one.2 in
    let sides = each-right _ (names_in c) (names_in x ++ names_in y) h in
    let test = grown_named a b q c (each-left _ (names_in c) (names_in x ++ names_in y) h) one.0 one.1 in
    rw (test, two.1) (go two.0 (grown_named a b q x (each-left _ (names_in x) (names_in y) sides) v) (grown_named a b q y (each-right _ (names_in x) (names_in y) sides) v) two.2)
  where
    go : (t : Bool) → (value_of a x ≡ Ok v → value_of b x ≡ Ok v) → (value_of a y ≡ Ok v → value_of b y ≡ Ok v) → cond t (value_of a x) (value_of a y) ≡ Ok v → cond t (value_of b x) (value_of b y) ≡ Ok v
    go true l r q = l q
    go false l r q = r q

each_of : {X : Type 0} (P : X → Type 0) → ((x : X) → P x) → (xs : List X) → AllByRecursion P xs
each_of P h [] = tt
each_of P h (x ∷ xs) = (h x, each_of P h xs)

pub grown : (a b : Around) → IsBelow a b → (x : Expr) (v : Val) → value_of a x ≡ Ok v → value_of b x ≡ Ok v
grown a b h x v e = grown_named a b h.entries x (each_of _ (λ n. h.parameters n.text.now) (names_in x)) v e

-- Nothing is below all.
pub none_below : (b : Around) → IsBelow [] b
none_below b = record { parameters = λ n v e. cc; entries = λ x n v e. cc }

-- A default behind some parameters, and behind others that have the same under its names, in bodies.
pub typed_grows : (these those : Bound) (outer : Around) (p : Param) (e : Expr) (v : Val) → HasThese these those (names_in e) → typed ((record { bound = these; enums = [] }) ∷ []) p e ≡ Ok v → typed ((record { bound = those; enums = [] }) ∷ outer) p e ≡ Ok v
typed_grows these those outer p e v h q =
    let a : Around = (record { bound = these; enums = [] }) ∷ [] in
    let b : Around = (record { bound = those; enums = [] }) ∷ outer in
    let f : Val → Outcome Val = λ x. or_fails (as_type p.ptype x) rules.V2 (start e) in
    let one = then_ok (value_of a e) f v q in
    let named : AllByRecursion (λ n. (w : Val) → parameter a n.text.now ≡ Some w → parameter b n.text.now ≡ Some w) (names_in e) = each-imp _ _ (names_in e) (λ n k w. nearest n w (entry_named n.text.now these) k) h in
    let now = grown_named a b (λ x n w k. cc) e named one.0 one.1 in
    rw now one.2
  where
    nearest : (n : Name) (w : Val) (o : Option Val) → ((x : Val) → o ≡ Some x → entry_named n.text.now those ≡ Some x) → option_or o None ≡ Some w → option_or (entry_named n.text.now those) (parameter outer n.text.now) ≡ Some w
    nearest n w None k e = cc
    nearest n w (Some x) k e = rw (k x refl) e

ok-of : {A : Type 0} (o : Outcome A) (x : A) → result_ok o ≡ Some x → o ≡ Ok x
ok-of (Ok y) x e = cc
ok-of (Err f) x e = cc

-- A parameter that a use does not touch.
pub untouched_value : (u : Use) (scope : Scope) (reads bound : Bound) (p : Param) (v : Val) → is_bound p.name bound ≡ false → argument u.args p.name ≡ None → HasThese reads bound (names_of p.default) → plain_value reads p ≡ Some v → value_at u scope bound p ≡ Ok v
untouched_value u scope reads bound p v free none h plain = rw (free, none) (go p.default h plain)
  where
    go : (o : Option Expr) → HasThese reads bound (names_of o) → option_and_then (λ e. result_ok (typed ((record { bound = reads; enums = [] }) ∷ []) p e)) o ≡ Some v → given (around u.scope) ((record { bound = bound; enums = [] }) ∷ around scope) u.type_place p None o ≡ Ok v
    go None k e = cc
    go (Some x) k e = typed_grows reads bound (around scope) p x v k (ok-of (typed ((record { bound = reads; enums = [] }) ∷ []) p x) v e)

-- A value depends on the parameters that are named, and on enumerations, alone.

same_parameter : (a b : Around) (o : Option Name) → AllByRecursion (λ n. parameter a n.text.now ≡ parameter b n.text.now) (option_to_list o) → parameter_of a o ≡ parameter_of b o
same_parameter a b None h = refl
same_parameter a b (Some n) h = h.0

pub same_named : (a b : Around) → ((e n : Name) → entry_value a e n ≡ entry_value b e n) → (x : Expr) → AllByRecursion (λ n. parameter a n.text.now ≡ parameter b n.text.now) (names_in x) → value_of a x ≡ value_of b x
same_named a b q (Number n k) h = refl
same_named a b q (Flag f k) h = refl
same_named a b q (Str s k) h = refl
same_named a b q (Ref path item) h = ap (λ o. or_fails o rules.V1 (path_place (steps_of path))) (same_parameter a b (bare_name path item) h)
same_named a b q (EntryOf e n) h = q e n
same_named a b q (Not' r x k) h = rw (same_named a b q x h) refl
same_named a b q (Binary' o r x s y k) h = rw (same_named a b q x (each-left _ (names_in x) (names_in y) h), same_named a b q y (each-right _ (names_in x) (names_in y) h)) refl
same_named a b q (Pick' r c s x t y k) h =
    let sides = each-right _ (names_in c) (names_in x ++ names_in y) h in
    rw (same_named a b q c (each-left _ (names_in c) (names_in x ++ names_in y) h), same_named a b q x (each-left _ (names_in x) (names_in y) sides), same_named a b q y (each-right _ (names_in x) (names_in y) sides)) refl

-- A default, behind parameters of which those that it names have the same values.
pub same_reads : (known bound : Bound) (outer : Around) (p : Param) (e : Expr) → AllByRecursion (λ n. entry_named n.text.now known ≡ entry_named n.text.now bound) (names_in e)
    → typed ((record { bound = known; enums = [] }) ∷ outer) p e ≡ typed ((record { bound = bound; enums = [] }) ∷ outer) p e
same_reads known bound outer p e h =
    let these : Around = (record { bound = known; enums = [] }) ∷ outer in
    let those : Around = (record { bound = bound; enums = [] }) ∷ outer in
    let named : AllByRecursion (λ n. parameter these n.text.now ≡ parameter those n.text.now) (names_in e) =
    each-imp _ _ (names_in e) (λ n q. ap (λ o. option_or o (parameter outer n.text.now)) q) h in
    ap (λ o. then o λ v. or_fails (as_type p.ptype v) rules.V2 (start e)) (same_named these those (λ x n. refl) e named)
