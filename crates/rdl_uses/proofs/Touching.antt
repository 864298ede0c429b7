-- The parameters that a use touches, one by one.
use Rattle.std.proofs.Common.{◌≡◌, ◌∙◌, ℕ, zero, suc, ◌+◌, ◌<◌, ◌≤◌, Bool, true, false, not, ◌||◌, cond, bytes_eq, nat_eq, List, [], ◌∷◌, ◌++◌, length, get_or, map, take, slice_get, unwrap_or, option_map, Option, None, Some, is_some, is_none, Result, Ok, Err, IsErr, refl, sym, ap, subst, arith}
use Rattle.std.specs.List.{list_any, position_from}
use Rattle.std.specs.Result.{is_err, result_ok}
use Rattle.std.proofs.lemmas.Bool.{eq-eqb, or_parts}
use Rattle.std.proofs.lemmas.List.{length-append, take_more}
use Rattle.std.proofs.lemmas.List.Folds.{list_any-append}
use Rattle.rb_base.specs.declared.place.Place.{Place}
use Rattle.rdl_base.specs.declared.fault.Fault.{Fault}
use Rattle.rdl_base.specs.declared.rule.Rule.TheVariants as rules
use Rattle.rdl_tree.specs.declared.expr.Expr.{Expr}
use Rattle.rdl_tree.specs.declared.expr.Name.{Name}
use Rattle.rdl_tree.specs.declared.item.Arg.{Arg}
use Rattle.rdl_tree.specs.declared.item.Param.{Param}
use Rattle.rdl_tree.specs.declared.value.Value.{Value}
use Rattle.rdl_values.specs.Bodies.{Closure, Scope}
use Rattle.rdl_values.specs.Faults.{at_, failures, when}
use Rattle.rdl_values.specs.Firsts.{AreFirsts, place_of}
use Rattle.rdl_values.specs.Parameters.{Bound, argument, bound_from, bound_of, is_bound, value_at}
use Rattle.rdl_values.specs.Seen.{outcome_of, val_of}
use Rattle.rdl_values.specs.Uses.{Use}
use Rattle.rdl_values.specs.Values.{Outcome, Val, fails}
use Rattle.rdl_values.specs.declared.firsts.Firsts.{Firsts}
use Rattle.rdl_values.proofs.Named.{any-named, firsts-some}
use Rattle.rdl_values.specs.Kept.{AreDefaults, IsFirstTwice, IsTwice, is_needed}
use Rattle.rdl_values.specs.Overlaid.{AreApart, IsWalked, Plain, overlaid, plain_entry, plain_of, plain_value, stands_before}
use Rattle.rdl_values.specs.Places.{has_place, is_found}
use Rattle.rdl_values.specs.declared.defaults.Defaults.{Defaults}
use Rattle.rdl_values.specs.declared.parameters.Parameters.{Parameters}
use Rattle.rdl_values.specs.declared.places.Places.{Places}
use Rattle.rdl_values.proofs.Steps.{none-over}
use Rattle.rdl_values.proofs.Plains.{plain-at, plain-length, plain-names}
use Rattle.rdl_values.proofs.Walking.{all_walked, apart_take, front_free, one_failed, one_put, one_twice}
use Rattle.rdl_failures.specs.Noted.{IsNoted, with_all}
use Rattle.rdl_failures.proofs.Noting.{noted_as}
use Rattle.rdl_uses.specs.Arguments.{AreArguments, IsPlain, is_given}
use Rattle.rdl_uses.specs.Binding.{IsFront}
use Rattle.rdl_uses.specs.Bound.{names_of_args}
use Rattle.rdl_uses.specs.declared.arguments.Arguments.{Arguments}
use Rattle.plain_lemmas.proofs.Lists.{bytes_eq-itself, bytes_eq-same}

-- Arguments by a text's table.

some-any : (i : ℕ) (n : List ℕ) (ps : List Param) → is_some (position_from (λ m. bytes_eq m n) i (map (λ p. p.name.text.now) ps)) ≡ list_any (λ p. bytes_eq p.name.text.now n) ps
some-any i n [] = refl
some-any i n (p ∷ ps) = go (bytes_eq p.name.text.now n) (some-any (i + 1) n ps)
  where
    go : (b : Bool) → is_some (position_from (λ m. bytes_eq m n) (i + 1) (map (λ p. p.name.text.now) ps)) ≡ list_any (λ p. bytes_eq p.name.text.now n) ps
        → is_some (cond b (Some i) (position_from (λ m. bytes_eq m n) (i + 1) (map (λ p. p.name.text.now) ps))) ≡ (b || list_any (λ p. bytes_eq p.name.text.now n) ps)
    go true h = refl
    go false h = h

pub unknown-over : (ps : List Param) (n : List ℕ) (o : Option ℕ) (none : Bool) → is_some o ≡ not none → o ≡ position_from (λ m. bytes_eq m n) 0 (map (λ x. x.0) (plain_of ps)) → none ≡ not (list_any (λ p. bytes_eq p.name.text.now n) ps)
unknown-over ps n o none k e = twice none ∙ ap not (sym k ∙ ap is_some (e ∙ ap (position_from (λ m. bytes_eq m n) 0) (plain-names ps)) ∙ some-any 0 n ps)
  where
    twice : (b : Bool) → b ≡ not (not b)
    twice true = refl
    twice false = refl

pub bad_over : (ps : List Param) (before : List Arg) (n : List ℕ) (place : Place) (places : Firsts) (none again b : Bool) (s t : List Fault) → none ≡ not (list_any (λ p. bytes_eq p.name.text.now n) ps) → again ≡ is_some (place_of places n)
    → AreFirsts places (names_of_args before) → IsNoted (when (none || again) (at_ rules.E6 place)) b s t
    → IsNoted (when (not (list_any (λ p. bytes_eq p.name.text.now n) ps) || list_any (λ a. bytes_eq a.name.text.now n) before) (at_ rules.E6 place)) b s t
bad_over ps before n place places none again b s t k g hp h =
    let again-is = g ∙ firsts-some places (names_of_args before) n hp ∙ any-named (λ a. a.name.text.now) n before in
    noted_as _ _ b s t (λ j. when (k j || again-is j) (at_ rules.E6 place)) h

-- one argument more
pub given-more : (xs : Plain) (args : List Arg) (i : ℕ) (d : Arg) → i < length args → (o : Option ℕ) → o ≡ position_from (λ m. bytes_eq m (get_or args i d).name.text.now) 0 (map (λ x. x.0) xs)
    → (k : ℕ) → (is_found o k || is_given xs (take i args) k) ≡ is_given xs (take (i + 1) args) k
given-more xs args i d l o e k =
    turned (is_found o k) (is_given xs (take i args) k) ∙ ap (λ o. is_given xs (take i args) k || (is_found o k || false)) e
    ∙ sym (ap (λ front. is_given xs front k) (take_more args i d l) ∙ list_any-append (λ a. is_found (position_from (λ m. bytes_eq m a.name.text.now) 0 (map (λ x. x.0) xs)) k) (take i args) (get_or args i d ∷ []))
  where
    turned : (a b : Bool) → (a || b) ≡ (b || (a || false))
    turned true true = refl
    turned true false = refl
    turned false true = refl
    turned false false = refl

-- What is touched, by the places that are given and those that are needed.

-- a parameter whose name does not stand before has the first place of its name
pub place-own : (n : List ℕ) (o : Option Val) (i : ℕ) (xs : Plain) (k : ℕ) → slice_get xs k ≡ Some (n, o) → stands_before xs k n ≡ false → position_from (λ m. bytes_eq m n) i (map (λ x. x.0) xs) ≡ Some (i + k)
place-own n o i [] k e h = cc
place-own n o i (x ∷ xs) zero e h =
    let same : x ≡ (n, o) = cc in
    let here : bytes_eq x.0 n ≡ true = ap (λ (y : List ℕ × Option Val). bytes_eq y.0 n) same ∙ bytes_eq-itself n in
    let at : i ≡ i + 0 = omega arith in
    rw here (ap Some at)
place-own n o i (x ∷ xs) (suc k) e h =
    let parts = or_parts (bytes_eq x.0 n) (stands_before xs k n) h in
    let other = parts.0 in
    let next : (i + 1) + k ≡ i + suc k = omega arith in
    rw other (place-own n o (i + 1) xs k e parts.1 ∙ ap Some next)

none-given : (xs : Plain) (n : Name) (k : ℕ) → position_from (λ m. bytes_eq m n.text.now) 0 (map (λ x. x.0) xs) ≡ Some k → (args : List Arg) → is_given xs args k ≡ false → is_some (argument args n) ≡ false
none-given xs n k at [] h = refl
none-given xs n k at (a ∷ args) h =
    let parts = or_parts (is_found (position_from (λ m. bytes_eq m a.name.text.now) 0 (map (λ x. x.0) xs)) k) (is_given xs args k) h in
    go (bytes_eq a.name.text.now n.text.now) refl parts.0 (none-given xs n k at args parts.1)
  where
    go : (b : Bool) → bytes_eq a.name.text.now n.text.now ≡ b → is_found (position_from (λ m. bytes_eq m a.name.text.now) 0 (map (λ x. x.0) xs)) k ≡ false → is_some (argument args n) ≡ false → is_some (cond b (Some a.value) (argument args n)) ≡ false
    go false e f r = r
    go true e f r =
        let same : a.name.text.now ≡ n.text.now = bytes_eq-same a.name.text.now n.text.now e in
        let here : nat_eq k k ≡ false = sym (ap (λ m. is_found (position_from (λ j. bytes_eq j m) 0 (map (λ x. x.0) xs)) k) same ∙ ap (λ o. is_found o k) at) ∙ f in
        let itself : nat_eq k k ≡ true = eq-eqb k k refl in
        let no : true ≡ false = sym itself ∙ here in
        cc

pub is_plain : (a : Arguments) (d : Defaults) (due : Places) (ps : List Param) (args : List Arg) (upto k : ℕ) (p : Param) → AreArguments a ps args → AreDefaults d (plain_of ps) → AreApart (take upto (plain_of ps)) → k < upto → slice_get ps k ≡ Some p
    → ((has_place a.given k || has_place d.needed k) || has_place due k) ≡ false → IsPlain args ps due k p
is_plain a d due ps args upto k p are kept apart l here h =
    let all = or_parts (has_place a.given k || has_place d.needed k) (has_place due k) h in
    let none : (is_given (plain_of ps) args k || is_needed (plain_of ps) k) ≡ false = (λ j. sym (are.given k) j || sym (kept.needed k) j) ∙ all.0 in
    let parts = or_parts (is_given (plain_of ps) args k) (is_needed (plain_of ps) k) none in
    let o = plain_value (overlaid (take k (plain_of ps)) []) p in
    let at = plain-at ps k p here in
    let own : position_from (λ m. bytes_eq m p.name.text.now) 0 (map (λ x. x.0) (plain_of ps)) ≡ Some k =
    place-own p.name.text.now o 0 (plain_of ps) k at (front_free ps upto k p apart l here) ∙ (let same : 0 + k ≡ k = omega arith in ap Some same) in
    let needed : is_none o ≡ false = sym (ap (λ (o : Option (List ℕ × Option Val)). unwrap_or (option_map (λ (x : List ℕ × Option Val). is_none x.1) o) false) at) ∙ parts.1 in
    record {
      none = no_argument (argument args p.name) (none-given (plain_of ps) p.name k own args parts.0);
      plain = has_one o needed;
      not_due = all.1;
    }
  where
    no_argument : (e : Option Expr) → is_some e ≡ false → e ≡ None
    no_argument None h = refl
    no_argument (Some e) h = cc

    has_one : (o : Option Val) → is_none o ≡ false → is_some o ≡ true
    has_one None h = cc
    has_one (Some v) h = refl

-- A touched one that has a value, and one that has none.
module _ (u : Use) (scope : Scope) (ps : List Param) (at : ℕ) (t : Bound) (w : IsWalked u scope ps at t) (p : Param) (here : slice_get ps at ≡ Some p) (free : stands_before (plain_of ps) at p.name.text.now ≡ false) where
  pub not_bound : is_bound p.name (overlaid (take at (plain_of ps)) t) ≡ false
  not_bound = none-over (take at (plain_of ps)) t p.name.text.now free

  module _ (o : Result Value Fault) (is : outcome_of o ≡ value_at u scope (overlaid (take at (plain_of ps)) t) p) where
    pub walked_past : (v : Value) → Some v ≡ result_ok o → IsWalked u scope ps (at + 1) (t ++ ((p.name.text.now, val_of v) ∷ []))
    walked_past v e = go o refl
      where
        go : (x : Result Value Fault) → o ≡ x → IsWalked u scope ps (at + 1) (t ++ ((p.name.text.now, val_of v) ∷ []))
        go (Err f) q = let no : Some v ≡ None = e ∙ ap result_ok q in cc
        go (Ok x) q =
            let same : Some v ≡ Some x = e ∙ ap result_ok q in
            let v-is : x ≡ v = cc in
            let value = sym is ∙ ap outcome_of q ∙ ap (λ y. Ok (val_of y)) v-is in
            one_put u scope ps at p t (val_of v) free here value w

    pub fails_here : None ≡ result_ok o → (f : Fault) × (o ≡ Err f) × (bound_from u scope [] ps ≡ Err f)
    fails_here e = go o refl
      where
        go : (x : Result Value Fault) → o ≡ x → (f : Fault) × (o ≡ Err f) × (bound_from u scope [] ps ≡ Err f)
        go (Ok x) q = let no : None ≡ Some x = e ∙ ap result_ok q in cc
        go (Err f) q = (f, q, one_failed u scope ps at p t f here (sym is ∙ ap outcome_of q) w)

-- The first whose name stands before.

split-take : {X : Type 0} (xs : List X) (y : X) (ys : List X) → take (length xs) (xs ++ (y ∷ ys)) ≡ xs
split-take [] y ys = refl
split-take (x ∷ xs) y ys = ap (λ r. x ∷ r) (split-take xs y ys)

split-get : {X : Type 0} (xs : List X) (y : X) (ys : List X) → slice_get (xs ++ (y ∷ ys)) (length xs) ≡ Some y
split-get [] y ys = refl
split-get (x ∷ xs) y ys = split-get xs y ys

module _ (ps : List Param) (k : ℕ) (h : IsTwice (plain_of ps) k) where
  pub twice_within : k < length ps
  twice_within =
      let size : length ps ≡ length h.before + suc (length h.behind) = sym (plain-length ps) ∙ ap length h.all ∙ length-append h.before (h.entry ∷ h.behind) in
      omega (arith, size, h.at)

  pub twice_apart : AreApart (take k (plain_of ps))
  twice_apart = subst AreApart (sym (split-take h.before h.entry h.behind) ∙ (λ j. take (sym h.at j) (sym h.all j))) h.apart

  pub twice_before : (p : Param) → slice_get ps k ≡ Some p → stands_before (plain_of ps) k p.name.text.now ≡ true
  twice_before p here =
      let x : List ℕ × Option Val = plain_entry (take k (plain_of ps)) p in
      let one : Some h.entry ≡ Some x = sym (split-get h.before h.entry h.behind) ∙ (λ j. slice_get (sym h.all j) (sym h.at j)) ∙ plain-at ps k p here in
      let same : h.entry ≡ x = cc in
      let front : take k (plain_of ps) ≡ h.before = (λ j. take (h.at j) (h.all j)) ∙ split-take h.before h.entry h.behind in
      ap (list_any (λ (y : List ℕ × Option Val). bytes_eq y.0 p.name.text.now)) front ∙ ap (λ (y : List ℕ × Option Val). list_any (λ (z : List ℕ × Option Val). bytes_eq z.0 y.0) h.before) (sym same) ∙ h.taken

-- how many from the front on have names of their own
pub upto_is : (ps : List Param) (n : ℕ) (o : Option ℕ) → n ≡ length ps → IsFirstTwice (plain_of ps) o → (unwrap_or o n ≤ length ps) × AreApart (take (unwrap_or o n) (plain_of ps))
upto_is ps n None e h = (omega (arith, e), apart_take (plain_of ps) n h)
upto_is ps n (Some k) e h = let within = twice_within ps k h in (omega (arith, within), twice_apart ps k h)

-- What all parameters come to, by those in front of a place.
module _ (u : Use) (c : Closure) (ps : List Param) (e : c.def.params.now ≡ ps) (upto : ℕ) (before after : List Fault) where
  pub none_bound : IsFront u c.scope ps upto before after None → IsNoted (failures (bound_of u c)) false before after × IsErr (bound_of u c)
  none_bound h =
      let bound : bound_of u c ≡ Err h.0 = ap (bound_from u c.scope []) e ∙ h.1 in
      (subst (λ r. IsNoted (failures r) false before after) (sym bound) (record { none = refl; put = h.2 }), ap is_err bound)

  module _ (p : Parameters) (h : IsFront u c.scope ps upto before after (Some p)) where
    pub all_bound : upto ≡ length ps → bound_of u c ≡ Ok (overlaid (plain_of ps) h.1)
    all_bound all = ap (bound_from u c.scope []) e ∙ all_walked u c.scope ps upto h.1 (omega (arith, all)) h.3

    pub twice_bound : IsTwice (plain_of ps) upto → (x : Param) → slice_get ps upto ≡ Some x → bound_of u c ≡ fails rules.E6 x.name.place
    twice_bound two x here = ap (bound_from u c.scope []) e ∙ one_twice u c.scope ps upto x h.1 (twice_before ps upto two x here) here h.3

pub failed_noted : (o : Outcome Bound) (f : Fault) (before after : List Fault) → o ≡ Err f → after ≡ with_all (f ∷ []) before → IsNoted (failures o) false before after
failed_noted o f before after e put = subst (λ r. IsNoted (failures r) false before after) (sym e) (record { none = refl; put = put })
