-- No two of the parameters that are bound have one name.
use Rattle.std.proofs.Common.{◌≡◌, ◌∙◌, ℕ, Bool, true, false, ◌||◌, cond, bytes_eq, List, [], ◌∷◌, ◌++◌, map, Ok, Err, refl, sym, ap, subst, append_assoc, append-nil}
use Rattle.std.specs.List.{list_any}
use Rattle.plain_lemmas.proofs.Lists.{bytes_eq-swap}
use Rattle.rdl_base.specs.declared.fault.Fault.{Fault}
use Rattle.rdl_tree.specs.declared.item.Param.{Param}
use Rattle.rdl_base.specs.declared.rule.Rule.TheVariants as rules
use Rattle.rdl_values.specs.Bodies.{Closure, Scope, around}
use Rattle.rdl_values.specs.Overlaid.{AreApart, Plain, plain_of}
use Rattle.rdl_values.specs.Parameters.{Bound, argument, bound_from, bound_of, given, is_bound, value_at}
use Rattle.rdl_values.specs.Uses.{Use}
use Rattle.rdl_values.specs.Values.{Outcome, Val, fails, then}
use Rattle.rdl_values.proofs.Plains.{plain-names}
use Rattle.rdl_bodies.specs.Kept.{AreDistinct}

-- what is bound behind some parameters, none of which has the name of one before
pub record IsMore (ps : List Param) (before all : Bound) : Type 0 where
  pub rest : Bound
  pub split : all ≡ before ++ rest
  pub distinct : AreDistinct before rest
  pub names : map (λ b. b.0) rest ≡ map (λ p. p.name.text.now) ps

value-new : (u : Use) (scope : Scope) (before : Bound) (p : Param) (v : Val) → value_at u scope before p ≡ Ok v → is_bound p.name before ≡ false
value-new u scope before p v e = go (is_bound p.name before) (given (around u.scope) (record { bound = before; enums = [] } ∷ around scope) u.type_place p (argument u.args p.name) p.default) e
  where
    go : (b : Bool) (o : Outcome Val) → cond b (fails rules.E6 p.name.place) o ≡ Ok v → b ≡ false
    go true o q = cc
    go false o q = refl

no-bound : (f : Fault) (b : Bound) → ◌≡◌ {A = Outcome Bound} (Err f) (Ok b) → ⊥
no-bound f b e = cc

pub bound_more : (u : Use) (scope : Scope) (ps : List Param) (before all : Bound) → bound_from u scope before ps ≡ Ok all → IsMore ps before all
bound_more u scope [] before all e = let same : before ≡ all = cc in record { rest = []; split = sym same ∙ sym (append-nil before); distinct = tt; names = refl }
bound_more u scope (p ∷ ps) before all e = go (value_at u scope before p) refl (λ v q. bound_more u scope ps (before ++ ((p.name.text.now, v) ∷ [])) all q)
  where
    go : (o : Outcome Val) → value_at u scope before p ≡ o → ((v : Val) → bound_from u scope (before ++ ((p.name.text.now, v) ∷ [])) ps ≡ Ok all → IsMore ps (before ++ ((p.name.text.now, v) ∷ [])) all) → IsMore (p ∷ ps) before all
    go (Err f) q rec = absurd (no-bound f all (sym (ap (λ o. then o λ v. bound_from u scope (before ++ ((p.name.text.now, v) ∷ [])) ps) q) ∙ e))
    go (Ok v) q rec =
        let more = rec v (sym (ap (λ o. then o λ v. bound_from u scope (before ++ ((p.name.text.now, v) ∷ [])) ps) q) ∙ e) in
        record {
          rest = (p.name.text.now, v) ∷ more.rest;
          split = more.split ∙ append_assoc before ((p.name.text.now, v) ∷ []) more.rest;
          distinct = (value-new u scope before p v q, more.distinct);
          names = ap (λ ns. p.name.text.now ∷ ns) more.names;
        }

pub bound_distinct : (u : Use) (c : Closure) (all : Bound) → bound_of u c ≡ Ok all → AreDistinct [] all
bound_distinct u c all e = let more = bound_more u c.scope c.def.params.now [] all e in subst (AreDistinct []) (sym more.split) more.distinct

-- Then no two of the parameters have one name.

other-name : (front : Bound) (b : List ℕ × Val) (back : Bound) (n : List ℕ) → list_any (λ x. bytes_eq x.0 n) (front ++ (b ∷ back)) ≡ false → bytes_eq b.0 n ≡ false
other-name [] b back n h = go (bytes_eq b.0 n) refl h
  where
    go : (t : Bool) → bytes_eq b.0 n ≡ t → (t || list_any (λ x. bytes_eq x.0 n) back) ≡ false → bytes_eq b.0 n ≡ false
    go true q e = cc
    go false q e = q
other-name (x ∷ front) b back n h = go (bytes_eq x.0 n) h (λ e. other-name front b back n e)
  where
    go : (t : Bool) → (t || list_any (λ y. bytes_eq y.0 n) (front ++ (b ∷ back))) ≡ false → (list_any (λ y. bytes_eq y.0 n) (front ++ (b ∷ back)) ≡ false → bytes_eq b.0 n ≡ false) → bytes_eq b.0 n ≡ false
    go true e rec = cc
    go false e rec = rec e

none-later : (front : Bound) (b : List ℕ × Val) (back bs : Bound) (xs : Plain) → AreDistinct (front ++ (b ∷ back)) bs → map (λ x. x.0) xs ≡ map (λ c. c.0) bs → list_any (λ y. bytes_eq y.0 b.0) xs ≡ false
none-later front b back bs [] h e = refl
none-later front b back [] (x ∷ xs) h e = cc
none-later front b back (c ∷ bs) (x ∷ xs) h e =
    let name : x.0 ≡ c.0 = cc in
    let others : map (λ y. y.0) xs ≡ map (λ d. d.0) bs = cc in
    let one : bytes_eq x.0 b.0 ≡ false = ap (λ n. bytes_eq n b.0) name ∙ bytes_eq-swap c.0 b.0 ∙ other-name front b back c.0 h.0 in
    ap (λ t. t || list_any (λ y. bytes_eq y.0 b.0) xs) one ∙ none-later front b (back ++ (c ∷ [])) bs xs (subst (λ z. AreDistinct z bs) (append_assoc front (b ∷ back) (c ∷ [])) h.1) others

apart-by : (front bs : Bound) (xs : Plain) → AreDistinct front bs → map (λ x. x.0) xs ≡ map (λ c. c.0) bs → AreApart xs
apart-by front bs [] h e = tt
apart-by front [] (x ∷ xs) h e = cc
apart-by front (b ∷ bs) (x ∷ xs) h e =
    let name : x.0 ≡ b.0 = cc in
    let others : map (λ y. y.0) xs ≡ map (λ d. d.0) bs = cc in
    (ap (λ n. list_any (λ y. bytes_eq y.0 n) xs) name ∙ none-later front b [] bs xs h.1 others, apart-by (front ++ (b ∷ [])) bs xs h.1 others)

-- what is bound has the names of the parameters, in order
pub bound_names : (u : Use) (c : Closure) (all : Bound) → bound_of u c ≡ Ok all → map (λ x. x.0) (plain_of c.def.params.now) ≡ map (λ b. b.0) all
bound_names u c all e = let more = bound_more u c.scope c.def.params.now [] all e in plain-names c.def.params.now ∙ sym more.names ∙ ap (map (λ b. b.0)) (sym more.split)

pub bound_apart : (u : Use) (c : Closure) (all : Bound) → bound_of u c ≡ Ok all → AreApart (plain_of c.def.params.now)
bound_apart u c all e = apart-by [] all (plain_of c.def.params.now) (bound_distinct u c all e) (bound_names u c all e)
