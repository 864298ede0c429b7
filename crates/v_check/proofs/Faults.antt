-- The problems of a tree, as they are found.
use Rattle.std.specs.List.{list_any}
use Rattle.std.proofs.Common.{◌≡◌, ℕ, zero, suc, ◌<◌, nat_le, if◌then◌else◌, Bool, true, false, not, ◌&&◌, Option, Some, None, is_some, List, [], ◌∷◌, take, get_or, slice_get, refl, ap, sym, ◌∙◌, subst, ◌⊎◌, inl, inr, arith}
use Rattle.rb_base.specs.declared.place.Place.{Place}
use Rattle.rb_grammar.specs.Spelling.{At}
use Rattle.v_design.specs.Lexemes.{Token, Name, Word, Number, Const, among}
use Rattle.v_design.specs.Tree.{Tree, Statement}
use Rattle.v_design.specs.Design.{module_of, widths}
use Rattle.v_design.specs.WellFormed.{Net, Given, same_kind, nets, names, drives_well, fits_well}
use Rattle.v_syntax.specs.Faulty.{Problem, Twice, Undeclared, Driver, Width, Loop, turn, Faulty, IsFirst, all_driven, driven_by, twice, undeclared, drives_badly, second_driver, no_driver, wrong_width, loop}
use Rattle.v_syntax.specs.Syntax.{declared_places, statement_places, statements_from}
use Rattle.v_check.specs.Drivers.{AreDrivers, IsMisdriven, IsUndriven}
use Rattle.v_check.specs.Found.{either_found, Finds, Stands}
use Rattle.v_check.specs.Loops.{IsLooping}
use Rattle.v_check.specs.Nets.{IsTwice, IsUndeclared, is_unknown, token_places}
use Rattle.v_check.proofs.Finding.{finds_as}
use Rattle.plain_lemmas.proofs.Numbers.{at-most as le-true, fits as le-false}
use Rattle.plain_lemmas.proofs.Bools.{false-of_not as not-true, or-neither as or-false-both}

-- a name that is not declared is a name
unknown-name : (declared : List (List ℕ)) (x : Token) → is_unknown declared x ≡ true → (n : List ℕ) × (x ≡ Name n) × (among declared n ≡ false)
unknown-name declared (Name n) h = (n, refl, not-true (among declared n) h)
unknown-name declared (Word w) h = cc h
unknown-name declared (Number n) h = cc h
unknown-name declared (Const w v) h = cc h

token-place-at : (ts : List (At Token)) (k : ℕ) (a : At Token) → slice_get ts k ≡ Some a → get_or (token_places ts) k 0 ≡ a.place
token-place-at [] k a h = cc h
token-place-at (b ∷ ts) zero a h = let e : b ≡ a = cc in ap (λ y. y.place) e
token-place-at (b ∷ ts) (suc k) a h = token-place-at ts k a h

both-false : (a b : Bool) → (a && not b) ≡ false → (a ≡ false) ⊎ (b ≡ true)
both-false false b h = inl refl
both-false true true h = inr refl
both-false true false h = cc h

-- the lesser of what two searches find
pub finds_either : (P Q : ℕ → Type 0) (r q : Option Place) → Finds P r → Finds Q q → Finds (λ k. P k ⊎ Q k) (either_found r q)
finds_either P Q r None h g = finds_as P (λ k. P k ⊎ Q k) r (λ k p. inl p) (λ k p. elim p [ inl x ↦ x | inr x ↦ absurd (g k x) ]) h
finds_either P Q None (Some p) h k = record {
  at = inr k.at;
  least = λ j e. elim e [ inl x ↦ absurd (h j x) | inr x ↦ k.least j x ];
}
finds_either P Q (Some e) (Some p) h k = go (nat_le e.0 p.0) refl
  where
    go : (b : Bool) → nat_le e.0 p.0 ≡ b → Finds (λ k. P k ⊎ Q k) (if b then Some e else Some p)
    go true t = let l = le-true e.0 p.0 t in record {
      at = inl h.at;
      least = λ j x. elim x [ inl y ↦ h.least j y | inr y ↦ let m = k.least j y in omega (arith, l, m) ];
    }
    go false t = let l = le-false e.0 p.0 t in record {
      at = inr k.at;
      least = λ j x. elim x [ inl y ↦ let m = h.least j y in omega (arith, l, m) | inr y ↦ k.least j y ];
    }

module _ (t : Tree) (ts : List (At Token)) where
  faulty-twice : (k : ℕ) → Faulty t ts Twice k → Stands (IsTwice (names (nets t))) (declared_places t ts) k
  faulty-twice _ (twice i n at a) = (i, (n, at, a), refl)

  faulty-undeclared : (k : ℕ) → Faulty t ts Undeclared k → Stands (IsUndeclared (names (nets t)) (statements_from t) ts) (token_places ts) k
  faulty-undeclared _ (undeclared k a n low at name none) =
      (k, (a, low, at, ap (is_unknown (names (nets t))) name ∙ ap not none), sym (token-place-at ts k a at))

  -- the cases of Driver
  abbrev IsDriver : (List ℕ → Option ℕ) → ℕ → Type 0
  IsDriver drivers k = Stands (IsMisdriven (nets t) t.stmts) (statement_places t ts) k ⊎ Stands (IsUndriven (nets t) drivers) (declared_places t ts) k

  faulty-driver : (drivers : List ℕ → Option ℕ) → AreDrivers drivers t.stmts → (k : ℕ) → Faulty t ts Driver k → IsDriver drivers k
  faulty-driver drivers d _ (drives_badly i s at bad) = inl (i, (s, at, ap (λ b. b && not (list_any (among (all_driven (take i t.stmts))) (driven_by s))) bad), refl)
  faulty-driver drivers d _ (second_driver i s at second) = inl (i, (s, at, ap (λ b. drives_well (nets t) s && not b) second ∙ and-last (drives_well (nets t) s)), refl)
    where
      and-last : (b : Bool) → (b && false) ≡ false
      and-last true = refl
      and-last false = refl
  faulty-driver drivers d _ (no_driver i n at kind none) = inr (i, (n, at, rw kind (d.driven n.name ∙ none)), refl)

  driver-faulty : (drivers : List ℕ → Option ℕ) → AreDrivers drivers t.stmts → (k : ℕ) → IsDriver drivers k → Faulty t ts Driver k
  driver-faulty drivers d k (inl (i, (s, at, wrong), is)) = elim (both-false (drives_well (nets t) s) (list_any (among (all_driven (take i t.stmts))) (driven_by s)) wrong) [
    | inl bad ↦ subst (Faulty t ts Driver) (sym is) (drives_badly i s at bad)
    | inr second ↦ subst (Faulty t ts Driver) (sym is) (second_driver i s at second)
  ]
  driver-faulty drivers d k (inr (i, (n, at, wrong), is)) =
      let (kind, none) = or-false-both (same_kind n.kind Given) (is_some (drivers n.name)) wrong in
      subst (Faulty t ts Driver) (sym is) (no_driver i n at kind (sym (d.driven n.name) ∙ none))

  -- the widths of the statement of a number do not agree
  abbrev pub IsUnfit : ℕ → Type 0
  IsUnfit i = (s : Statement) × (slice_get t.stmts i ≡ Some s) × (fits_well (widths (module_of t)) s ≡ false)

  faulty-width : (k : ℕ) → Faulty t ts Width k → Stands IsUnfit (statement_places t ts) k
  faulty-width _ (wrong_width i s at wrong) = (i, (s, at, wrong), refl)

  faulty-loop : (k : ℕ) → Faulty t ts Loop k → Stands (IsLooping t.stmts) (statement_places t ts) k
  faulty-loop _ (loop i to e at on) = (i, (to, e, at, on), refl)

  pub twice-found : (ns : List Net) (places : List ℕ) (r : Option Place) → ns ≡ nets t → places ≡ declared_places t ts → Finds (Stands (IsTwice (names ns)) places) r → Finds (Faulty t ts Twice) r
  twice-found ns places r is at h =
      finds_as (Stands (IsTwice (names (nets t))) (declared_places t ts)) (Faulty t ts Twice) r
      (λ k q. subst (Faulty t ts Twice) (sym q.2) (twice q.0 q.1.0 q.1.1 q.1.2)) faulty-twice
      (subst (λ ms. Finds (Stands (IsTwice (names ms)) (declared_places t ts)) r) is (subst (λ ps. Finds (Stands (IsTwice (names ns)) ps) r) at h))

  pub undeclared-found : (ns : List Net) (from : ℕ) (r : Option Place) → ns ≡ nets t → from ≡ statements_from t → Finds (Stands (IsUndeclared (names ns) from ts) (token_places ts)) r → Finds (Faulty t ts Undeclared) r
  undeclared-found ns from r is at h =
      finds_as (Stands (IsUndeclared (names (nets t)) (statements_from t) ts) (token_places ts)) (Faulty t ts Undeclared) r back faulty-undeclared
      (subst (λ ms. Finds (Stands (IsUndeclared (names ms) (statements_from t) ts) (token_places ts)) r) is (subst (λ n. Finds (Stands (IsUndeclared (names ns) n ts) (token_places ts)) r) at h))
    where
      back : (k : ℕ) → Stands (IsUndeclared (names (nets t)) (statements_from t) ts) (token_places ts) k → Faulty t ts Undeclared k
      back k (i, (a, low, at, unknown), is) =
          let (n, name, none) = unknown-name (names (nets t)) a.token unknown in
          subst (Faulty t ts Undeclared) (sym (is ∙ token-place-at ts i a at)) (undeclared i a n low at name none)

  pub driver-found : (drivers : List ℕ → Option ℕ) (ns os : List Net) (stmt_at net_at : List ℕ) (r q : Option Place) → AreDrivers drivers t.stmts → ns ≡ nets t → os ≡ nets t → stmt_at ≡ statement_places t ts → net_at ≡ declared_places t ts
      → Finds (Stands (IsMisdriven ns t.stmts) stmt_at) r → Finds (Stands (IsUndriven os drivers) net_at) q → Finds (Faulty t ts Driver) (either_found r q)
  driver-found drivers ns os stmt_at net_at r q d is other at places h k =
      finds_as (IsDriver drivers) (Faulty t ts Driver) (either_found r q) (driver-faulty drivers d) (faulty-driver drivers d)
      (finds_either (Stands (IsMisdriven (nets t) t.stmts) (statement_places t ts)) (Stands (IsUndriven (nets t) drivers) (declared_places t ts)) r q
      (subst (λ ms. Finds (Stands (IsMisdriven ms t.stmts) (statement_places t ts)) r) is (subst (λ ps. Finds (Stands (IsMisdriven ns t.stmts) ps) r) at h))
      (subst (λ ms. Finds (Stands (IsUndriven ms drivers) (declared_places t ts)) q) other (subst (λ ps. Finds (Stands (IsUndriven os drivers) ps) q) places k)))

  pub width-found : (places : List ℕ) (r : Option Place) → places ≡ statement_places t ts → Finds (Stands IsUnfit places) r → Finds (Faulty t ts Width) r
  width-found places r at h =
      finds_as (Stands IsUnfit (statement_places t ts)) (Faulty t ts Width) r
      (λ k q. subst (Faulty t ts Width) (sym q.2) (wrong_width q.0 q.1.0 q.1.1 q.1.2)) faulty-width (subst (λ ps. Finds (Stands IsUnfit ps) r) at h)

  pub loop-found : (places : List ℕ) (r : Option Place) → places ≡ statement_places t ts → Finds (Stands (IsLooping t.stmts) places) r → Finds (Faulty t ts Loop) r
  loop-found places r at h =
      finds_as (Stands (IsLooping t.stmts) (statement_places t ts)) (Faulty t ts Loop) r
      (λ k q. subst (Faulty t ts Loop) (sym q.2) (loop q.0 q.1.0 q.1.1 q.1.2 q.1.3)) faulty-loop (subst (λ ps. Finds (Stands (IsLooping t.stmts) ps) r) at h)

  -- the tree has no such problem
  abbrev pub Lacks : Problem → Type 0
  Lacks p = (k : ℕ) → Faulty t ts p k → ⊥

  first-of : (p : Problem) (place : Place) → ((q : Problem) → turn q < turn p → Lacks q) → Finds (Faulty t ts p) (Some place) → IsFirst t ts p place.0
  first-of p place none h = record { at = h.at; first = λ q k l f. none q l k f; least = h.least }

  pub first-twice : (place : Place) → Finds (Faulty t ts Twice) (Some place) → IsFirst t ts Twice place.0
  first-twice place h = first-of Twice place before h
    where
      before : (q : Problem) → turn q < 0 → Lacks q
      before q l = absurd (omega (arith, l))

  pub first-undeclared : (place : Place) → Lacks Twice → Finds (Faulty t ts Undeclared) (Some place) → IsFirst t ts Undeclared place.0
  first-undeclared place a h = first-of Undeclared place before h
    where
      before : (q : Problem) → turn q < 1 → Lacks q
      before Twice l = a
      before Undeclared l = absurd (omega (arith, l))
      before Driver l = absurd (omega (arith, l))
      before Width l = absurd (omega (arith, l))
      before Loop l = absurd (omega (arith, l))

  pub first-driver : (place : Place) → Lacks Twice → Lacks Undeclared → Finds (Faulty t ts Driver) (Some place) → IsFirst t ts Driver place.0
  first-driver place a b h = first-of Driver place before h
    where
      before : (q : Problem) → turn q < 2 → Lacks q
      before Twice l = a
      before Undeclared l = b
      before Driver l = absurd (omega (arith, l))
      before Width l = absurd (omega (arith, l))
      before Loop l = absurd (omega (arith, l))

  pub first-width : (place : Place) → Lacks Twice → Lacks Undeclared → Lacks Driver → Finds (Faulty t ts Width) (Some place) → IsFirst t ts Width place.0
  first-width place a b c h = first-of Width place before h
    where
      before : (q : Problem) → turn q < 3 → Lacks q
      before Twice l = a
      before Undeclared l = b
      before Driver l = c
      before Width l = absurd (omega (arith, l))
      before Loop l = absurd (omega (arith, l))

  pub first-loop : (place : Place) → Lacks Twice → Lacks Undeclared → Lacks Driver → Lacks Width → Finds (Faulty t ts Loop) (Some place) → IsFirst t ts Loop place.0
  first-loop place a b c d h = first-of Loop place before h
    where
      before : (q : Problem) → turn q < 4 → Lacks q
      before Twice l = a
      before Undeclared l = b
      before Driver l = c
      before Width l = d
      before Loop l = absurd (omega (arith, l))
