-- What the next token begins, by a computed table.
use Rattle.std.specs.List.{list_any, list_all}
use Rattle.std.proofs.Common.{◌≡◌, Bool, true, false, not, ◌&&◌, ◌||◌, if◌then◌else◌, List, [], ◌∷◌, ◌++◌, refl, ap, sym, ◌∙◌, subst, inl, inr}
use Rattle.std.proofs.lemmas.Bool.{and_parts, or_parts, or_from, or_cases, and_right, not-true, not-false, both_ways, cases_Bool}
use Rattle.std.proofs.lemmas.List.Folds.{list_any-append}
use Rattle.rb_grammar.specs.Forms.{Form, Tok, Non, ◌or◌, Opt, Many, ◌then◌, Grammar}
use Rattle.rb_grammar.specs.Readings.{Goal, IsReached, Reads, whole, reached, token, rule, first, second, none, some, no_turn, turn, both, at, IsBarred, Avoids}
use Rattle.rb_grammar.specs.Firsts.{Table, may_be_empty, firsts, are_among, tells, IsTableOf}

-- what a parser has seen of the next token: it is of this terminal, or of none of these
pub data Sight (T : Type 0) : Type 0 where
  Here : T → Sight T
  Without : List T → Sight T

module _ {T N : Type 0} (S : Table T N) where
  -- the next token may be of this terminal
  abbrev pub may : Sight T → T → Bool
  may (Here a) b = not (S.apart a b)
  may (Without ms) b = not (list_any (S.same b) ms)

  -- the next token may begin what follows, if that begins with none of these terminals; or there may be none
  abbrev pub may_follow : Sight T → List T → Bool
  may_follow (Here a) ms = not (list_any (S.same a) ms)
  may_follow (Without ns) ms = true

  -- a token of which a test tells the terminals may begin what the forms read, or what follows them
  abbrev pub can_by : (T → Bool) → Bool → List (Form T N) → Bool
  can_by p last [] = last
  can_by p last (f ∷ fs) = list_any p (firsts S f) || (may_be_empty S f && can_by p last fs)

  -- the next token may begin what the forms, and such as follow, read
  abbrev pub can : Sight T → List T → List (Form T N) → Bool
  can s ms fs = can_by (may s) (may_follow s ms) fs

module _ {T N K : Type 0} (G : Grammar T N K) (S : Table T N) (R : IsTableOf G S) where
  abbrev pub AreOff : List T → List K → Type 0
  AreOff [] ts = Unit {0}
  AreOff (a ∷ ms) ts = (at G a ts ≡ false) × AreOff ms ts

  -- what was seen is so
  abbrev pub Holds : Sight T → List K → Type 0
  Holds (Here a) ts = at G a ts ≡ true
  Holds (Without ms) ts = AreOff ms ts

  missed : (ns : List T) (a : T) (ts : List K) → AreOff ns ts → list_any (S.same a) ns ≡ true → at G a ts ≡ false
  missed (n ∷ ns) a ts h e = elim (or_cases (S.same a n) (list_any (S.same a) ns) e) [
    | inl p ↦ ap (λ z. at G z ts) (R.one a n p) ∙ h.0
    | inr q ↦ missed ns a ts h.1 q
  ]
  missed [] a ts h e = cc

  -- a token of a terminal that may not come
  surprise : (s : Sight T) (a : T) (t : K) (ts : List K) → Holds s (t ∷ ts) → G.is a t ≡ true → may S s a ≡ false → ⊥
  surprise (Here b) a t ts h i m = both_ways (G.is a t) (R.none b a t (not-false (S.apart b a) m) h) i
  surprise (Without ns) a t ts h i m = both_ways (G.is a t) (missed ns a (t ∷ ts) h (not-false (list_any (S.same a) ns) m)) i

  -- at the end of the forms
  outside : (s : Sight T) (ms : List T) (hs : List (Form T N)) (ts : List K) → Holds s ts → Avoids G ms hs → may_follow S s ms ≡ false → IsBarred G hs ts
  outside (Without ns) ms hs ts h av e = cc
  outside (Here a) ms hs ts h av e = go ms av (not-false (list_any (S.same a) ms) e)
    where
      go : (ms : List T) → Avoids G ms hs → list_any (S.same a) ms ≡ true → IsBarred G hs ts
      go [] av e = cc
      go (m ∷ ms) av e = elim (or_cases (S.same a m) (list_any (S.same a) ms) e) [
        | inl p ↦ av.0 ts (sym (ap (λ z. at G z ts) (R.one a m p)) ∙ h)
        | inr q ↦ go ms av.1 q
      ]

  -- what holds of no terminal holds of none among them
  pub none_among : (p : T → Bool) (ns ms : List T) → are_among S ns ms ≡ true → list_any p ns ≡ false → list_any p ms ≡ false
  none_among p ns [] e f = refl
  none_among p ns (a ∷ ms) e f =
      let q = and_parts (list_any (S.same a) ns) (list_all (λ b. list_any (S.same b) ns) ms) e in
      or_from (p a) (list_any p ms) (go ns q.0 f) (none_among p ns ms q.1 f)
    where
      go : (ns : List T) → list_any (S.same a) ns ≡ true → list_any p ns ≡ false → p a ≡ false
      go [] e f = cc
      go (n ∷ ns) e f =
          let k = or_parts (p n) (list_any p ns) f in
          elim (or_cases (S.same a n) (list_any (S.same a) ns) e) [ inl q ↦ ap p (R.one a n q) ∙ k.0 | inr q ↦ go ns q k.1 ]

  can_rule : (p : T → Bool) (last : Bool) (x : N) (fs : List (Form T N)) → can_by S p last (Non x ∷ fs) ≡ false → can_by S p last (G.rule x ∷ fs) ≡ false
  can_rule p last x fs e =
      let told = and_parts (are_among S (S.first x) (firsts S (G.rule x))) (S.empty x || not (may_be_empty S (G.rule x))) (R.each x) in
      let q = or_parts (list_any p (S.first x)) (S.empty x && can_by S p last fs) e in
      or_from (list_any p (firsts S (G.rule x))) (may_be_empty S (G.rule x) && can_by S p last fs)
      (none_among p (S.first x) (firsts S (G.rule x)) told.0 q.0) (emptier (S.empty x) (may_be_empty S (G.rule x)) (can_by S p last fs) told.1 q.1)
    where
      emptier : (a b c : Bool) → (a || not b) ≡ true → (a && c) ≡ false → (b && c) ≡ false
      emptier true true c t e = e
      emptier true false c t e = refl
      emptier false true c t e = cc
      emptier false false c t e = refl

  can_first : (p : T → Bool) (last : Bool) (f h : Form T N) (fs : List (Form T N)) → can_by S p last ((f or h) ∷ fs) ≡ false → can_by S p last (f ∷ fs) ≡ false
  can_first p last f h fs e = go (list_any p (firsts S f)) (list_any p (firsts S h)) (may_be_empty S f) (may_be_empty S h) (can_by S p last fs) (rw list_any-append at e)
    where
      go : (a b c d r : Bool) → ((a || b) || ((c || d) && r)) ≡ false → (a || (c && r)) ≡ false
      go true b c d r h = h
      go false true c d r h = cc
      go false false true d r h = h
      go false false false d r h = refl

  can_second : (p : T → Bool) (last : Bool) (f h : Form T N) (fs : List (Form T N)) → can_by S p last ((f or h) ∷ fs) ≡ false → can_by S p last (h ∷ fs) ≡ false
  can_second p last f h fs e = go (list_any p (firsts S f)) (list_any p (firsts S h)) (may_be_empty S f) (may_be_empty S h) (can_by S p last fs) (rw list_any-append at e)
    where
      go : (a b c d r : Bool) → ((a || b) || ((c || d) && r)) ≡ false → (b || (d && r)) ≡ false
      go true b c d r h = cc
      go false true c d r h = cc
      go false false true d true h = cc
      go false false true true false h = refl
      go false false true false false h = refl
      go false false false d r h = h

  can_both : (p : T → Bool) (last : Bool) (f h : Form T N) (fs : List (Form T N)) → can_by S p last ((f then h) ∷ fs) ≡ false → can_by S p last (f ∷ h ∷ fs) ≡ false
  can_both p last f h fs e = go (may_be_empty S f) (may_be_empty S h) e
    where
      with_second : (a b d r : Bool) → ((a || b) || (d && r)) ≡ false → (a || (b || (d && r))) ≡ false
      with_second true b d r h = h
      with_second false b d r h = h

      go : (c d : Bool) → (list_any p (if c then firsts S f ++ firsts S h else firsts S f) || ((c && d) && can_by S p last fs)) ≡ false
          → (list_any p (firsts S f) || (c && (list_any p (firsts S h) || (d && can_by S p last fs)))) ≡ false
      go true d e = with_second (list_any p (firsts S f)) (list_any p (firsts S h)) d (can_by S p last fs) (rw list_any-append at e)
      go false d e = e

  can_after : (p : T → Bool) (last : Bool) (f : Form T N) (fs : List (Form T N)) → can_by S p last (Opt f ∷ fs) ≡ false → can_by S p last fs ≡ false
  can_after p last f fs e = (or_parts (list_any p (firsts S f)) (can_by S p last fs) e).1

  can_some : (p : T → Bool) (last : Bool) (f : Form T N) (fs : List (Form T N)) → can_by S p last (Opt f ∷ fs) ≡ false → can_by S p last (f ∷ fs) ≡ false
  can_some p last f fs e = let q = or_parts (list_any p (firsts S f)) (can_by S p last fs) e in
      or_from (list_any p (firsts S f)) (may_be_empty S f && can_by S p last fs) q.0 (and_right (may_be_empty S f) (can_by S p last fs) q.1)

  can_turn : (p : T → Bool) (last : Bool) (f : Form T N) (fs : List (Form T N)) → can_by S p last (Many f ∷ fs) ≡ false → can_by S p last (f ∷ Many f ∷ fs) ≡ false
  can_turn p last f fs e = or_from (list_any p (firsts S f)) (may_be_empty S f && can_by S p last (Many f ∷ fs)) (or_parts (list_any p (firsts S f)) (can_by S p last fs) e).0
      (and_right (may_be_empty S f) (can_by S p last (Many f ∷ fs)) e)

  -- Where a test holds of each terminal of the next token, and not of those that the forms may begin with, nothing is
  -- read of it.
  pub barred_by : {g : Goal K} {gs : List (Form T N)} {ts : List K} → Reads G g gs ts → (p : T → Bool) (last : Bool) (fs hs : List (Form T N)) → gs ≡ fs ++ hs
      → ((a : T) (t : K) (us : List K) → ts ≡ t ∷ us → G.is a t ≡ true → p a ≡ false → ⊥) → (last ≡ false → IsBarred G hs ts) → can_by S p last fs ≡ false → IsReached g ts
  barred_by {g = g} {ts = ts} r p last [] hs e h b c = b c g (subst (λ z. Reads G g z ts) e r)
  barred_by whole p last (f ∷ fs) hs e h b c = cc
  barred_by (reached q) p last (f ∷ fs) hs e h b c = q
  barred_by (token {a = a} {t = t} {ts = ts} i r) p last (f ∷ fs) hs e h b c =
      let form : f ≡ Tok a = cc in
      let m : can_by S p last (Tok a ∷ fs) ≡ false = subst (λ z. can_by S p last (z ∷ fs) ≡ false) form c in
      absurd (h a t ts refl i (or_parts (p a) false (or_parts (p a || false) false m).0).0)
  barred_by (rule {x = x} r) p last (f ∷ fs) hs e h b c =
      let form : f ≡ Non x = cc in
      barred_by r p last (G.rule x ∷ fs) hs (cc) h b (can_rule p last x fs (subst (λ z. can_by S p last (z ∷ fs) ≡ false) form c))
  barred_by (first {f = k} {h = q} r) p last (f ∷ fs) hs e h b c =
      let form : f ≡ (k or q) = cc in
      barred_by r p last (k ∷ fs) hs (cc) h b (can_first p last k q fs (subst (λ z. can_by S p last (z ∷ fs) ≡ false) form c))
  barred_by (second {f = k} {h = q} r) p last (f ∷ fs) hs e h b c =
      let form : f ≡ (k or q) = cc in
      barred_by r p last (q ∷ fs) hs (cc) h b (can_second p last k q fs (subst (λ z. can_by S p last (z ∷ fs) ≡ false) form c))
  barred_by (none {f = k} r) p last (f ∷ fs) hs e h b c =
      let form : f ≡ Opt k = cc in
      barred_by r p last fs hs (cc) h b (can_after p last k fs (subst (λ z. can_by S p last (z ∷ fs) ≡ false) form c))
  barred_by (some {f = k} r) p last (f ∷ fs) hs e h b c =
      let form : f ≡ Opt k = cc in
      barred_by r p last (k ∷ fs) hs (cc) h b (can_some p last k fs (subst (λ z. can_by S p last (z ∷ fs) ≡ false) form c))
  barred_by (no_turn {f = k} r) p last (f ∷ fs) hs e h b c =
      let form : f ≡ Many k = cc in
      barred_by r p last fs hs (cc) h b (can_after p last k fs (subst (λ z. can_by S p last (z ∷ fs) ≡ false) form c))
  barred_by (turn {f = k} r) p last (f ∷ fs) hs e h b c =
      let form : f ≡ Many k = cc in
      barred_by r p last (k ∷ Many k ∷ fs) hs (cc) h b (can_turn p last k fs (subst (λ z. can_by S p last (z ∷ fs) ≡ false) form c))
  barred_by (both {f = k} {h = q} r) p last (f ∷ fs) hs e h b c =
      let form : f ≡ (k then q) = cc in
      barred_by r p last (k ∷ q ∷ fs) hs (cc) h b (can_both p last k q fs (subst (λ z. can_by S p last (z ∷ fs) ≡ false) form c))

  -- What can't begin with the next token reads nothing of it.
  pub barred : (s : Sight T) (ms : List T) (fs hs : List (Form T N)) (ts : List K) → Holds s ts → Avoids G ms hs → can S s ms fs ≡ false → IsBarred G (fs ++ hs) ts
  barred s ms fs hs ts h av c = λ g r.
      barred_by r (may S s) (may_follow S s ms) fs hs refl (λ a t us e i m. surprise s a t us (subst (λ z. Holds s z) e h) i m) (outside s ms hs ts h av) c

-- A table is right where each token is of one terminal.
pub by_terminal : {T N K : Type 0} (G : Grammar T N K) (S : Table T N) (of : K → T) → ((a : T) (t : K) → G.is a t ≡ S.same a (of t)) → ((a b : T) → S.apart a b ≡ not (S.same a b))
    → ((a b : T) → S.same a b ≡ true → a ≡ b) → ((a : T) → S.same a a ≡ true) → ((x : N) → tells S x (G.rule x) ≡ true) → IsTableOf G S
by_terminal {T} {N} {K} G S of is apart exact alike each = record { one = exact; none = none; each = each; alike = alike }
  where
    none : (a b : T) (t : K) → S.apart a b ≡ true → G.is a t ≡ true → G.is b t ≡ false
    none a b t p q = elim (cases_Bool (G.is b t)) [
      | inl r ↦ absurd (
          let e : a ≡ of t = exact a (of t) (sym (is a t) ∙ q) in
          let f : b ≡ of t = exact b (of t) (sym (is b t) ∙ r) in
          let one : S.same a b ≡ true = ap (S.same a) (f ∙ sym e) ∙ alike a in
          both_ways (S.same a b) (not-true (S.same a b) (sym (apart a b) ∙ p)) one)
      | inr r ↦ r
    ]
