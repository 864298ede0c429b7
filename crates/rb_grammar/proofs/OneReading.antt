-- Where the next token decides each choice, a list fits a form in one way.
use Rattle.std.specs.List.{list_any, list_all}
use Rattle.std.proofs.Common.{◌≡◌, Bool, true, false, not, ◌&&◌, ◌||◌, if◌then◌else◌, List, [], ◌∷◌, ◌++◌, refl, ap, sym, ◌∙◌, subst, inl, inr, append_assoc, append-nil}
use Rattle.std.proofs.lemmas.Bool.{and_parts, and_from, or_cases, or_right, or_left, not-true, both_ways, cases_Bool, and_right}
use Rattle.std.proofs.lemmas.List.Folds.{list_any-append}
use Rattle.rb_grammar.specs.Forms.{Form, Tok, Non, ◌or◌, Opt, Many, ◌then◌, Grammar, Fits, choices}
use Rattle.rb_grammar.specs.Forms as forms
use Rattle.rb_grammar.specs.Readings.{Goal, Whole, IsReached, Reads, whole, reached, token, rule, first, second, none, some, no_turn, turn, both}
use Rattle.rb_grammar.specs.Firsts.{Table, may_be_empty, firsts, are_among, nexts, disjoint, IsTableOf, decides, IsDecided}
use Rattle.rb_grammar.proofs.Barring.{can_by, barred_by}

-- the choices of a reading, in order
abbrev pub moves : {T N K : Type 0} {G : Grammar T N K} {g : Goal K} {fs : List (Form T N)} {ts : List K} → Reads G g fs ts → List Bool
moves whole = []
moves (reached e) = []
moves (token i r) = moves r
moves (rule r) = moves r
moves (first r) = true ∷ moves r
moves (second r) = false ∷ moves r
moves (none r) = false ∷ moves r
moves (some r) = true ∷ moves r
moves (no_turn r) = false ∷ moves r
moves (turn r) = true ∷ moves r
moves (both r) = moves r

module _ {T N : Type 0} (S : Table T N) where
  -- the terminals with which the forms, in turn, may begin
  abbrev after : List (Form T N) → List T
  after [] = []
  after (f ∷ fs) = nexts S f (after fs)

  abbrev all_empty : List (Form T N) → Bool
  all_empty fs = list_all (may_be_empty S) fs

or_false : (a : Bool) → (a || false) ≡ a
or_false true = refl
or_false false = refl

module _ {T N K : Type 0} (G : Grammar T N K) (S : Table T N) (R : IsTableOf G S) where
  -- What a reading begins with.

  begins_after : (p : T → Bool) (fs : List (Form T N)) → can_by S p false fs ≡ list_any p (after S fs)
  begins_after p [] = refl
  begins_after p (f ∷ fs) = go (may_be_empty S f) (begins_after p fs)
    where
      go : (e : Bool) → can_by S p false fs ≡ list_any p (after S fs) → (list_any p (firsts S f) || (e && can_by S p false fs)) ≡ list_any p (if e then firsts S f ++ after S fs else firsts S f)
      go true q = ap (λ z. list_any p (firsts S f) || z) q ∙ sym (list_any-append p (firsts S f) (after S fs))
      go false q = or_false (list_any p (firsts S f))

  all_may : (fs : List (Form T N)) → can_by S (λ a. false) true fs ≡ all_empty S fs
  all_may [] = refl
  all_may (f ∷ fs) = ap (λ z. z || (may_be_empty S f && can_by S (λ a. false) true fs)) (none_of (firsts S f)) ∙ ap (λ z. may_be_empty S f && z) (all_may fs)
    where
      none_of : (ms : List T) → list_any (λ a. false) ms ≡ false
      none_of [] = refl
      none_of (m ∷ ms) = none_of ms

  begins_with : (fs : List (Form T N)) (t : K) (us : List K) → Reads G Whole fs (t ∷ us) → list_any (λ a. G.is a t) (after S fs) ≡ true
  begins_with fs t us r = elim (cases_Bool (list_any (λ a. G.is a t) (after S fs))) [
    | inl p ↦ p
    | inr q ↦ absurd (barred_by G S R r (λ a. G.is a t) false fs [] (sym (append-nil fs))
        (λ a u vs e i m. both_ways (G.is a t) m (let f : t ≡ u = cc in ap (λ z. G.is a z) f ∙ i)) (λ e. nothing_of) (begins_after (λ a. G.is a t) fs ∙ q))
  ]
    where
      nothing_of : (g : Goal K) → Reads G g [] (t ∷ us) → IsReached g (t ∷ us)
      nothing_of _ (reached p) = p

  empties : (fs : List (Form T N)) → Reads G Whole fs [] → all_empty S fs ≡ true
  empties fs r = elim (cases_Bool (all_empty S fs)) [
    | inl p ↦ p
    | inr q ↦ absurd (barred_by G S R r (λ a. false) true fs [] (sym (append-nil fs)) (λ a u vs e i m. cc) (λ e. cc) (all_may fs ∙ q))
  ]

  splitat : (t : K) (ms ns : List T) → disjoint S ms ns ≡ true → list_any (λ a. G.is a t) ms ≡ true → list_any (λ a. G.is a t) ns ≡ true → ⊥
  splitat t [] ns d p q = cc
  splitat t (m ∷ ms) ns d p q =
      let k = and_parts (list_all (S.apart m) ns) (disjoint S ms ns) d in
      elim (or_cases (G.is m t) (list_any (λ a. G.is a t) ms) p) [ inl i ↦ go m i ns k.0 q | inr i ↦ splitat t ms ns k.1 i q ]
    where
      go : (m : T) → G.is m t ≡ true → (ns : List T) → list_all (S.apart m) ns ≡ true → list_any (λ a. G.is a t) ns ≡ true → ⊥
      go m i [] e q = cc
      go m i (n ∷ ns) e q =
          let k = and_parts (S.apart m n) (list_all (S.apart m) ns) e in
          elim (or_cases (G.is n t) (list_any (λ a. G.is a t) ns) q) [ inl j ↦ both_ways (G.is n t) (R.none m n t k.0 i) j | inr j ↦ go m i ns k.1 j ]

  -- No list is read by two stacks that begin apart.
  exclusive : (fs gs : List (Form T N)) (ts : List K) → disjoint S (after S fs) (after S gs) ≡ true → (all_empty S fs && all_empty S gs) ≡ false → Reads G Whole fs ts → Reads G Whole gs ts → ⊥
  exclusive fs gs [] d e p q = both_ways (all_empty S fs && all_empty S gs) e (and_from (all_empty S fs) (all_empty S gs) (empties fs p) (empties gs q))
  exclusive fs gs (t ∷ us) d e p q = splitat t (after S fs) (after S gs) d (begins_with fs t us p) (begins_with gs t us q)

  -- Fewer terminals may follow.

  all_among : (p : T → Bool) (ms ns : List T) → are_among S ms ns ≡ true → list_all p ms ≡ true → list_all p ns ≡ true
  all_among p ms [] e f = refl
  all_among p ms (n ∷ ns) e f =
      let k = and_parts (list_any (S.same n) ms) (are_among S ms ns) e in
      and_from (p n) (list_all p ns) (go ms k.0 f) (all_among p ms ns k.1 f)
    where
      go : (ms : List T) → list_any (S.same n) ms ≡ true → list_all p ms ≡ true → p n ≡ true
      go [] e f = cc
      go (m ∷ ms) e f =
          let k = and_parts (p m) (list_all p ms) f in
          elim (or_cases (S.same n m) (list_any (S.same n) ms) e) [ inl i ↦ ap p (R.one n m i) ∙ k.0 | inr i ↦ go ms i k.1 ]

  among_more : (fs ms ns : List T) → are_among S ms ns ≡ true → are_among S (fs ++ ms) (fs ++ ns) ≡ true
  among_more [] ms ns e = e
  among_more (f ∷ fs) ms ns e = and_from (S.same f f || list_any (S.same f) (fs ++ ms)) (are_among S (f ∷ fs ++ ms) (fs ++ ns))
      (or_left (S.same f f) (list_any (S.same f) (fs ++ ms)) (R.alike f)) (widened f (fs ++ ms) (fs ++ ns) (among_more fs ms ns e))
    where
      widened : (a : T) (ms ns : List T) → are_among S ms ns ≡ true → are_among S (a ∷ ms) ns ≡ true
      widened a ms [] e = refl
      widened a ms (n ∷ ns) e =
          let k = and_parts (list_any (S.same n) ms) (are_among S ms ns) e in
          and_from (S.same n a || list_any (S.same n) ms) (are_among S (a ∷ ms) ns) (or_right (S.same n a) (list_any (S.same n) ms) k.0) (widened a ms ns k.1)

  among_self : (fs : List T) → are_among S fs fs ≡ true
  among_self fs = subst (λ z. are_among S z z ≡ true) (append-nil fs) (among_more fs [] [] refl)

  trans_among : (ms ns ks : List T) → are_among S ms ns ≡ true → are_among S ns ks ≡ true → are_among S ms ks ≡ true
  trans_among ms ns ks e f = all_among (λ a. list_any (S.same a) ms) ns ks f e

  among_nexts : (f : Form T N) (ms ns : List T) → are_among S ms ns ≡ true → are_among S (nexts S f ms) (nexts S f ns) ≡ true
  among_nexts f ms ns e = go (may_be_empty S f)
    where
      go : (b : Bool) → are_among S (if b then firsts S f ++ ms else firsts S f) (if b then firsts S f ++ ns else firsts S f) ≡ true
      go true = among_more (firsts S f) ms ns e
      go false = among_self (firsts S f)

  disjoint_less : (ms ns ms2 ns2 : List T) → are_among S ms ms2 ≡ true → are_among S ns ns2 ≡ true → disjoint S ms ns ≡ true → disjoint S ms2 ns2 ≡ true
  disjoint_less ms ns ms2 ns2 p q d = go ms2 (all_among (λ a. list_all (S.apart a) ns) ms ms2 p d)
    where
      go : (ms : List T) → disjoint S ms ns ≡ true → disjoint S ms ns2 ≡ true
      go [] d = refl
      go (m ∷ ms) d =
          let k = and_parts (list_all (S.apart m) ns) (disjoint S ms ns) d in
          and_from (list_all (S.apart m) ns2) (disjoint S ms ns2) (all_among (S.apart m) ns ns2 q k.0) (go ms k.1)

  decides_less : (follow : N → List T) (ms ns : List T) (f : Form T N) → are_among S ms ns ≡ true → decides S follow ms f ≡ true → decides S follow ns f ≡ true
  decides_less follow ms ns (Tok a) e d = refl
  decides_less follow ms ns (Non x) e d = trans_among (follow x) ms ns d e
  decides_less follow ms ns (f or g) e d =
      let split = and_parts (disjoint S (nexts S f ms) (nexts S g ms)) (not (may_be_empty S f && may_be_empty S g) && (decides S follow ms f && decides S follow ms g)) d in
      let one = and_parts (not (may_be_empty S f && may_be_empty S g)) (decides S follow ms f && decides S follow ms g) split.1 in
      let each = and_parts (decides S follow ms f) (decides S follow ms g) one.1 in
      and_from (disjoint S (nexts S f ns) (nexts S g ns)) (not (may_be_empty S f && may_be_empty S g) && (decides S follow ns f && decides S follow ns g))
      (disjoint_less (nexts S f ms) (nexts S g ms) (nexts S f ns) (nexts S g ns) (among_nexts f ms ns e) (among_nexts g ms ns e) split.0)
      (and_from (not (may_be_empty S f && may_be_empty S g)) (decides S follow ns f && decides S follow ns g) one.0
      (and_from (decides S follow ns f) (decides S follow ns g) (decides_less follow ms ns f e each.0) (decides_less follow ms ns g e each.1)))
  decides_less follow ms ns (Opt f) e d =
      let split = and_parts (disjoint S (firsts S f) ms) (not (may_be_empty S f) && decides S follow ms f) d in
      let one = and_parts (not (may_be_empty S f)) (decides S follow ms f) split.1 in
      and_from (disjoint S (firsts S f) ns) (not (may_be_empty S f) && decides S follow ns f)
      (disjoint_less (firsts S f) ms (firsts S f) ns (among_self (firsts S f)) e split.0)
      (and_from (not (may_be_empty S f)) (decides S follow ns f) one.0 (decides_less follow ms ns f e one.1))
  decides_less follow ms ns (Many f) e d =
      let split = and_parts (disjoint S (firsts S f) ms) (not (may_be_empty S f) && decides S follow (firsts S f ++ ms) f) d in
      let one = and_parts (not (may_be_empty S f)) (decides S follow (firsts S f ++ ms) f) split.1 in
      and_from (disjoint S (firsts S f) ns) (not (may_be_empty S f) && decides S follow (firsts S f ++ ns) f)
      (disjoint_less (firsts S f) ms (firsts S f) ns (among_self (firsts S f)) e split.0)
      (and_from (not (may_be_empty S f)) (decides S follow (firsts S f ++ ns) f) one.0 (decides_less follow (firsts S f ++ ms) (firsts S f ++ ns) f (among_more (firsts S f) ms ns e) one.1))
  decides_less follow ms ns (f then g) e d =
      let each = and_parts (decides S follow (nexts S g ms) f) (decides S follow ms g) d in
      and_from (decides S follow (nexts S g ns) f) (decides S follow ns g)
      (decides_less follow (nexts S g ms) (nexts S g ns) f (among_nexts g ms ns e) each.0) (decides_less follow ms ns g e each.1)

module _ {T N K : Type 0} (G : Grammar T N K) (S : Table T N) (R : IsTableOf G S) (follow : N → List T) (D : IsDecided G S follow) where
  abbrev decided : List (Form T N) → Bool
  decided [] = true
  decided (f ∷ fs) = decides S follow (after S fs) f && decided fs

  two : (f h : Form T N) (fs : List (Form T N)) → decided ((f or h) ∷ fs) ≡ true
      → (disjoint S (nexts S f (after S fs)) (nexts S h (after S fs)) ≡ true) × (not (may_be_empty S f && may_be_empty S h) ≡ true) × (decides S follow (after S fs) f ≡ true) × (decides S follow (after S fs) h ≡ true) × (decided fs ≡ true)
  two f h fs d =
      let e = and_parts (decides S follow (after S fs) (f or h)) (decided fs) d in
      let k = and_parts (disjoint S (nexts S f (after S fs)) (nexts S h (after S fs))) (not (may_be_empty S f && may_be_empty S h) && (decides S follow (after S fs) f && decides S follow (after S fs) h)) e.0 in
      let one = and_parts (not (may_be_empty S f && may_be_empty S h)) (decides S follow (after S fs) f && decides S follow (after S fs) h) k.1 in
      let each = and_parts (decides S follow (after S fs) f) (decides S follow (after S fs) h) one.1 in
      (k.0, one.0, each.0, each.1, e.1)

  both_empty : (f h : Form T N) (fs : List (Form T N)) → not (may_be_empty S f && may_be_empty S h) ≡ true → (all_empty S (f ∷ fs) && all_empty S (h ∷ fs)) ≡ false
  both_empty f h fs e = go (may_be_empty S f) (may_be_empty S h) (all_empty S fs) e
    where
      go : (a b c : Bool) → not (a && b) ≡ true → ((a && c) && (b && c)) ≡ false
      go true true c e = cc
      go true false c e = and_right (true && c) (false && c) refl
      go false b c e = refl

  four : (a b c d : Bool) → ((a && (b && c)) && d) ≡ true → (a ≡ true) × (b ≡ true) × (c ≡ true) × (d ≡ true)
  four a b c d e =
      let p = and_parts (a && (b && c)) d e in
      let q = and_parts a (b && c) p.0 in
      let r = and_parts b c q.1 in
      (q.0, r.0, r.1, p.1)

  part : (f : Form T N) (fs : List (Form T N)) → decided (Opt f ∷ fs) ≡ true
      → (disjoint S (firsts S f) (after S fs) ≡ true) × (not (may_be_empty S f) ≡ true) × (decides S follow (after S fs) f ≡ true) × (decided fs ≡ true)
  part f fs d = four (disjoint S (firsts S f) (after S fs)) (not (may_be_empty S f)) (decides S follow (after S fs) f) (decided fs) d

  turns : (f : Form T N) (fs : List (Form T N)) → decided (Many f ∷ fs) ≡ true
      → (disjoint S (firsts S f) (after S fs) ≡ true) × (not (may_be_empty S f) ≡ true) × (decides S follow (firsts S f ++ after S fs) f ≡ true) × (decided fs ≡ true)
  turns f fs d = four (disjoint S (firsts S f) (after S fs)) (not (may_be_empty S f)) (decides S follow (firsts S f ++ after S fs) f) (decided fs) d

  -- a part that is not empty, and what comes where it is left out
  more : (f : Form T N) (fs gs : List (Form T N)) (ts : List K) → disjoint S (firsts S f) (after S gs) ≡ true → not (may_be_empty S f) ≡ true → Reads G Whole (f ∷ fs) ts → Reads G Whole gs ts → ⊥
  more f fs gs ts d e r s =
      let n : may_be_empty S f ≡ false = not-true (may_be_empty S f) e in
      exclusive G S R (f ∷ fs) gs ts (rw n d) (rw n refl) r s

  one_way : (fs : List (Form T N)) (ts : List K) (p q : Reads G Whole fs ts) → decided fs ≡ true → moves p ≡ moves q
  one_way _ _ whole whole d = refl
  one_way _ _ (token {fs = fs} {ts = ts} i r) (token j s) d = one_way fs ts r s d
  one_way _ ts (rule {fs = fs} {x = x} r) (rule s) d =
      let k = and_parts (are_among S (follow x) (after S fs)) (decided fs) d in
      one_way (G.rule x ∷ fs) ts r s (and_from (decides S follow (after S fs) (G.rule x)) (decided fs) (decides_less G S R follow (follow x) (after S fs) (G.rule x) k.0 (D x)) k.1)
  one_way _ ts (first {fs = fs} {f = f} {h = h} r) (first s) d = let k = two f h fs d in ap (λ z. true ∷ z) (one_way (f ∷ fs) ts r s (and_from (decides S follow (after S fs) f) (decided fs) k.2 k.4))
  one_way _ ts (second {fs = fs} {f = f} {h = h} r) (second s) d = let k = two f h fs d in ap (λ z. false ∷ z) (one_way (h ∷ fs) ts r s (and_from (decides S follow (after S fs) h) (decided fs) k.3 k.4))
  one_way _ ts (first {fs = fs} {f = f} {h = h} r) (second s) d = let k = two f h fs d in absurd (exclusive G S R (f ∷ fs) (h ∷ fs) ts k.0 (both_empty f h fs k.1) r s)
  one_way _ ts (second {fs = fs} {f = f} {h = h} r) (first s) d = let k = two f h fs d in absurd (exclusive G S R (f ∷ fs) (h ∷ fs) ts k.0 (both_empty f h fs k.1) s r)
  one_way _ ts (none {fs = fs} {f = f} r) (none s) d = ap (λ z. false ∷ z) (one_way fs ts r s (part f fs d).3)
  one_way _ ts (some {fs = fs} {f = f} r) (some s) d = let k = part f fs d in ap (λ z. true ∷ z) (one_way (f ∷ fs) ts r s (and_from (decides S follow (after S fs) f) (decided fs) k.2 k.3))
  one_way _ ts (none {fs = fs} {f = f} r) (some s) d = let k = part f fs d in absurd (more f fs fs ts k.0 k.1 s r)
  one_way _ ts (some {fs = fs} {f = f} r) (none s) d = let k = part f fs d in absurd (more f fs fs ts k.0 k.1 r s)
  one_way _ ts (no_turn {fs = fs} {f = f} r) (no_turn s) d = ap (λ z. false ∷ z) (one_way fs ts r s (turns f fs d).3)
  one_way _ ts (turn {fs = fs} {f = f} r) (turn s) d =
      let k = turns f fs d in
      ap (λ z. true ∷ z) (one_way (f ∷ Many f ∷ fs) ts r s (and_from (decides S follow (firsts S f ++ after S fs) f) (decided (Many f ∷ fs)) k.2 d))
  one_way _ ts (no_turn {fs = fs} {f = f} r) (turn s) d = let k = turns f fs d in absurd (more f (Many f ∷ fs) fs ts k.0 k.1 s r)
  one_way _ ts (turn {fs = fs} {f = f} r) (no_turn s) d = let k = turns f fs d in absurd (more f (Many f ∷ fs) fs ts k.0 k.1 r s)
  one_way _ ts (both {fs = fs} {f = f} {h = h} r) (both s) d =
      let k = and_parts (decides S follow (nexts S h (after S fs)) f && decides S follow (after S fs) h) (decided fs) d in
      let each = and_parts (decides S follow (nexts S h (after S fs)) f) (decides S follow (after S fs) h) k.0 in
      one_way (f ∷ h ∷ fs) ts r s (and_from (decides S follow (nexts S h (after S fs)) f) (decided (h ∷ fs)) each.0 (and_from (decides S follow (after S fs) h) (decided fs) each.1 k.1))

placed : {T N K : Type 0} {G : Grammar T N K} (f : Form T N) (fs : List (Form T N)) (bs : List Bool) {ts : List K} (us ws : List K) → ts ≡ us ++ ws → (vs : List K) → (s : Reads G Whole (f ∷ fs) (us ++ (ws ++ vs))) → moves s ≡ bs
    → (s : Reads G Whole (f ∷ fs) (ts ++ vs)) × (moves s ≡ bs)
placed {G = G} f fs bs us ws e vs s m = subst (λ z. (s : Reads G Whole (f ∷ fs) z) × (moves s ≡ bs)) (sym (append_assoc us ws vs) ∙ ap (λ z. z ++ vs) (sym e)) (s, m)

-- A fitting's choices are those of the reading that it is.
moved : {T N K : Type 0} {G : Grammar T N K} {f : Form T N} {us : List K} → (p : Fits G f us) → (fs : List (Form T N)) (vs : List K) → (r : Reads G Whole fs vs) → (s : Reads G Whole (f ∷ fs) (us ++ vs)) × (moves s ≡ choices p ++ moves r)
moved (forms.token i) fs vs r = (token i r, refl)
moved (forms.rule p) fs vs r = let m = moved p fs vs r in (rule m.0, m.1)
moved (forms.first p) fs vs r = let m = moved p fs vs r in (first m.0, ap (λ z. true ∷ z) m.1)
moved (forms.second p) fs vs r = let m = moved p fs vs r in (second m.0, ap (λ z. false ∷ z) m.1)
moved forms.none fs vs r = (none r, refl)
moved (forms.some p) fs vs r = let m = moved p fs vs r in (some m.0, ap (λ z. true ∷ z) m.1)
moved forms.no_turn fs vs r = (no_turn r, refl)
moved {G = G} (forms.turn {f = f} {us = us} {vs = ws} e p q) fs vs r =
    let n = moved q fs vs r in
    let m = moved p (Many f ∷ fs) (ws ++ vs) n.0 in
    placed (Many f) fs (true ∷ (choices p ++ choices q) ++ moves r) us ws e vs (turn m.0) (ap (λ z. true ∷ z) (m.1 ∙ (ap (λ z. choices p ++ z) n.1 ∙ sym (append_assoc (choices p) (choices q) (moves r)))))
moved {G = G} (forms.both {f = f} {g = h} {us = us} {vs = ws} e p q) fs vs r =
    let n = moved q fs vs r in
    let m = moved p (h ∷ fs) (ws ++ vs) n.0 in
    placed (f then h) fs ((choices p ++ choices q) ++ moves r) us ws e vs (both m.0) (m.1 ∙ (ap (λ z. choices p ++ z) n.1 ∙ sym (append_assoc (choices p) (choices q) (moves r))))

pub one_fitting : {T N K : Type 0} (G : Grammar T N K) (S : Table T N) → IsTableOf G S → (follow : N → List T) → IsDecided G S follow → (f : Form T N) → decides S follow [] f ≡ true → (ts : List K) (p q : Fits G f ts) → choices p ≡ choices q
one_fitting G S R follow D f d ts p q =
    let v = moved p [] [] whole in
    let w = moved q [] [] whole in
    sym (append-nil (choices p)) ∙ (sym v.1 ∙ (one_way G S R follow D (f ∷ []) (ts ++ []) v.0 w.0 (and_from (decides S follow [] f) true d refl) ∙ (w.1 ∙ append-nil (choices q))))
