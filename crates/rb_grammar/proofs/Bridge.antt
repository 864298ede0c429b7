-- Reading a stack of forms is fitting or beginning them in turn.
use Rattle.std.proofs.Common.{◌≡◌, ◌<◌, true, List, [], ◌∷◌, ◌++◌, length, refl, ap, sym, ◌∙◌, arith, ◌⊎◌, inl, inr, append_assoc, append-nil, subst, length-append}
use Rattle.std.proofs.lemmas.List.{append_cancel_right}
use Rattle.rb_grammar.specs.Forms.{Form, Tok, Non, ◌or◌, Opt, Many, ◌then◌, Grammar, Fits, Begins, empty, turns, in_first, in_second, StopsAt, at_token, at_end}
use Rattle.rb_grammar.specs.Forms as forms
use Rattle.rb_grammar.specs.Readings.{Goal, Whole, Upto, behind_next, IsAhead, IsReached, Reads, whole, reached, at, IsBarred, Avoids, Same, Stops}
use Rattle.rb_grammar.specs.Readings as readings

module _ {T N K : Type 0} (G : Grammar T N K) where
  -- What fits comes before what is read.
  pub reads_fit : {f : Form T N} {us : List K} → Fits G f us → (g : Goal K) (fs : List (Form T N)) (vs : List K) → Reads G g fs vs → Reads G g (f ∷ fs) (us ++ vs)
  reads_fit (forms.token i) g fs vs r = readings.token i r
  reads_fit (forms.rule p) g fs vs r = readings.rule (reads_fit p g fs vs r)
  reads_fit (forms.first p) g fs vs r = readings.first (reads_fit p g fs vs r)
  reads_fit (forms.second p) g fs vs r = readings.second (reads_fit p g fs vs r)
  reads_fit forms.none g fs vs r = readings.none r
  reads_fit (forms.some p) g fs vs r = readings.some (reads_fit p g fs vs r)
  reads_fit forms.no_turn g fs vs r = readings.no_turn r
  reads_fit (forms.turn {f = f} {us = us} {vs = ws} e p q) g fs vs r = rw (e, append_assoc) (readings.turn (reads_fit p g (Many f ∷ fs) (ws ++ vs) (reads_fit q g fs vs r)))
  reads_fit (forms.both {g = h} {us = us} {vs = ws} e p q) g fs vs r = rw (e, append_assoc) (readings.both (reads_fit p g (h ∷ fs) (ws ++ vs) (reads_fit q g fs vs r)))

  -- more turns after whole ones
  reads_turns : {f : Form T N} {us : List K} → Fits G (Many f) us → (g : Goal K) (fs : List (Form T N)) (vs : List K) → Reads G g (Many f ∷ fs) vs → Reads G g (Many f ∷ fs) (us ++ vs)
  reads_turns forms.no_turn g fs vs r = r
  reads_turns (forms.turn {f = f} {us = us} {vs = ws} e p q) g fs vs r = rw (e, append_assoc) (readings.turn (reads_fit p g (Many f ∷ fs) (ws ++ vs) (reads_turns q g fs vs r)))

  -- What begins a form is read up to its end.
  pub reads_begin : {f : Form T N} {us : List K} → Begins G f us → (fs : List (Form T N)) (left : List K) → Reads G (Upto left) (f ∷ fs) (us ++ left)
  reads_begin empty fs left = reached refl
  reads_begin (forms.token i) fs left = readings.token i (reached refl)
  reads_begin (forms.rule p) fs left = readings.rule (reads_begin p fs left)
  reads_begin (forms.first p) fs left = readings.first (reads_begin p fs left)
  reads_begin (forms.second p) fs left = readings.second (reads_begin p fs left)
  reads_begin (forms.some p) fs left = readings.some (reads_begin p fs left)
  reads_begin (turns {f = f} {us = us} {vs = ws} e p q) fs left = rw (e, append_assoc) (reads_turns p (Upto left) fs (ws ++ left) (readings.turn (reads_begin q (Many f ∷ fs) left)))
  reads_begin (in_first {g = h} p) fs left = readings.both (reads_begin p (h ∷ fs) left)
  reads_begin (in_second {g = h} {us = us} {vs = ws} e p q) fs left = rw (e, append_assoc) (readings.both (reads_fit p (Upto left) (h ∷ fs) (ws ++ left) (reads_begin q fs left)))

  -- What fits a form begins it.
  pub fits_begins : {f : Form T N} {ts : List K} → Fits G f ts → Begins G f ts
  fits_begins (forms.token i) = forms.token i
  fits_begins (forms.rule p) = forms.rule (fits_begins p)
  fits_begins (forms.first p) = forms.first (fits_begins p)
  fits_begins (forms.second p) = forms.second (fits_begins p)
  fits_begins forms.none = empty
  fits_begins (forms.some p) = forms.some (fits_begins p)
  fits_begins forms.no_turn = empty
  fits_begins (forms.turn {ts = ts} e p q) = turns (sym (append-nil ts)) (forms.turn e p q) empty
  fits_begins (forms.both e p q) = in_second e p (fits_begins q)

  -- the tokens fit these forms, in turn, and begin them
  abbrev pub FitsAll : List (Form T N) → List K → Type 0
  FitsAll [] ts = ts ≡ []
  FitsAll (f ∷ fs) ts = (us : List K) × (vs : List K) × (ts ≡ us ++ vs) × Fits G f us × FitsAll fs vs

  abbrev pub BeginsAll : List (Form T N) → List K → Type 0
  BeginsAll [] ts = ts ≡ []
  BeginsAll (f ∷ fs) ts = (Begins G f ts) ⊎ ((us : List K) × (vs : List K) × (ts ≡ us ++ vs) × Fits G f us × BeginsAll fs vs)

  nothing : (fs : List (Form T N)) → BeginsAll fs []
  nothing [] = refl
  nothing (f ∷ fs) = inl empty

  joined : (us vs ts ws xs : List K) → ts ≡ us ++ vs → vs ≡ ws ++ xs → ts ≡ (us ++ ws) ++ xs
  joined us vs ts ws xs e f = e ∙ (ap (λ z. us ++ z) f ∙ sym (append_assoc us ws xs))

  up : {f h : Form T N} (fs : List (Form T N)) (ts : List K) → ((us : List K) → Begins G f us → Begins G h us) → ((us : List K) → Fits G f us → Fits G h us) → BeginsAll (f ∷ fs) ts → BeginsAll (h ∷ fs) ts
  up fs ts b p (inl q) = inl (b ts q)
  up fs ts b p (inr w) = inr (w.0, w.1, w.2, p w.0 w.3, w.4)

  up_both : {f h : Form T N} (fs : List (Form T N)) (ts : List K) → BeginsAll (f ∷ h ∷ fs) ts → BeginsAll ((f then h) ∷ fs) ts
  up_both fs ts (inl b) = inl (in_first b)
  up_both fs ts (inr w) = elim w.4 [
    | inl b ↦ inl (in_second w.2 w.3 b)
    | inr v ↦ inr (w.0 ++ v.0, v.1, joined w.0 w.1 ts v.0 v.1 w.2 v.2, forms.both refl w.3 v.3, v.4)
  ]

  turn_begins : {f : Form T N} (us vs ts : List K) → ts ≡ us ++ vs → Fits G f us → Begins G (Many f) vs → Begins G (Many f) ts
  turn_begins us vs ts e p empty = turns e (forms.turn (sym (append-nil us)) p forms.no_turn) empty
  turn_begins us vs ts e p (turns {us = xs} {vs = ys} f q b) = turns (joined us vs ts xs ys e f) (forms.turn refl p q) b

  up_turn : {f : Form T N} (fs : List (Form T N)) (ts : List K) → BeginsAll (f ∷ Many f ∷ fs) ts → BeginsAll (Many f ∷ fs) ts
  up_turn fs ts (inl b) = inl (turns {us = []} refl forms.no_turn b)
  up_turn fs ts (inr w) = elim w.4 [
    | inl b ↦ inl (turn_begins w.0 w.1 ts w.2 w.3 b)
    | inr v ↦ inr (w.0 ++ v.0, v.1, joined w.0 w.1 ts v.0 v.1 w.2 v.2, forms.turn refl w.3 v.3, v.4)
  ]

  -- What is read up to a place stands before it, and begins the forms.
  pub begun : {g : Goal K} {fs : List (Form T N)} {ts : List K} → Reads G g fs ts → (left : List K) → g ≡ Upto left → (front : List K) × (ts ≡ front ++ left) × BeginsAll fs front
  begun whole left e = cc
  begun (reached {fs = fs} p) left e = ([], (let q : left ≡ left = refl in cc), nothing fs)
  begun (readings.token {t = t} i r) left e = let h = begun r left e in (t ∷ h.0, ap (λ z. t ∷ z) h.1, inr (t ∷ [], h.0, refl, forms.token i, h.2))
  begun (readings.rule {fs = fs} r) left e = let h = begun r left e in (h.0, h.1, up fs h.0 (λ us p. forms.rule p) (λ us p. forms.rule p) h.2)
  begun (readings.first {fs = fs} r) left e = let h = begun r left e in (h.0, h.1, up fs h.0 (λ us p. forms.first p) (λ us p. forms.first p) h.2)
  begun (readings.second {fs = fs} r) left e = let h = begun r left e in (h.0, h.1, up fs h.0 (λ us p. forms.second p) (λ us p. forms.second p) h.2)
  begun (readings.none r) left e = let h = begun r left e in (h.0, h.1, inr ([], h.0, refl, forms.none, h.2))
  begun (readings.some {fs = fs} r) left e = let h = begun r left e in (h.0, h.1, up fs h.0 (λ us p. forms.some p) (λ us p. forms.some p) h.2)
  begun (readings.no_turn r) left e = let h = begun r left e in (h.0, h.1, inr ([], h.0, refl, forms.no_turn, h.2))
  begun (readings.turn {fs = fs} r) left e = let h = begun r left e in (h.0, h.1, up_turn fs h.0 h.2)
  begun (readings.both {fs = fs} r) left e = let h = begun r left e in (h.0, h.1, up_both fs h.0 h.2)

  -- for one form
  pub begins_one : (f : Form T N) (ts : List K) → BeginsAll (f ∷ []) ts → Begins G f ts
  begins_one f ts (inl b) = b
  begins_one f ts (inr w) = subst (λ z. Begins G f z) (sym (w.2 ∙ (ap (λ z. w.0 ++ z) w.4 ∙ append-nil w.0))) (fits_begins w.3)

  down_both : {f h : Form T N} (fs : List (Form T N)) (ts : List K) → FitsAll (f ∷ h ∷ fs) ts → FitsAll ((f then h) ∷ fs) ts
  down_both fs ts w = let v = w.4 in (w.0 ++ v.0, v.1, joined w.0 w.1 ts v.0 v.1 w.2 v.2, forms.both refl w.3 v.3, v.4)

  down_turn : {f : Form T N} (fs : List (Form T N)) (ts : List K) → FitsAll (f ∷ Many f ∷ fs) ts → FitsAll (Many f ∷ fs) ts
  down_turn fs ts w = let v = w.4 in (w.0 ++ v.0, v.1, joined w.0 w.1 ts v.0 v.1 w.2 v.2, forms.turn refl w.3 v.3, v.4)

  -- What is read to the end fits the forms.
  fitted : {g : Goal K} {fs : List (Form T N)} {ts : List K} → Reads G g fs ts → g ≡ Whole → FitsAll fs ts
  fitted whole e = refl
  fitted (reached p) e = cc
  fitted (readings.token {t = t} {ts = ts} i r) e = (t ∷ [], ts, refl, forms.token i, fitted r e)
  fitted (readings.rule r) e = let w = fitted r e in (w.0, w.1, w.2, forms.rule w.3, w.4)
  fitted (readings.first r) e = let w = fitted r e in (w.0, w.1, w.2, forms.first w.3, w.4)
  fitted (readings.second r) e = let w = fitted r e in (w.0, w.1, w.2, forms.second w.3, w.4)
  fitted (readings.none {ts = ts} r) e = ([], ts, refl, forms.none, fitted r e)
  fitted (readings.some r) e = let w = fitted r e in (w.0, w.1, w.2, forms.some w.3, w.4)
  fitted (readings.no_turn {ts = ts} r) e = ([], ts, refl, forms.no_turn, fitted r e)
  fitted (readings.turn {fs = fs} {ts = ts} r) e = down_turn fs ts (fitted r e)
  fitted (readings.both {fs = fs} {ts = ts} r) e = down_both fs ts (fitted r e)

  pub fits_one : (f : Form T N) (ts : List K) → Reads G Whole (f ∷ []) ts → Fits G f ts
  fits_one f ts r = let w = fitted r refl in subst (λ z. Fits G f z) (sym (w.2 ∙ (ap (λ z. w.0 ++ z) w.4 ∙ append-nil w.0))) w.3

  whole_fit : {f : Form T N} {ts : List K} → Fits G f ts → Reads G Whole (f ∷ []) ts
  whole_fit {f = f} {ts = ts} p = subst (λ z. Reads G Whole (f ∷ []) z) (append-nil ts) (reads_fit p Whole [] [] whole)

  -- A reading may stop before.
  cut : {g : Goal K} {fs : List (Form T N)} {ts : List K} → Reads G g fs ts → (front left : List K) → IsAhead g left → ts ≡ front ++ left → Reads G (Upto left) fs ts
  cut whole [] left a e = reached e
  cut whole (x ∷ front) left a e = cc
  cut (reached p) [] left a e = reached e
  cut (reached {left = last} p) (x ∷ front) left a e = absurd (omega (arith, a, ap length (sym p ∙ e), length-append front left))
  cut (readings.token i r) [] left a e = reached e
  cut (readings.token i r) (x ∷ front) left a e = readings.token i (cut r front left a (cc))
  cut (readings.rule r) front left a e = readings.rule (cut r front left a e)
  cut (readings.first r) front left a e = readings.first (cut r front left a e)
  cut (readings.second r) front left a e = readings.second (cut r front left a e)
  cut (readings.none r) front left a e = readings.none (cut r front left a e)
  cut (readings.some r) front left a e = readings.some (cut r front left a e)
  cut (readings.no_turn r) front left a e = readings.no_turn (cut r front left a e)
  cut (readings.turn r) front left a e = readings.turn (cut r front left a e)
  cut (readings.both r) front left a e = readings.both (cut r front left a e)

  -- The fronts of what fits or begins a form begin it.
  pub begins_front : {f : Form T N} (front after : List K) → Begins G f (front ++ after) → Begins G f front
  begins_front {f = f} front after p =
      let r : Reads G (Upto after) (f ∷ []) (front ++ after) = cut (subst (λ z. Reads G (Upto []) (f ∷ []) z) (append-nil (front ++ after)) (reads_begin p [] [])) front after (omega arith) refl in
      let h = begun r after refl in
      subst (λ z. Begins G f z) (sym (append_cancel_right front h.0 after h.1)) (begins_one f h.0 h.2)

  pub fits_front : {f : Form T N} (front after : List K) → Fits G f (front ++ after) → Begins G f front
  fits_front front after p = begins_front front after (fits_begins p)

  -- Where a reading stops.

  -- nothing follows
  bars_nothing : (ts : List K) (a : T) → at G a ts ≡ true → IsBarred G [] ts
  bars_nothing [] a e = cc
  bars_nothing (t ∷ ts) a e = λ g r. go g r
    where
      go : (g : Goal K) → Reads G g [] (t ∷ ts) → IsReached g (t ∷ ts)
      go _ (reached p) = p

  pub avoids_nothing : (ms : List T) → Avoids G ms []
  avoids_nothing [] = tt
  avoids_nothing (a ∷ ms) = (λ ts h. bars_nothing ts a h, avoids_nothing ms)

  -- tokens before one at which the reading stops
  stops_split : (ms : List T) (f : Form T N) (ts front left us : List K) → Stops G ms (f ∷ []) ts us → us ≡ left → ts ≡ front ++ left → Begins G f front → StopsAt G f ts us
  stops_split ms f ts front [] us p l e b = rw l (at_end {ts = ts} (subst (λ z. Begins G f z) (sym (e ∙ append-nil front)) b)
      (λ q. p.refuses [] (avoids_nothing ms) (subst (λ z. Reads G (behind_next z) (f ∷ []) ts) (sym l) (whole_fit q))))
  stops_split ms f ts front (t ∷ after) us p l e b = rw l (at_token {ts = ts} front after t e b
      (λ q. p.refuses [] (avoids_nothing ms) (subst (λ z. Reads G (behind_next z) (f ∷ []) ts) (sym l) (subst (λ z. Reads G (Upto after) (f ∷ []) z) (append_assoc front (t ∷ []) after ∙ sym e) (reads_begin q [] after)))))

  -- A reading that stops is where the list stops being of the form.
  pub stops_at : {ms : List T} {f : Form T N} {ts us : List K} → Stops G ms (f ∷ []) ts us → StopsAt G f ts us
  stops_at {ms = ms} {f = f} {ts = ts} {us = us} p = let h = begun (p.begins []) us refl in stops_split ms f ts h.0 us us p refl h.1 (begins_one f h.0 h.2)

  -- One that ends before the tokens do stops there.
  no_more : (us : List K) (t : K) → Reads G (Upto us) [] (t ∷ us) → ⊥
  no_more us t (reached e) = absurd (omega (arith, ap length e))

  early : (ms : List T) (f : Form T N) (ts : List K) (t : K) (vs : List K) → Same G ms (f ∷ []) ts [] (t ∷ vs) → StopsAt G f ts (t ∷ vs)
  early ms f ts t vs p =
      let h = begun (p.back (Upto (t ∷ vs)) [] (reached refl)) (t ∷ vs) refl in
      at_token {ts = ts} h.0 vs t h.1 (begins_one f h.0 h.2)
      (λ c. no_more vs t (p.there (Upto vs) [] (avoids_nothing ms) (omega arith) (subst (λ z. Reads G (Upto vs) (f ∷ []) z) (append_assoc h.0 (t ∷ []) vs ∙ sym h.1) (reads_begin c [] vs))))

  pub ends_early : {ms : List T} {f : Form T N} {ts : List K} (us : List K) → 0 < length us → Same G ms (f ∷ []) ts [] us → StopsAt G f ts us
  ends_early [] l p = absurd (omega arith)
  ends_early {ms = ms} {f = f} {ts = ts} (t ∷ vs) l p = early ms f ts t vs p

  -- One that ends with the tokens has read the form.
  pub ends_with : {ms : List T} {f : Form T N} {ts : List K} (us : List K) → length us ≡ 0 → Same G ms (f ∷ []) ts [] us → Fits G f ts
  ends_with {f = f} {ts = ts} [] l p = fits_one f ts (p.back Whole [] whole)
  ends_with (t ∷ vs) l p = absurd (omega (arith, l))

  -- What fits stops nowhere.
  pub never_stops : {f : Form T N} (ts left : List K) → Fits G f ts → StopsAt G f ts left → ⊥
  never_stops ts _ p (at_end b n) = n p
  never_stops {f = f} ts _ p (at_token front after t e b n) = n (fits_front (front ++ t ∷ []) after (subst (λ z. Fits G f z) (e ∙ sym (append_assoc front (t ∷ []) after)) p))
