-- What begins a form goes on to fit it, where each terminal has a token and each rule a list that fits it.
use Rattle.std.proofs.Common.{IsTrue, List, [], ◌∷◌, ◌++◌, refl, ap, sym, ◌∙◌, subst, append_assoc, append-nil}
use Rattle.rb_grammar.specs.Forms.{Form, Tok, Non, ◌or◌, Opt, Many, ◌then◌, Grammar, Fits, Begins, empty, turns, in_first, in_second}
use Rattle.rb_grammar.specs.Forms as forms

module _ {T N K : Type 0} (G : Grammar T N K) (tokens : (a : T) → (t : K) × IsTrue (G.is a t)) (rules : (x : N) → (ts : List K) × Fits G (Non x) ts) where
  some_fit : (f : Form T N) → (ts : List K) × Fits G f ts
  some_fit (Tok a) = let t = tokens a in (t.0 ∷ [], forms.token t.1)
  some_fit (Non x) = rules x
  some_fit (f or g) = let p = some_fit f in (p.0, forms.first p.1)
  some_fit (Opt f) = ([], forms.none)
  some_fit (Many f) = ([], forms.no_turn)
  some_fit (f then g) = let p = some_fit f in let q = some_fit g in (p.0 ++ q.0, forms.both refl p.1 q.1)

  -- one more turn at the end
  one_more : {f : Form T N} {us : List K} → Fits G (Many f) us → (vs : List K) → Fits G f vs → Fits G (Many f) (us ++ vs)
  one_more forms.no_turn vs q = forms.turn (sym (append-nil vs)) q forms.no_turn
  one_more (forms.turn {us = us} {vs = ws} e p r) vs q = forms.turn (ap (λ z. z ++ vs) e ∙ append_assoc us ws vs) p (one_more r vs q)

  pub goes_on : {f : Form T N} {ts : List K} → Begins G f ts → (more : List K) × Fits G f (ts ++ more)
  goes_on {f = f} empty = some_fit f
  goes_on (forms.token i) = ([], forms.token i)
  goes_on (forms.rule p) = let w = goes_on p in (w.0, forms.rule w.1)
  goes_on (forms.first p) = let w = goes_on p in (w.0, forms.first w.1)
  goes_on (forms.second p) = let w = goes_on p in (w.0, forms.second w.1)
  goes_on (forms.some p) = let w = goes_on p in (w.0, forms.some w.1)
  goes_on (turns {f = f} {us = us} {vs = vs} e p q) =
      let w = goes_on q in
      (w.0, subst (λ z. Fits G (Many f) z) (sym (append_assoc us vs w.0) ∙ ap (λ z. z ++ w.0) (sym e)) (one_more p (vs ++ w.0) w.1))
  goes_on (in_first {g = g} {ts = ts} p) = let w = goes_on p in let s = some_fit g in (w.0 ++ s.0, forms.both (sym (append_assoc ts w.0 s.0)) w.1 s.1)
  goes_on (in_second {us = us} {vs = vs} e p q) = let w = goes_on q in (w.0, forms.both (ap (λ z. z ++ w.0) e ∙ append_assoc us vs w.0) p w.1)
