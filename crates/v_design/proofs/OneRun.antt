-- A well-formed module has one run for given contents and vectors.
use Rattle.std.specs.Bool.{OnTrue}
use Rattle.std.specs.List.{AllByRecursion}
use Rattle.std.specs.Str.{bytes_eq}
use Rattle.std.proofs.Common.{◌≡◌, ℕ, ◌==◌, Bool, true, false, if◌then◌else◌, Option, Some, None, List, [], ◌∷◌, ◌++◌, refl, ap, sym, ◌∙◌}
use Rattle.rb_base.specs.Bits.{part}
use Rattle.rb_base.specs.declared.ports.Pin.{Pin}
use Rattle.v_design.specs.Lexemes.{among}
use Rattle.v_design.specs.Expr.{Expr, Exprs, Net, Bits, Const, Cat, One, Two, Pick, none, more, Widths, Values, width_of, value_of, value_of_all, value_under, value_over, nets_of, nets_of_each}
use Rattle.v_design.specs.Tree.{Tree}
use Rattle.v_design.specs.Design.{Step, Reset, module_of, widths, inputs, outputs}
use Rattle.v_design.specs.WellFormed.{IsWellFormed, Given, nets, names, has, is_pin, clock}
use Rattle.v_design.specs.WellFormed as form
use Rattle.v_design.specs.Run.{under_reset, step_value, next_value, IsSettled, Moves, values_at, Run}
use Rattle.v_design.proofs.Tests.{and-left, and-right}
use Rattle.v_design.proofs.Names.{at_name, each_one, each_two, each_three, not-flip}
use Rattle.v_design.proofs.Nets.{pin_given, given_input}
use Rattle.v_design.proofs.Steps.{holds_at, IsSound, ResetIsGiven, steps_sound, tos, outputs_driven, holds_at_target, holds_at_read}

-- v and w agree at each of these names
abbrev pub AgreeAt : Values → Values → List (List ℕ) → Type 0
AgreeAt v w ns = AllByRecursion (λ n. v n ≡ w n) ns

agree-left : (v w : Values) (xs ys : List (List ℕ)) → AgreeAt v w (xs ++ ys) → AgreeAt v w xs
agree-left v w [] ys h = tt
agree-left v w (x ∷ xs) ys h = (h.0, agree-left v w xs ys h.1)

agree-right : (v w : Values) (xs ys : List (List ℕ)) → AgreeAt v w (xs ++ ys) → AgreeAt v w ys
agree-right v w [] ys h = h
agree-right v w (x ∷ xs) ys h = agree-right v w xs ys h.1

mutual
  pub value-agree : (ws : Widths) (v w : Values) (e : Expr) → AgreeAt v w (nets_of e) → value_of ws v e ≡ value_of ws w e
  value-agree ws v w (Net n) h = h.0
  value-agree ws v w (Bits n hi lo) h = ap (λ x. part x hi lo) h.0
  value-agree ws v w (Const x y) h = refl
  value-agree ws v w (Cat es) h = values-agree ws v w es h
  value-agree ws v w (One op e) h = ap (λ x. value_under op (width_of ws e) x) (value-agree ws v w e h)
  value-agree ws v w (Two op a b) h =
      let p : value_of ws v a ≡ value_of ws w a = value-agree ws v w a (agree-left v w (nets_of a) (nets_of b) h) in
      let q : value_of ws v b ≡ value_of ws w b = value-agree ws v w b (agree-right v w (nets_of a) (nets_of b) h) in
      ap (λ x. value_over op (width_of ws a) x (value_of ws v b)) p ∙ ap (λ x. value_over op (width_of ws a) (value_of ws w a) x) q
  value-agree ws v w (Pick c a b) h =
      let p : value_of ws v c ≡ value_of ws w c = value-agree ws v w c (agree-left v w (nets_of c) (nets_of a ++ nets_of b) h) in
      let r : AgreeAt v w (nets_of a ++ nets_of b) = agree-right v w (nets_of c) (nets_of a ++ nets_of b) h in
      let q : value_of ws v a ≡ value_of ws w a = value-agree ws v w a (agree-left v w (nets_of a) (nets_of b) r) in
      let s : value_of ws v b ≡ value_of ws w b = value-agree ws v w b (agree-right v w (nets_of a) (nets_of b) r) in
      ap (λ x. if x == 0 then value_of ws v b else value_of ws v a) p
      ∙ (ap (λ x. if value_of ws w c == 0 then x else value_of ws v a) s ∙ ap (λ x. if value_of ws w c == 0 then value_of ws w b else x) q)

  values-agree : (ws : Widths) (v w : Values) (es : Exprs) → AgreeAt v w (nets_of_each es) → value_of_all ws v es ≡ value_of_all ws w es
  values-agree ws v w none h = refl
  values-agree ws v w (more e es) h =
      let p : value_of ws v e ≡ value_of ws w e = value-agree ws v w e (agree-left v w (nets_of e) (nets_of_each es) h) in
      let q : value_of_all ws v es ≡ value_of_all ws w es = values-agree ws v w es (agree-right v w (nets_of e) (nets_of_each es) h) in
      rw (p, q)

head-eq : {x y : ℕ} {xs ys : List ℕ} → x ∷ xs ≡ y ∷ ys → x ≡ y
head-eq h = cc

tail-eq : {x y : ℕ} {xs ys : List ℕ} → x ∷ xs ≡ y ∷ ys → xs ≡ ys
tail-eq h = cc

-- pins with the same values
pins_agree : (v w : Values) (ps : List Pin) → values_at v ps ≡ values_at w ps → AllByRecursion (λ p. v p.name ≡ w p.name) ps
pins_agree v w [] h = tt
pins_agree v w (p ∷ ps) h = (head-eq h, pins_agree v w ps (tail-eq h))

pub values_at-same : (v w : Values) (ps : List Pin) → AllByRecursion (λ p. v p.name ≡ w p.name) ps → values_at v ps ≡ values_at w ps
values_at-same v w [] h = refl
values_at-same v w (p ∷ ps) h = ap (λ x. x ∷ values_at v ps) h.0 ∙ ap (λ xs. w p.name ∷ xs) (values_at-same v w ps h.1)

-- a reset acts alike where its input has one value
pub reset_agree : (ns : List form.Net) (v w : Values) (r : Option Reset) (x : ℕ) → ResetIsGiven ns r → ((n : List ℕ) → has ns Given n ≡ true → bytes_eq n clock ≡ false → v n ≡ w n)
    → under_reset v r x ≡ under_reset w r x
reset_agree ns v w None x g same = refl
reset_agree ns v w (Some r) x g same =
    let e : v r.pin ≡ w r.pin = same r.pin (pin_given ns r.pin (and-left (is_pin ns r.pin) _ g)) (not-flip (bytes_eq r.pin clock) (and-right (is_pin ns r.pin) _ g)) in
    ap (λ y. if (if r.low then y == 0 else y == 1) then r.value else x) e

-- contents agree at the registers
abbrev SameKept : Values → Values → List Step → Type 0
SameKept c d ss = AllByRecursion (λ s. OnTrue s.clocked (c s.to ≡ d s.to)) ss

module _ (t : Tree) (f : IsWellFormed t) (v w c d : Values)
    (given : values_at v (inputs (module_of t)) ≡ values_at w (inputs (module_of t)))
    (a : IsSettled (widths (module_of t)) c v (module_of t).steps) (b : IsSettled (widths (module_of t)) d w (module_of t).steps)
    (kept : SameKept c d (module_of t).steps) where
  abbrev ws : Widths
  ws = widths (module_of t)

  abbrev Sound : Step → Type 0
  Sound s = IsSound (nets t) ws f.rank s

  abbrev Same : List ℕ → Type 0
  Same n = v n ≡ w n

  inputs_agree : (n : List ℕ) → has (nets t) Given n ≡ true → bytes_eq n clock ≡ false → Same n
  inputs_agree n g other = at_name (λ p. p.name) Same (inputs (module_of t)) (pins_agree v w (inputs (module_of t)) given) n (given_input t f n g other)

  abbrev Acts : Step → Type 0
  Acts s = (s.clocked ≡ false → AgreeAt v w (nets_of s.expr)) → Same s.to

  step_agrees : (s : Step) → Sound s → v s.to ≡ step_value ws c v s → OnTrue s.clocked (c s.to ≡ d s.to) → w s.to ≡ step_value ws d w s → Acts s
  step_agrees s sound p k q reads = p ∙ (go s.clocked k reads ∙ sym q)
    where
      go : (b : Bool) → OnTrue b (c s.to ≡ d s.to) → (b ≡ false → AgreeAt v w (nets_of s.expr))
          → (if b then under_reset v s.reset (c s.to) else value_of ws v s.expr) ≡ (if b then under_reset w s.reset (d s.to) else value_of ws w s.expr)
      go true k reads = reset_agree (nets t) v w s.reset (c s.to) sound.reset inputs_agree ∙ ap (λ x. under_reset w s.reset x) k
      go false k reads = value-agree ws v w s.expr (reads refl)

  acts : AllByRecursion Acts (module_of t).steps
  acts = each_two (λ s. w s.to ≡ step_value ws d w s) (λ s. w s.to ≡ step_value ws d w s → Acts s) Acts (module_of t).steps (λ s q h. h q) b
      (each_three Sound (λ s. v s.to ≡ step_value ws c v s) (λ s. OnTrue s.clocked (c s.to ≡ d s.to)) (λ s. w s.to ≡ step_value ws d w s → Acts s) (module_of t).steps step_agrees (steps_sound t f) a kept)

  -- Two settled valuations agree at each declared net but the clock.
  pub settled_once : (n : List ℕ) → among (names (nets t)) n ≡ true → bytes_eq n clock ≡ false → v n ≡ w n
  settled_once n dn other = holds_at t f Same inputs_agree acts n dn other

  -- One edge gives one answer.
  pub outputs_once : values_at v (outputs (module_of t)) ≡ values_at w (outputs (module_of t))
  outputs_once = values_at-same v w (outputs (module_of t))
      (each_one (λ p. among (tos (module_of t).steps) p.name ≡ true) (λ p. v p.name ≡ w p.name) (outputs (module_of t))
      (λ p h. holds_at_target t f Same inputs_agree acts p.name h) (outputs_driven t f))

  move_agrees : (x y : Values) (s : Step) → Sound s → OnTrue s.clocked (x s.to ≡ next_value ws v s) → OnTrue s.clocked (y s.to ≡ next_value ws w s) → OnTrue s.clocked (x s.to ≡ y s.to)
  move_agrees x y s sound p q = go s.clocked p q
    where
      go : (b : Bool) → OnTrue b (x s.to ≡ next_value ws v s) → OnTrue b (y s.to ≡ next_value ws w s) → OnTrue b (x s.to ≡ y s.to)
      go true p q = p ∙ (reset_agree (nets t) v w s.reset (value_of ws v s.expr) sound.reset inputs_agree
          ∙ (ap (λ z. under_reset w s.reset z) (value-agree ws v w s.expr (holds_at_read t f Same inputs_agree acts s sound)) ∙ sym q))
      go false p q = tt

  pub moved_once : (x y : Values) → Moves ws v x (module_of t).steps → Moves ws w y (module_of t).steps → SameKept x y (module_of t).steps
  moved_once x y p q = each_three Sound (λ s. OnTrue s.clocked (x s.to ≡ next_value ws v s)) (λ s. OnTrue s.clocked (y s.to ≡ next_value ws w s)) (λ s. OnTrue s.clocked (x s.to ≡ y s.to))
      (module_of t).steps (move_agrees x y) (steps_sound t f) p q

kept_refl : (c : Values) (ss : List Step) → SameKept c c ss
kept_refl c [] = tt
kept_refl c (s ∷ ss) = (go s.clocked, kept_refl c ss)
  where
    go : (b : Bool) → OnTrue b (c s.to ≡ c s.to)
    go true = refl
    go false = tt

runs_from : (t : Tree) → IsWellFormed t → (xs os ps : List (List ℕ)) (c d : Values) → SameKept c d (module_of t).steps
    → Run (module_of t) c xs os → Run (module_of t) d xs ps → os ≡ ps
runs_from t f [] [] [] c d k p q = refl
runs_from t f [] [] (o ∷ ps) c d k p q = absurd q
runs_from t f [] (o ∷ os) ps c d k p q = absurd p
runs_from t f (x ∷ xs) [] ps c d k p q = absurd p
runs_from t f (x ∷ xs) (o ∷ os) [] c d k p q = absurd q
runs_from t f (x ∷ xs) (o ∷ os) (r ∷ ps) c d k p q =
    let e = p.1 in let g = q.1 in
    let same_out : o ≡ r = sym e.seen ∙ (outputs_once t f e.values g.values c d (e.given ∙ sym g.given) e.settled g.settled k ∙ g.seen) in
    let rest : os ≡ ps = runs_from t f xs os ps p.0 q.0 (moved_once t f e.values g.values c d (e.given ∙ sym g.given) e.settled g.settled k p.0 q.0 e.moved g.moved) p.2 q.2 in
    cc

-- A well-formed module has at most one run from given contents over given vectors.
pub one_run : (t : Tree) → IsWellFormed t → (contents : Values) (xs os ps : List (List ℕ)) → Run (module_of t) contents xs os → Run (module_of t) contents xs ps → os ≡ ps
one_run t f contents xs os ps p q = runs_from t f xs os ps contents contents (kept_refl contents (module_of t).steps) p q
