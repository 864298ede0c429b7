-- The steps of paths, where tests say that they are the same.
use Rattle.std.proofs.Common.{◌≡◌, ◌∙◌, true, ◌&&◌, List, [], ◌∷◌, ◌++◌, bytes_eq, refl, sym, ap}
use Rattle.std.specs.Cmp.Lexicographic.{bytes_decides}
use Rattle.std.proofs.lemmas.Bool.{and_parts}
use Rattle.plain_lemmas.proofs.Lists.{bytes_eq-itself as same-bytes}
use Rattle.rdl_values.specs.Bodies.{Path, Step, below_top, of_signal}
use Rattle.rdl_layers.specs.Assignments.{same_path, same_step}
use Rattle.rdl_layers.specs.Fields.{all_but_last, same_steps}

pub step-refl : (s : Step) → same_step s s ≡ true
step-refl s = ap (λ b. b && bytes_eq s.index s.index) (same-bytes s.name) ∙ same-bytes s.index

pub steps-refl : (ss : List Step) → same_steps ss ss ≡ true
steps-refl [] = refl
steps-refl (s ∷ ss) = ap (λ b. b && same_steps ss ss) (step-refl s) ∙ steps-refl ss

pub equal-step : (s t : Step) → s.name ≡ t.name → s.index ≡ t.index → s ≡ t
equal-step s t e g i = record { name = e i; index = g i }

pub is-same-step : (s t : Step) → same_step s t ≡ true → s ≡ t
is-same-step s t e = let p = and_parts (bytes_eq s.name t.name) (bytes_eq s.index t.index) e in equal-step s t ((bytes_decides s.name t.name).0 p.0) ((bytes_decides s.index t.index).0 p.1)

pub are-same-steps : (ss ts : List Step) → same_steps ss ts ≡ true → ss ≡ ts
are-same-steps [] [] e = refl
are-same-steps [] (t ∷ ts) e = cc
are-same-steps (s ∷ ss) [] e = cc
are-same-steps (s ∷ ss) (t ∷ ts) e = let p = and_parts (same_step s t) (same_steps ss ts) e in (λ i. is-same-step s t p.0 i ∷ are-same-steps ss ts p.1 i)

pub front : (ss : List Step) (t : Step) → all_but_last (ss ++ (t ∷ [])) ≡ ss
front [] t = refl
front (s ∷ []) t = refl
front (s ∷ u ∷ ss) t = ap (λ xs. s ∷ xs) (front (u ∷ ss) t)

pub path-refl : (p : Path) → same_path p p ≡ true
path-refl (of_signal s) = steps-refl (s ∷ [])
path-refl (below_top ss) = steps-refl ss

pub is-same-path : (p q : Path) → same_path p q ≡ true → p ≡ q
is-same-path (of_signal s) (of_signal t) e = ap of_signal (is-same-step s t (and_parts (same_step s t) true e).0)
is-same-path (below_top ss) (below_top ts) e = ap below_top (are-same-steps ss ts e)
is-same-path (of_signal s) (below_top ts) e = cc
is-same-path (below_top ss) (of_signal t) e = cc
