-- The steps of a path, as the code reads them.
use Rattle.std.proofs.Common.{◌≡◌, refl, sym, ap, ◌∙◌, List, [], ◌∷◌, ℕ}
use Rattle.rdl_tree.specs.declared.expr.Path.{Path, out-Path, roll-Path, roll-out-Path}
use Rattle.rdl_tree.specs.declared.expr.Step.{Step}
use Rattle.rdl_tree.specs.declared.expr.Expr.{Expr}
use Rattle.rdl_tree.specs.declared.expr.Name.{Name}
use Rattle.rdl_values.specs.Views.{steps_of}

abbrev path_from : ℕ × ℕ → List Step → Path
path_from q ss = roll-Path (record { steps = record { ref_ptr = q; now = ss } })

abbrev step_from : Name → ℕ × ℕ → List Expr → Step
step_from n r es = record { name = n; index = record { ref_ptr = r; now = es } }

abbrev first_index : List Step → List Expr
first_index [] = []
first_index (s ∷ ss) = s.index.now

indices-shown : (q r : ℕ × ℕ) (n : Name) (es : List Expr) → first_index (steps_of (path_from q (step_from n r es ∷ []))) ≡ es
unfolding roll-Path denote.Hole.Carrier.roll denote.Hole.Carrier.hidden Rattle.rdl_tree.specs.declared.expr.Expr.TheBlock.hidden-the_row-Step-1 Rattle.rdl_tree.specs.declared.expr.Expr.TheBlock.hidden-the_row-Expr-0
indices-shown q r n [] = refl
indices-shown q r n (e ∷ es) = ap (λ xs. e ∷ xs) (indices-shown q r n es)

steps-shown : (q : ℕ × ℕ) (ss : List Step) → steps_of (path_from q ss) ≡ ss
unfolding roll-Path denote.Hole.Carrier.roll denote.Hole.Carrier.hidden Rattle.rdl_tree.specs.declared.expr.Expr.TheBlock.hidden-the_row-Step-1
steps-shown q [] = refl
steps-shown q (s ∷ ss) =
    ap (λ es. step_from s.name s.index.ref_ptr es ∷ steps_of (path_from q ss)) (indices-shown q s.index.ref_ptr s.name s.index.now) ∙ ap (λ rest. s ∷ rest) (steps-shown q ss)

-- the definitions' steps of a path are those of the code
pub steps_of_code : (p : Path) → steps_of p ≡ (out-Path p).steps.now
steps_of_code p = ap steps_of (sym (roll-out-Path p)) ∙ steps-shown (out-Path p).steps.ref_ptr (out-Path p).steps.now
