-- Steps and trees of expressions.
use Rattle.std.proofs.Common.{◌≡◌, Option, Some, None, MatchOption, Result, Ok, Err, IfOk, OnOk, List, [], ◌∷◌, ◌++◌, refl, ap, sym, ◌∙◌, subst, append-nil, append_assoc}
use Rattle.std.specs.Borrow.{Bor}
use Rattle.rb_base.specs.declared.place.Place.{Place}
use Rattle.rb_grammar.specs.declared.stop.Stop.{Stop}
use Rattle.rb_grammar.specs.Forms.{Non, Many, ◌or◌, ◌then◌}
use Rattle.rb_grammar.specs.Readings.{at, Takes, Same}
use Rattle.rb_grammar.proofs.Following.{◌⟫◌}
use Rattle.rb_grammar.proofs.Barring.{Here}
use Rattle.rb_grammar.proofs.Steps.{entering, opening, taking, seen}
use Rattle.rdl_tree.specs.declared.expr.Expr.{Expr}
use Rattle.rdl_tree.specs.declared.expr.Expr.TheVariants as expr
use Rattle.rdl_tree.specs.declared.expr.Name.{Name}
use Rattle.rdl_tree.specs.declared.expr.Path.{Path, out-Path, roll-Path, out-roll-Path}
use Rattle.rdl_tree.specs.declared.expr.Step.{Step}
use Rattle.rdl_tree.specs.declared.token.Mark.TheVariants as marks
use Rattle.rdl_tree.specs.declared.token.Terminal.TheVariants as terminals
use Rattle.rdl_tree.specs.declared.token.Token.{Token}
use Rattle.rdl_tree.specs.Grammar.{Rule, grammar, name, mark, behind}
use Rattle.rdl_tree.specs.Grammar as rules
use Rattle.rdl_tree.specs.Tree.{IsMark, IsName, DerivesExpr, DerivesBinary, DerivesPrefix, DerivesPrimary, DerivesPath, DerivesSteps, DerivesIndices, pick, plain, not, steps, next_step, step, next_index}
use Rattle.rdl_expressions.specs.Following.{after_indices, after_primary, item_of, brackets_or_name, flag_or_other, behind_name, Adds, AddsStep, ClosesIndex, IsPick}
use Rattle.rdl_expressions.proofs.Firsts.{right}
use Rattle.rb_grammar.proofs.Factoring.{splitting, packing, either}

-- a name begins an entry of an enumeration or a path
pub name_step : {t : Token} {ts us : List Token} → Takes grammar terminals.Name ts t us
    → Same grammar after_primary ((name then mark marks.ColonColon then name or Non rules.Path then item_of) ∷ []) ts (behind_name ∷ []) us
name_step i = either (taking right i refl ⟫ packing 1) (splitting ⟫ entering ⟫ entering ⟫ taking right i refl ⟫ packing 2)

-- a bracket begins one more index
pub index_step : {t : Token} {ts us : List Token} → IsMark marks.OpenBracket ts t us
    → Same grammar after_indices (Many (Non rules.Index) ∷ []) ts (Non rules.Expr ∷ mark marks.CloseBracket ∷ Many (Non rules.Index) ∷ []) us
index_step i = opening right (Here (terminals.Mark marks.OpenBracket)) refl (seen i) ⟫ entering ⟫ taking right i refl

pub plain_returns : {ts us : List Token} (vs : List Token) (r : Result Expr Stop) → us ≡ ts → IfOk r (DerivesPrimary us vs) → IfOk r (DerivesPrefix ts vs)
plain_returns vs (Ok e) l d = plain (subst (λ z. DerivesPrimary z vs e) l d)
plain_returns vs (Err stop) l d = tt

pub not_tree : {t : Token} {ts us vs : List Token} {a : Bor Expr} {x : Expr} → a.now ≡ x → IsMark marks.Not ts t us → DerivesPrimary us vs x → DerivesPrefix ts vs (expr.Not a t.place)
not_tree {us = us} {vs = vs} e i d = not i (subst (λ z. DerivesPrimary us vs z) (sym e) d)

pub pick_tree : {t u : Token} {ts us vs ws xs ys : List Token} {place : Place} {x y z e : Expr} → IsPick x y z place e → place ≡ t.place → DerivesBinary 0 ts us x → IsMark marks.Question us t vs
    → DerivesBinary 0 vs ws y → IsMark marks.Colon ws u xs → DerivesBinary 0 xs ys z → DerivesExpr ts ys e
pick_tree {ts = ts} {us = us} {vs = vs} {ws = ws} {xs = xs} {ys = ys} p at d i b j f =
    subst (λ w. DerivesExpr ts ys w) (sym (p.is ∙ ap (λ w. expr.Pick p.first p.second p.third w) at))
    (pick (subst (λ w. DerivesBinary 0 ts us w) (sym p.asked) d) i (subst (λ w. DerivesBinary 0 vs ws w) (sym p.chosen) b) j (subst (λ w. DerivesBinary 0 xs ys w) (sym p.other) f))

pub path_end : (b : Bor (List Step)) (ss : List Step) → b.now ≡ ss → (out-Path (roll-Path record { steps = b })).steps.now ≡ ss ++ []
path_end b ss e = ap (λ p. p.steps.now) (out-roll-Path record { steps = b }) ∙ (e ∙ sym (append-nil ss))

pub path_start : {ts us vs : List Token} {n : Name} {xs ys : List Step} → xs ≡ [] → AddsStep n us vs xs ys → IsName ts us n
    → {ws : List Token} {ss : List Step} → DerivesSteps vs ws ss → {p : Path} → (out-Path p).steps.now ≡ ys ++ ss → DerivesPath ts ws p
path_start {n = n} e a k {ss = ss} r g =
    steps {s = record { name = n; index = a.index }} (g ∙ ap (λ z. z ++ ss) (a.list ∙ ap (λ z. z ++ (record { name = n; index = a.index } ∷ [])) e)) (step k a.derives) r

pub path_more : {t : Token} {ts us vs ws : List Token} {n : Name} {xs ys : List Step} (a : AddsStep n vs ws xs ys) → IsMark marks.Dot ts t us → IsName us vs n
    → {zs : List Token} {ss : List Step} → DerivesSteps ws zs ss → {all : List Step} → all ≡ ys ++ ss → DerivesSteps ts zs (record { name = n; index = a.index } ∷ ss) × (all ≡ xs ++ (record { name = n; index = a.index } ∷ ss))
path_more {n = n} {xs = xs} a i k {ss = ss} r g =
    (next_step i (step k a.derives) r, g ∙ (ap (λ z. z ++ ss) a.list ∙ append_assoc xs (record { name = n; index = a.index } ∷ []) ss))

pub index_more : {t : Token} {ts us vs ws : List Token} {e : Expr} {es : List Expr} → IsMark marks.OpenBracket ts t us → ClosesIndex us vs e → DerivesIndices vs ws es → DerivesIndices ts ws (e ∷ es)
index_more i c d = next_index i c.index c.closes d

-- a boolean behind what is neither a number nor a string
pub flag_returns : {ts us : List Token} (vs : List Token) (r : Option Expr) → us ≡ ts → Same grammar after_primary (Non rules.Primary ∷ []) ts (flag_or_other ∷ []) us
    → MatchOption r ((vs ≡ us) × Same grammar after_primary (flag_or_other ∷ []) us (brackets_or_name ∷ []) vs) (λ e. DerivesPrimary us vs e × Same grammar after_primary (flag_or_other ∷ []) us [] vs)
    → MatchOption r ((vs ≡ ts) × Same grammar after_primary (Non rules.Primary ∷ []) ts (brackets_or_name ∷ []) vs) (λ e. DerivesPrimary ts vs e × Same grammar after_primary (Non rules.Primary ∷ []) ts [] vs)
flag_returns vs None l p h = (h.0 ∙ l, p ⟫ h.1)
flag_returns vs (Some e) l p h = (subst (λ z. DerivesPrimary z vs e) l h.0, p ⟫ h.1)

-- one more in a list
pub adding : {X U : Type 0} (Derives : List Token → List Token → X → Type 0) {ts us : List Token} {x : X} (xs ys : List X) (r : Result U Stop) → Derives ts us x → OnOk r (ys ≡ xs ++ (x ∷ [])) → OnOk r (Adds Derives ts us xs ys)
adding Derives {x = x} xs ys (Ok u) d e = record { one = x; derives = d; list = e }
adding Derives xs ys (Err stop) d e = tt

pub adding_step : {U : Type 0} (n : Name) (index : Bor (List Expr)) {ts us : List Token} (xs ys : List Step) (r : Result U Stop) → DerivesIndices ts us index.now → OnOk r (ys ≡ xs ++ (record { name = n; index = index } ∷ [])) → OnOk r (AddsStep n ts us xs ys)
adding_step n index xs ys (Ok u) d e = record { index = index; derives = d; list = e }
adding_step n index xs ys (Err stop) d e = tt
