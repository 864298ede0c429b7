-- What the words of a dump that was written stand for.
use Rattle.std.specs.Fmt.{decimal}
use Rattle.std.specs.List.{enumerate_from}
use Rattle.std.specs.Prelude.{nat_lt, ◌==◌, if◌then◌else◌, option_and_then}
use Rattle.std.proofs.Common.{◌≡◌, ℕ, ◌+◌, ◌-◌, Bool, true, false, Option, Some, None, List, [], ◌∷◌, ◌++◌, codes, map, refl, ap, ◌∙◌}
use Rattle.std.proofs.lemmas.List.{map-append}
use Rattle.rb_base.specs.declared.ports.Pin.{Pin}
use Rattle.vcd_syntax.specs.declared.kind.Kind.{Kind}
use Rattle.vcd_syntax.specs.declared.kind.Kind.TheVariants as kind
use Rattle.vcd_syntax.specs.Dump.{code, binary, end, var_line}
use Rattle.vcd_syntax.specs.declared.state.State.{State}
use Rattle.vcd_syntax.specs.declared.state.State.TheVariants as state
use Rattle.vcd_syntax.specs.Exits.{after, after_all}
use Rattle.vcd_syntax.proofs.Lines.{all_words}

-- words with their kinds
abbrev pub Spoken : Type 0
Spoken = List (Kind × List ℕ)

abbrev pub kinds : Spoken → List Kind
kinds xs = map (λ x. x.0) xs

abbrev pub said : Spoken → List (List ℕ)
said xs = map (λ x. x.1) xs

abbrev pub range_spoken : ℕ → Spoken
range_spoken w = if nat_lt 1 w then (kind.Range, codes "[" ++ (decimal (w - 1) ++ codes ":0]")) ∷ [] else []

abbrev pub var_spoken : ℕ → Pin → Spoken
var_spoken k p = (kind.Var, codes "$var") ∷ (kind.NetKind, codes "wire") ∷ (kind.Width, decimal p.width) ∷ (kind.Code, code k) ∷ (kind.Name, p.name) ∷ (range_spoken p.width ++ (kind.End, end) ∷ [])

abbrev pub vars_spoken : ℕ → List Pin → Spoken
vars_spoken k [] = []
vars_spoken k (p ∷ ps) = var_spoken k p ++ vars_spoken (k + 1) ps

abbrev pub head_spoken : List ℕ → List Pin → Spoken
head_spoken name ps =
    (kind.Heading, codes "$timescale") ∷ (kind.Said, codes "1ns") ∷ (kind.End, end)
    ∷ (kind.Scope, codes "$scope") ∷ (kind.ScopeKind, codes "module") ∷ (kind.ScopeName, name) ∷ (kind.End, end)
    ∷ (vars_spoken 0 ps ++ ((kind.Upscope, codes "$upscope") ∷ (kind.End, end) ∷ (kind.EndDefinitions, codes "$enddefinitions") ∷ (kind.End, end) ∷ []))

abbrev pub change_spoken : (number width value : ℕ) → Spoken
change_spoken n w x = if w == 1 then (kind.Scalar, (48 + x) ∷ code n) ∷ [] else (kind.Bits, codes "b" ++ binary x) ∷ (kind.Taker, code n) ∷ []

abbrev pub all_spoken : ℕ → List Pin → List ℕ → Spoken
all_spoken k (p ∷ ps) (x ∷ xs) = change_spoken k p.width x ++ all_spoken (k + 1) ps xs
all_spoken k _ _ = []

abbrev pub changed_spoken : ℕ → List Pin → (before now : List ℕ) → Spoken
changed_spoken k (p ∷ ps) (x ∷ xs) (y ∷ ys) = (if x == y then [] else change_spoken k p.width y) ++ changed_spoken (k + 1) ps xs ys
changed_spoken k _ _ _ = []

-- The kinds lead along.

on_at : (xs ys : List Kind) (x : Kind) (s t u : State) (o : Option State) → after s x ≡ o → ((z : State) → after_all z xs ≡ Some t → after_all z (xs ++ ys) ≡ Some u)
    → option_and_then (λ z. after_all z xs) o ≡ Some t → after_all s (x ∷ (xs ++ ys)) ≡ Some u
on_at xs ys x s t u None g h e = cc
on_at xs ys x s t u (Some z) g h e = ap (option_and_then (λ y. after_all y (xs ++ ys))) g ∙ h z e

pub on : (xs ys : List Kind) (s t u : State) → after_all s xs ≡ Some t → after_all t ys ≡ Some u → after_all s (xs ++ ys) ≡ Some u
on [] ys s t u e f = let one : s ≡ t = cc in ap (λ z. after_all z ys) one ∙ f
on (x ∷ xs) ys s t u e f = on_at xs ys x s t u (after s x) refl (λ z g. on xs ys z t u g f) e

pub both : (xs ys : Spoken) (s t u : State) → after_all s (kinds xs) ≡ Some t → after_all t (kinds ys) ≡ Some u → after_all s (kinds (xs ++ ys)) ≡ Some u
both xs ys s t u e f = ap (after_all s) (map-append (λ x. x.0) xs ys) ∙ on (kinds xs) (kinds ys) s t u e f

var_leads : (k : ℕ) (p : Pin) → after_all state.Variables (kinds (var_spoken k p)) ≡ Some state.Variables
var_leads k p = at (nat_lt 1 p.width)
  where
    at : (b : Bool) → after_all state.Variables (kinds ((kind.Var, codes "$var") ∷ (kind.NetKind, codes "wire") ∷ (kind.Width, decimal p.width) ∷ (kind.Code, code k) ∷ (kind.Name, p.name)
        ∷ ((if b then (kind.Range, codes "[" ++ (decimal (p.width - 1) ++ codes ":0]")) ∷ [] else []) ++ (kind.End, end) ∷ []))) ≡ Some state.Variables
    at true = refl
    at false = refl

vars_lead : (k : ℕ) (ps : List Pin) → after_all state.Variables (kinds (vars_spoken k ps)) ≡ Some state.Variables
vars_lead k [] = refl
vars_lead k (p ∷ ps) = both (var_spoken k p) (vars_spoken (k + 1) ps) state.Variables state.Variables state.Variables (var_leads k p) (vars_lead (k + 1) ps)

pub head_leads : (name : List ℕ) (ps : List Pin) → after_all state.Front (kinds (head_spoken name ps)) ≡ Some state.Entries
head_leads name ps = both (vars_spoken 0 ps) ((kind.Upscope, codes "$upscope") ∷ (kind.End, end) ∷ (kind.EndDefinitions, codes "$enddefinitions") ∷ (kind.End, end) ∷ []) state.Variables state.Variables state.Entries (vars_lead 0 ps) refl

pub change_leads : (n w x : ℕ) → after_all state.Entries (kinds (change_spoken n w x)) ≡ Some state.Entries
change_leads n w x = at (w == 1)
  where
    at : (b : Bool) → after_all state.Entries (kinds (if b then (kind.Scalar, (48 + x) ∷ code n) ∷ [] else (kind.Bits, codes "b" ++ binary x) ∷ (kind.Taker, code n) ∷ [])) ≡ Some state.Entries
    at true = refl
    at false = refl

-- The words are those of the lines.
var_said : (k : ℕ) (p : Pin) → said (var_spoken k p) ≡ var_line (k, p)
var_said k p = at (nat_lt 1 p.width)
  where
    at : (b : Bool) → said ((kind.Var, codes "$var") ∷ (kind.NetKind, codes "wire") ∷ (kind.Width, decimal p.width) ∷ (kind.Code, code k) ∷ (kind.Name, p.name)
        ∷ ((if b then (kind.Range, codes "[" ++ (decimal (p.width - 1) ++ codes ":0]")) ∷ [] else []) ++ (kind.End, end) ∷ []))
        ≡ codes "$var" ∷ codes "wire" ∷ decimal p.width ∷ code k ∷ p.name ∷ ((if b then (codes "[" ++ (decimal (p.width - 1) ++ codes ":0]")) ∷ [] else []) ++ (end ∷ []))
    at true = refl
    at false = refl

pub vars_said : (k : ℕ) (ps : List Pin) → said (vars_spoken k ps) ≡ all_words (map var_line (enumerate_from k ps))
vars_said k [] = refl
vars_said k (p ∷ ps) = map-append (λ x. x.1) (var_spoken k p) (vars_spoken (k + 1) ps) ∙ (ap (λ z. z ++ said (vars_spoken (k + 1) ps)) (var_said k p) ∙ ap (λ z. var_line (k, p) ++ z) (vars_said (k + 1) ps))
