-- The tokens of a text, and where they end, are determined.
use Rattle.std.proofs.Common.{◌≡◌, ℕ, Option, Some, None, List, [], ◌∷◌, length, refl, ap, sym, ◌∙◌, subst}
use Rattle.rb_grammar.specs.Spelling.{At, Fault, StartsWith, SpellsFrom, Spells, FailsAt, FaultsFrom, here, later}
use Rattle.rb_grammar.proofs.OneSpelling.{starts_once, no_fault, spells_once, faults_once, not_both}
use Rattle.v_design.specs.Lexemes.{Token, verilog}
use Rattle.v_syntax.specs.Scanned.{SpellsUpTo, Scans, whole, broken}

-- behind its tokens the text has its first fault
faults_behind : (size : ℕ) (text : List ℕ) (ts : List (At Token)) (rest : List ℕ) (f : Fault) (p : ℕ) → SpellsUpTo size text ts rest → FailsAt verilog size rest f p → FaultsFrom verilog size text f p
faults_behind size text [] rest f p e k = subst (λ z. FaultsFrom verilog size z f p) (sym e) (here k)
faults_behind size text (t ∷ ts) rest f p s k = later s.1 (faults_behind size s.0 ts rest f p s.2 k)

-- up to faults there are the same tokens
same_tokens : (size : ℕ) (text : List ℕ) (ts us : List (At Token)) (r s : List ℕ) (f g : Fault) (p q : ℕ) → SpellsUpTo size text ts r → FailsAt verilog size r f p → SpellsUpTo size text us s → FailsAt verilog size s g q → ts ≡ us
same_tokens size text [] [] r s f g p q a k b l = refl
same_tokens size text [] (u ∷ us) r s f g p q a k b l = absurd (no_fault verilog size text f p u b.0 (subst (λ z. FailsAt verilog size z f p) (sym a) k) b.1)
same_tokens size text (t ∷ ts) [] r s f g p q a k b l = absurd (no_fault verilog size text g q t a.0 (subst (λ z. FailsAt verilog size z g q) (sym b) l) a.1)
same_tokens size text (t ∷ ts) (u ∷ us) r s f g p q a k b l =
    let e : (t ≡ u) × (a.0 ≡ b.0) = starts_once verilog size text t u a.0 b.0 a.1 b.1 in
    let rest : ts ≡ us = same_tokens size b.0 ts us r s f g p q (subst (λ z. SpellsUpTo size z ts r) e.1 a.2) k b.2 l in
    let e0 : t ≡ u = e.0 in cc

pub scans_once : (text : List ℕ) (ts us : List (At Token)) (p q : Option ℕ) → Scans text ts p → Scans text us q → (ts ≡ us) × (p ≡ q)
scans_once text ts us _ _ (whole a) (whole b) = (spells_once verilog text ts us a b, refl)
scans_once text ts us _ _ (whole a) (broken {rest = r} {f = f} {place = p} b k) = absurd (not_both verilog text ts f p a (faults_behind (length text) text us r f p b k))
scans_once text ts us _ _ (broken {rest = r} {f = f} {place = p} a k) (whole b) = absurd (not_both verilog text us f p b (faults_behind (length text) text ts r f p a k))
scans_once text ts us _ _ (broken {rest = r} {f = f} {place = p} a k) (broken {rest = s} {f = g} {place = q} b l) =
    let places : p ≡ q = (faults_once verilog text f g p q (faults_behind (length text) text ts r f p a k) (faults_behind (length text) text us s g q b l)).1 in
    (same_tokens (length text) text ts us r s f g p q a k b l, ap Some places)

-- a text that is scanned to its end spells its tokens
pub spells : (text : List ℕ) (ts : List (At Token)) (p : Option ℕ) → Scans text ts p → p ≡ None → Spells verilog text ts
spells text ts _ (whole a) e = a
spells text ts _ (broken a k) e = cc
