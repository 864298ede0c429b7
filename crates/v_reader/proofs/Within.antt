-- Tokens stand within their text, and take a byte at least.
use Rattle.std.specs.List.{AllByRecursion}
use Rattle.std.specs.Option.{option_map_or}
use Rattle.std.proofs.Common.{◌≡◌, ◌⊎◌, ℕ, zero, suc, ◌+◌, ◌-◌, ◌<◌, ◌≤◌, false, true, Option, Some, None, List, [], ◌∷◌, ◌++◌, length, drop, get_or, map, slice_get, slice_index, refl, ap, sym, ◌∙◌, subst, arith, length-append, inl, inr}
use Rattle.rb_grammar.specs.Spelling.{At, Fault, StartsWith, SpellsFrom, Spells, FailsAt, tokens_of}
use Rattle.rb_grammar.specs.Forms.{Non, StopsAt, at_token, at_end}
use Rattle.v_design.specs.Lexemes.{Token, verilog}
use Rattle.v_design.specs.Tree.{Tree, IsTree}
use Rattle.v_syntax.specs.Tokens.{place_at}
use Rattle.v_syntax.specs.Grammar.{grammar, Module}
use Rattle.v_syntax.specs.Scanned.{SpellsUpTo, Scans, whole, broken}
use Rattle.v_syntax.specs.Syntax.{declared_places, statement_places}
use Rattle.v_syntax.specs.Faulty.{Problem, Faulty, twice, undeclared, drives_badly, second_driver, no_driver, wrong_width, loop}
use Rattle.v_syntax.specs.Failing.{IsMisspelledAt, IsPlaceOf, IsUnexpectedAt, IsTooDeepIn, HasProblemAt, Fails}
use Rattle.v_syntax.specs.declared.error.VError.{VError}
use Rattle.v_syntax.specs.declared.error.VError.TheVariants as error
use Rattle.v_reader.specs.Reading.{place_number}

abbrev Within : ℕ → List (At Token) → Type 0
Within size ts = AllByRecursion (λ t. t.place ≤ size) ts

start_within : (size : ℕ) (text : List ℕ) (t : At Token) (rest : List ℕ) → StartsWith verilog size text t rest → t.place ≤ size
start_within size text t rest s = omega (arith, s.at)

spelled_within : (size : ℕ) (text : List ℕ) (ts : List (At Token)) → SpellsFrom verilog size text ts → Within size ts
spelled_within size text [] s = tt
spelled_within size text (t ∷ ts) s = (start_within size text t s.0 s.1, spelled_within size s.0 ts s.2)

up_to_within : (size : ℕ) (text : List ℕ) (ts : List (At Token)) (rest : List ℕ) → SpellsUpTo size text ts rest → Within size ts
up_to_within size text [] rest s = tt
up_to_within size text (t ∷ ts) rest s = (start_within size text t s.0 s.1, up_to_within size s.0 ts rest s.2)

pub scans_within : (bytes : List ℕ) (ts : List (At Token)) (end : Option ℕ) → Scans bytes ts end → Within (length bytes) ts
scans_within bytes ts _ (whole s) = spelled_within (length bytes) bytes ts s
scans_within bytes ts _ (broken {rest = rest} s k) = up_to_within (length bytes) bytes ts rest s

end_within : (bytes : List ℕ) (ts : List (At Token)) (p : ℕ) (end : Option ℕ) → Scans bytes ts end → end ≡ Some p → p ≤ length bytes
end_within bytes ts p _ (whole s) e = cc
end_within bytes ts p _ (broken {place = q} s k) e = let f : q ≡ p = cc in omega (arith, k.at, f)

get_within : (size : ℕ) (ts : List (At Token)) (k : ℕ) (a : At Token) → Within size ts → slice_get ts k ≡ Some a → a.place ≤ size
get_within size [] k a w e = cc
get_within size (t ∷ ts) zero a w e = let f : t ≡ a = cc in subst (λ z. z.place ≤ size) f w.0
get_within size (t ∷ ts) (suc k) a w e = get_within size ts k a w.1 e

place_within : (size : ℕ) (ts : List (At Token)) (k : ℕ) → Within size ts → place_at ts k ≤ size
place_within size [] k w = omega arith
place_within size (t ∷ ts) zero w = w.0
place_within size (t ∷ ts) (suc k) w = place_within size ts k w.1

place_in_within : (size : ℕ) (ts : List (At Token)) (ks : List ℕ) (i : ℕ) → Within size ts → slice_index (map (place_at ts) ks) i ≤ size
place_in_within size ts [] i w = omega arith
place_in_within size ts (k ∷ ks) zero w = place_within size ts k w
place_in_within size ts (k ∷ ks) (suc i) w = place_in_within size ts ks i w

fault_within : (size : ℕ) (t : Tree) (ts : List (At Token)) (p : Problem) (k : ℕ) → Within size ts → Faulty t ts p k → k ≤ size
fault_within size t ts _ _ w (twice i n a b) = place_in_within size ts _ i w
fault_within size t ts _ _ w (undeclared k a n b c d e) = get_within size ts k a w c
fault_within size t ts _ _ w (drives_badly i s a b) = place_in_within size ts _ i w
fault_within size t ts _ _ w (second_driver i s a b) = place_in_within size ts _ i w
fault_within size t ts _ _ w (no_driver i n a b c) = place_in_within size ts _ i w
fault_within size t ts _ _ w (wrong_width i s a b) = place_in_within size ts _ i w
fault_within size t ts _ _ w (loop i to e a b) = place_in_within size ts _ i w

problem_within : (bytes : List ℕ) (p : Problem) (k : ℕ) → HasProblemAt bytes p k → k ≤ length bytes
problem_within bytes p k h = fault_within (length bytes) h.t h.ts p k (spelled_within (length bytes) bytes h.ts h.spelled) h.first.at

front_within : (size : ℕ) (front after : List (At Token)) (t : At Token) → Within size (front ++ t ∷ after) → t.place ≤ size
front_within size [] after t w = w.0
front_within size (a ∷ front) after t w = front_within size front after t w.1

stop_within : (size : ℕ) (ts left : List (At Token)) (t : At Token) (more : List (At Token)) → Within size ts → StopsAt grammar (Non Module) ts left → left ≡ t ∷ more → t.place ≤ size
stop_within size ts _ t more w (at_token front after u e b n) f = let g : u ≡ t = cc in subst (λ z. z.place ≤ size) g (front_within size front after u (subst (Within size) e w))
stop_within size ts _ t more w (at_end b n) f = cc

unexpected_place : (size : ℕ) (end : Option ℕ) (ts left : List (At Token)) (p : ℕ) → Within size ts → StopsAt grammar (Non Module) ts left → IsPlaceOf size end left p → p ≤ size
unexpected_place size end ts [] p w s h = let e : p ≡ size = h.1 in omega (arith, e)
unexpected_place size end ts (t ∷ more) p w s h = let e : p ≡ t.place = h in let b = stop_within size ts (t ∷ more) t more w s refl in omega (arith, e, b)

fails_within : (bytes : List ℕ) (e : VError) → Fails bytes e → place_number e ≤ length bytes
fails_within bytes (error.Spelling p) f = end_within bytes f.ts p.0 (Some p.0) f.scans refl
fails_within bytes (error.Syntax p) f = unexpected_place (length bytes) f.end f.ts f.left p.0 (scans_within bytes f.ts f.end f.scans) f.wrong.stops f.at
fails_within bytes (error.TooDeep p) f = let e : p.0 ≡ place_at f.ts f.number = f.at in let b = place_within (length bytes) f.ts f.number (scans_within bytes f.ts f.end f.scans) in omega (arith, e, b)
fails_within bytes (error.Twice p) f = problem_within bytes _ p.0 f
fails_within bytes (error.Undeclared p) f = problem_within bytes _ p.0 f
fails_within bytes (error.Driver p) f = problem_within bytes _ p.0 f
fails_within bytes (error.Width p) f = problem_within bytes _ p.0 f
fails_within bytes (error.Loop p) f = problem_within bytes _ p.0 f
fails_within bytes error.NoMemory f = absurd f

-- an error's place is within the text
pub error_within : (bytes : List ℕ) (e : VError) → ((e ≡ error.NoMemory) ⊎ Fails bytes e) → place_number e ≤ length bytes
error_within bytes e h = elim h [
  | inl want ↦ subst (λ z. place_number z ≤ length bytes) (sym want) (omega arith)
  | inr f ↦ fails_within bytes e f
]
