-- The first example nests nowhere too deep.
use Rattle.std.specs.List.{fold}
use Rattle.std.specs.Prelude.{leb}
use Rattle.std.proofs.Common.{◌≡◌, ℕ, zero, suc, ◌≤◌, ◌&&◌, Bool, true, List, [], ◌∷◌, length, take, refl, arith, leb-true}
use Rattle.plain_lemmas.proofs.Bools.{and-left as first_holds, and-right as second_holds}
use Rattle.rdl_tree.specs.declared.token.Token.{Token}
use Rattle.rdl_lexer.specs.Depth.{Depth, IsWithin, StaysWithin, deeper, effect, start}
use Rattle.rdl_verdict_laws.proofs.ExampleTokens.{tokens}

abbrev is_within : Depth → Bool
is_within d = leb (length d.outer) 64 && leb d.inner.operators 64

within : (d : Depth) → is_within d ≡ true → IsWithin d
within d h = record { brackets = leb-true (length d.outer) 64 (first_holds (leb (length d.outer) 64) (leb d.inner.operators 64) h); operators = leb-true d.inner.operators 64 (second_holds (leb (length d.outer) 64) (leb d.inner.operators 64) h) }

-- each token leaves it within
abbrev all_within : Depth → List Token → Bool
all_within d [] = is_within d
all_within d (t ∷ ts) = is_within d && all_within (deeper d (effect t)) ts

stays : (d : Depth) (ts : List Token) → all_within d ts ≡ true → (i : ℕ) → i ≤ length ts → IsWithin (fold (λ d t. deeper d (effect t)) d (take i ts))
stays d [] h zero l = within d h
stays d [] h (suc i) l = absurd (omega (arith, l))
stays d (t ∷ ts) h zero l = within d (first_holds (is_within d) (all_within (deeper d (effect t)) ts) h)
stays d (t ∷ ts) h (suc i) l = stays (deeper d (effect t)) ts (second_holds (is_within d) (all_within (deeper d (effect t)) ts) h) i (omega (arith, l))

pub tokens_within : StaysWithin tokens
tokens_within = stays start tokens refl
