-- From what stands at the front of the rest to what the next call answers.
use Rattle.std.proofs.Common.{◌≡◌, ℕ, ◌∷◌, ◌+◌, ◌==◌, true, List, [], ◌++◌, length, take, drop, refl, sym, ap, ◌∙◌, subst, arith, eqb-true, append_assoc, take-append-drop}
use Rattle.rb_grammar.specs.Separators.{Skips, stay, skip, IsOpenComment, opened}
use Rattle.rb_grammar.specs.Spelling.{IsPlace, IsFault, StartsWith, OpenComment, open_comment}
use Rattle.v_design.specs.Lexemes.{verilog}
use Rattle.v_syntax.specs.Tokens.{token_of}
use Rattle.v_syntax.specs.declared.token.VKind.{VKind}
use Rattle.v_lexer.specs.Reading.{IsLexeme, HasFault, HasFaultAt, StandsAt}

pub open_fault : (size n place : ℕ) (text : List ℕ) → Skips true text (drop n text) → IsOpenComment (drop n text) → IsPlace size (drop n text) place → HasFaultAt size text place
unfolding verilog
open_fault size n place text skips h at = (OpenComment, record { left = drop n text; skips = skips; fault = stands (drop n text) h; at = at })
  where
    stands : (left : List ℕ) → IsOpenComment left → IsFault verilog left OpenComment
    stands left (opened body e l) = open_comment body refl e l

pub ends_here : (n : ℕ) (text left : List ℕ) → Skips true text (drop n text) → left ≡ drop n text → true ≡ (length left == 0) → Skips verilog.comments text [] × (left ≡ [])
unfolding verilog
ends_here n text left skips e h = let empty = nothing left h in (subst (λ z. Skips true text z) (sym e ∙ empty) skips, empty)
  where
    nothing : (left : List ℕ) → true ≡ (length left == 0) → left ≡ []
    nothing [] h = refl
    nothing (x ∷ xs) h = absurd (omega (arith, eqb-true _ _ (sym h)))

pub starts_here : (size n place len : ℕ) (text left rest word : List ℕ) (kind : VKind) → Skips true text (drop n text) → left ≡ drop n text → place + length left ≡ size → IsLexeme left len kind → rest ≡ drop len left → word ≡ take len left
    → StartsWith verilog size text (record { token = token_of kind word; place = place }) rest
unfolding verilog
starts_here size n place len text left rest word kind skips e at l f g = rw g record {
  left = left;
  word = take len left;
  skips = subst (λ z. Skips true text z) (sym e) skips;
  next = rw f l.next;
  means = l.means;
  at = at;
}

-- what is left behind separators is the end of the text
skipped : {text left : List ℕ} → Skips true text left → (gap : List ℕ) × (text ≡ gap ++ left)
skipped stay = ([], refl)
skipped (skip separator rest e p q) = let g = skipped q in (separator ++ g.0, e ∙ (ap (λ z. separator ++ z) g.1 ∙ sym (append_assoc separator g.0 _)))

pub stands_here : (size n place len : ℕ) (text left rest word : List ℕ) → Skips true text (drop n text) → left ≡ drop n text → place + length left ≡ size → rest ≡ drop len left → word ≡ take len left → StandsAt size text word rest place
stands_here size n place len text left rest word skips e at f g =
    let k = skipped skips in
    let whole : word ++ rest ≡ left = rw (g, f) (take-append-drop len left) in
    record { gap = k.0; whole = k.1 ∙ ap (λ z. k.0 ++ z) (sym e ∙ sym whole); at = rw whole at }

pub fault_here : (size n place : ℕ) (text left : List ℕ) → Skips true text (drop n text) → left ≡ drop n text → HasFault left → IsPlace size left place → HasFaultAt size text place
unfolding verilog
fault_here size n place text left skips e b at = (b.0, record { left = left; skips = subst (λ z. Skips true text z) (sym e) skips; fault = b.1; at = at })
