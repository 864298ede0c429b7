-- From what stands at the front of the rest to what the next call answers.
use Rattle.std.proofs.Common.{◌≡◌, ℕ, ◌∷◌, ◌+◌, ◌==◌, true, List, [], length, take, drop, refl, sym, ◌∙◌, subst, arith, eqb-true}
use Rattle.rdl_base.specs.declared.fault.Fault.{Fault}
use Rattle.rdl_base.specs.declared.rule.Rule.{Rule}
use Rattle.rdl_base.specs.declared.rule.Rule.TheVariants.{L2}
use Rattle.rb_grammar.specs.Separators.{Skips, IsOpenComment, opened}
use Rattle.rb_grammar.specs.Spelling.{IsPlace, IsFault, StartsWith, OpenComment, open_comment}
use Rattle.rdl_tree.specs.declared.token.TokenKind.{TokenKind}
use Rattle.rdl_lexer.specs.Lexemes.{systemrdl}
use Rattle.rdl_lexer.specs.Faults.{IsFaultAt}
use Rattle.rdl_lexer.specs.Reading.{IsLexeme, Breaks}

pub open_fault : (size n : ℕ) (text : List ℕ) (fault : Fault) → Skips true text (drop n text) → IsOpenComment (drop n text) → (fault.rule ≡ L2) × IsPlace size (drop n text) fault.place.0 → IsFaultAt size text fault
unfolding systemrdl
open_fault size n text fault skips h f = record { wrong = OpenComment; fails = record { left = drop n text; skips = skips; fault = stands (drop n text) h; at = f.1 }; rule = f.0 }
  where
    stands : (left : List ℕ) → IsOpenComment left → IsFault systemrdl left OpenComment
    stands left (opened body e l) = open_comment body refl e l

pub ends_here : (n : ℕ) (text left : List ℕ) → Skips true text (drop n text) → left ≡ drop n text → true ≡ (length left == 0) → Skips systemrdl.comments text [] × (left ≡ [])
unfolding systemrdl
ends_here n text left skips e h = let empty = nothing left h in (subst (λ z. Skips true text z) (sym e ∙ empty) skips, empty)
  where
    nothing : (left : List ℕ) → true ≡ (length left == 0) → left ≡ []
    nothing [] h = refl
    nothing (x ∷ xs) h = absurd (omega (arith, eqb-true _ _ (sym h)))

pub starts_here : (size n place len : ℕ) (text left rest inner : List ℕ) (kind : TokenKind) → Skips true text (drop n text) → left ≡ drop n text → place + length left ≡ size → IsLexeme left len kind inner → rest ≡ drop len left
    → StartsWith systemrdl size text (record { token = record { kind = kind; text = inner }; place = place }) rest
unfolding systemrdl
starts_here size n place len text left rest inner kind skips e at l f = record {
  left = left;
  word = take len left;
  skips = subst (λ z. Skips true text z) (sym e) skips;
  next = rw f l.next;
  means = l.means;
  at = at;
}

pub fault_here : (size n : ℕ) (text left : List ℕ) (rule : Rule) (fault : Fault) → Skips true text (drop n text) → left ≡ drop n text → Breaks left rule → (fault.rule ≡ rule) × IsPlace size left fault.place.0 → IsFaultAt size text fault
unfolding systemrdl
fault_here size n text left rule fault skips e b f = record { wrong = b.wrong; fails = record { left = left; skips = subst (λ z. Skips true text z) (sym e) skips; fault = b.stands; at = f.1 }; rule = f.0 ∙ b.named }
