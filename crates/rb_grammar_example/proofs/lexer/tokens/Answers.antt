use Rattle.std.proofs.Common.{◌≡◌, ℕ, List, [], ◌∷◌, ◌++◌, map, refl, ap, ◌∙◌, subst, arith, append-nil, Option, Some, IfSome}
use Rattle.rb_grammar_example.specs.declared.lexer.Found.{Found}
use Rattle.rb_grammar.specs.Spelling.{At, StartsWith, FailsAt, here, later}
use Rattle.rb_grammar.proofs.Lexing.{starts_shorter}
use Rattle.rb_grammar_example.specs.declared.token.Token.{Token}
use Rattle.rb_grammar_example.specs.Lexemes.{Lexeme, seen, settings}
use Rattle.rb_grammar_example.proofs.lexer.tokens.Goals as goal

collected : (xs zs : List Token) (t : Token) (ts : List (At Lexeme)) → zs ≡ xs ++ t ∷ [] → map seen zs ++ ts ≡ map seen xs ++ (seen t ∷ ts)
collected xs zs t ts e = ap (λ z. map seen z ++ ts) e ∙ more xs
  where
    more : (xs : List Token) → map seen (xs ++ t ∷ []) ++ ts ≡ map seen xs ++ (seen t ∷ ts)
    more [] = refl
    more (x ∷ xs) = ap (λ z. seen x ∷ z) (more xs)

-- the token that was found
found_at : (o : Option Found) (f : Found) (n size : ℕ) (text : List ℕ) → o ≡ Some f → n ≡ size → IfSome o (λ f. StartsWith settings n text (seen f.token) f.rest.now) → StartsWith settings size text (seen f.token) f.rest.now
found_at o f n size text e g h = subst (λ (n : ℕ). StartsWith settings n text (seen f.token) f.rest.now) g (rw e at h)

pub returns-in-Err-clause-fault : goal.returns-in-Err-clause-fault
returns-in-Err-clause-fault c =
    let e = c.in-Err.ensures.fault in
    (e.0, c.more.invariant.faults e.0 _ (here (subst (λ (n : ℕ). FailsAt settings n c.more.rest.now e.0 c.in-Err.fault.place.0) c.more.invariant.size e.1)), e.2)

pub more-smaller : goal.more-smaller
more-smaller c = starts_shorter settings _ _ _ _ (found_at _ _ _ _ _ c.in-Ok-Some.field-0-is c.more.invariant.size c.in-Ok-Some.ensures.next)

pub more-preserved : goal.more-preserved
more-preserved c = let start = found_at _ _ _ _ _ c.in-Ok-Some.field-0-is c.more.invariant.size c.in-Ok-Some.ensures.next in record {
  size = omega (arith, starts_shorter settings _ _ _ _ start, c.more.invariant.size);
  spells = λ ts s. rw (collected c.more.tokens.items c.push.new.self.items c.in-Ok-Some.next.token ts c.in_ok-push-in-Ok-Some.ensures.items) (c.more.invariant.spells (seen c.in-Ok-Some.next.token ∷ ts) (c.in-Ok-Some.next.rest.now, start, s));
  faults = λ f place k. c.more.invariant.faults f place (later start k);
}

pub returns-clause-spells : goal.returns-clause-spells
returns-clause-spells c = rw c.into_bump_slice.ensures (rw append-nil at (c.more.invariant.spells [] (rw c.in-Ok-None.field-0-is at c.in-Ok-None.ensures.end)))
