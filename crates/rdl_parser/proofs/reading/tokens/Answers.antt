use Rattle.std.proofs.Common.{◌≡◌, ℕ, Option, Some, IfSome, List, [], ◌∷◌, ◌++◌, map, refl, ap, ◌∙◌, subst, append-nil}
use Rattle.rb_grammar.specs.Spelling.{At, StartsWith, FailsAt, SpellsFrom, here, later}
use Rattle.rb_grammar.proofs.Lexing.{starts_shorter}
use Rattle.rdl_tree.specs.declared.token.Token.{Token}
use Rattle.rdl_lexer.specs.Lexemes.{Lexeme, seen, systemrdl}
use Rattle.rdl_parser.proofs.reading.tokens.Goals as goal

collected : (xs zs : List Token) (t : Token) (ts : List (At Lexeme)) → zs ≡ xs ++ t ∷ [] → map seen zs ++ ts ≡ map seen xs ++ (seen t ∷ ts)
collected xs zs t ts e = ap (λ z. map seen z ++ ts) e ∙ more xs
  where
    more : (xs : List Token) → map seen (xs ++ t ∷ []) ++ ts ≡ map seen xs ++ (seen t ∷ ts)
    more [] = refl
    more (x ∷ xs) = ap (λ z. seen x ∷ z) (more xs)

-- the token that was next
next_at : (o : Option Token) (t : Token) (n size : ℕ) (text rest : List ℕ) → o ≡ Some t → n ≡ size → IfSome o (λ t. StartsWith systemrdl n text (seen t) rest) → StartsWith systemrdl size text (seen t) rest
next_at o t n size text rest e g h = subst (λ (n : ℕ). StartsWith systemrdl n text (seen t) rest) g (rw e at h)

pub more-smaller : goal.more-smaller
more-smaller c = starts_shorter systemrdl _ _ _ _ (next_at _ _ _ _ _ _ c.in-Ok-Some.field-0-is c.more.invariant.size c.in-Ok-Some.ensures.token)

pub more-preserved : goal.more-preserved
more-preserved c = let start = next_at _ _ _ _ _ _ c.in-Ok-Some.field-0-is c.more.invariant.size c.in-Ok-Some.ensures.token in record {
  size = c.in-Ok-Some.ensures.size ∙ c.more.invariant.size;
  sound = c.in-Ok-Some.ensures.remembered;
  spells = λ ts s. rw (collected c.more.tokens.items c.push.new.self.items c.in-Ok-Some.token ts (rw c.pack.ensures at c.in_ok-push-in-Ok-Some.ensures.items)) (c.more.invariant.spells (seen c.in-Ok-Some.token ∷ ts) (c.next.new.self.rest, start, s));
  faults = λ f place k. c.more.invariant.faults f place (later start k);
}

pub returns-in-Ok-None-clause-spells : goal.returns-in-Ok-None-clause-spells
returns-in-Ok-None-clause-spells c =
    let ends = (rw c.in-Ok-None.field-0-is at c.in-Ok-None.ensures.end).0 in
    rw append-nil at (c.more.invariant.spells [] (subst (λ (n : ℕ). SpellsFrom systemrdl n c.more.lexer.rest []) c.more.invariant.size ends))

pub returns-in-Err-clause-fault : goal.returns-in-Err-clause-fault
returns-in-Err-clause-fault c = λ n.
    let f = c.in-Err.ensures.fault c.more.invariant.sound in
    record {
      wrong = f.wrong;
      faults = c.more.invariant.faults f.wrong c.in-Err.fault.place.0 (here (subst (λ (n : ℕ). FailsAt systemrdl n c.more.lexer.rest f.wrong c.in-Err.fault.place.0) c.more.invariant.size f.fails));
      rule = f.rule;
    }
