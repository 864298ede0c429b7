use Rattle.std.proofs.Common.{◌≡◌, ◌<◌, ◌+◌, [], ◌∷◌, ◌++◌, List, drop, length, ◌∙◌, arith, refl}
use Rattle.std.proofs.lemmas.Bool.Decides.{nat_tests}
use Rattle.std.proofs.lemmas.Grind.{common_steps}
use Rattle.rb_base.specs.declared.place.Place.{Place}
use Rattle.rb_grammar.specs.Forms.{Non}
use Rattle.rb_grammar.proofs.Bridge.{never_stops}
use Rattle.rb_grammar.proofs.Judgement.{wrong_cut, too_deep_fits, good_not_too_deep}
use Rattle.rb_grammar_example.specs.declared.token.Token.{Token}
use Rattle.rb_grammar_example.specs.declared.parser.TheConstants.{MOST_OPEN}
use Rattle.rb_grammar_example.specs.Grammar.{settings, nesting, Source, place_of}
use Rattle.rb_grammar_example.proofs.parser.parse.Goals as goal

place_in : (left rest : List Token) (end : Place) → 0 < length left → place_of left end ≡ place_of (left ++ rest) end
place_in [] rest end l = absurd (omega arith)
place_in (t ∷ ts) rest end l = refl

pub returns-in-Ok-read-clause-too_deep : goal.returns-in-Ok-read-clause-too_deep
returns-in-Ok-read-clause-too_deep c = λ place h.
    (c.in-Some.deep, too_deep_fits settings nesting MOST_OPEN (Non Source) _ _ c.in-Some.ensures c.in-Ok-read.ensures.fits, (let same : place ≡ c.place_of-2.result = cc in grind (arith, common_steps)))

pub returns-in-Err-Syntax-2-clause-syntax : goal.returns-in-Err-Syntax-2-clause-syntax
returns-in-Err-Syntax-2-clause-syntax c = λ place h.
    let some : 0 < length c.in-Err-Syntax-read.left.now = grind (arith, nat_tests, c.is_empty.ensures, c.if-is_empty.false) in
    let same : place ≡ c.place_of-in-Err-Syntax-2.result = cc in
    (c.in-Err-Syntax-read.left.now ++ drop (c.in-Some.deep + 1) c.args.tokens.now, wrong_cut settings nesting MOST_OPEN (Non Source) _ _ _ c.in-Some.ensures (rw c.in-Err-Syntax-read.field-0-is at c.in-Err-Syntax-read.ensures.stops) some, same ∙ (c.place_of-in-Err-Syntax-2.ensures ∙ place_in _ _ c.args.end some))

pub returns-in-Err-Syntax-clause-accepts : goal.returns-in-Err-Syntax-clause-accepts
returns-in-Err-Syntax-clause-accepts c = λ good. absurd (never_stops settings _ c.in-Err-Syntax.left.now good.fits (rw c.in-Err-Syntax.field-0-is at c.in-Err-Syntax.ensures.stops))

pub returns-in-Ok-read-clause-accepts : goal.returns-in-Ok-read-clause-accepts
returns-in-Ok-read-clause-accepts c = λ good. absurd (good_not_too_deep settings nesting MOST_OPEN (Non Source) _ c.in-Some.deep good (too_deep_fits settings nesting MOST_OPEN (Non Source) _ _ c.in-Some.ensures c.in-Ok-read.ensures.fits))
