-- A source has one verdict.
use Rattle.std.proofs.Common.{◌≡◌, ◌≢◌, ℕ, Result, Ok, Err, IfErr, List, drop, map, refl, ap, sym, ◌∙◌, subst}
use Rattle.rdl_base.specs.declared.fault.Fault.{Fault}
use Rattle.rb_base.specs.declared.place.Place.{Place}
use Rattle.rdl_base.specs.declared.rule.Rule.{Rule}
use Rattle.rb_grammar.proofs.OneSpelling.{spells_once, faults_once, not_both}
use Rattle.rdl_tree.specs.declared.token.Token.{Token}
use Rattle.rdl_lexer.specs.Lexemes.{seen, systemrdl}
use Rattle.rdl_lexer.specs.Faults.{rule_of, FailsLexically}
use Rattle.rdl_parser.specs.declared.error.ParseError.{ParseError}
use Rattle.rdl_parser.specs.declared.error.ParseError.TheVariants.{Lex, Syntax, TooDeep, NoMemory}
use Rattle.rdl_parser.specs.Verdicts.{SpellsTokens, place_of, end_of, IsAccepted, IsWrong, IsTooDeep, HasError}
use Rattle.rdl_parser.proofs.Judged.{one_wrong, one_too_deep, good_not_wrong, good_not_too_deep, wrong_not_too_deep}
use Rattle.rdl_parser.proofs.Alike.{Alike, alike, place_alike, rule_alike, good_alike, wrong_alike, deep_alike, rests}

same_tokens : (text : List ℕ) (ts us : List Token) → SpellsTokens text ts → SpellsTokens text us → Alike ts us
same_tokens text ts us p q = alike ts us (spells_once systemrdl text (map seen ts) (map seen us) p q)

one_lexical : (text : List ℕ) (f g : Fault) → FailsLexically text f → FailsLexically text g → f ≡ g
one_lexical text f g p q =
    let h = faults_once systemrdl text p.wrong q.wrong f.place.0 g.place.0 p.faults q.faults in
    let r : f.rule ≡ g.rule = p.rule ∙ (ap rule_of h.0 ∙ sym q.rule) in
    let s : f.place ≡ g.place = ap (λ (n : ℕ). record { 0 = n }) h.1 in
    ap (λ z. record { place = z; rule = f.rule }) s ∙ ap (λ z. record { place = g.place; rule = z }) r

lexical_not_spelled : (text : List ℕ) (f : Fault) (ts : List Token) → FailsLexically text f → SpellsTokens text ts → ⊥
lexical_not_spelled text f ts p s = not_both systemrdl text (map seen ts) p.wrong f.place.0 s p.faults

one_place : (text : List ℕ) (p q : Place) (r s : Rule) → IsWrong text p r → IsWrong text q s → (p ≡ q) × (r ≡ s)
one_place text p q r s a b =
    let h = wrong_alike a.wrong (same_tokens text a.tokens b.tokens a.spelled b.spelled) in
    let e = one_wrong b.tokens h.0 b.left h.1 b.wrong in
    let k = subst (λ z. Alike a.left z) e h.2 in
    (a.at ∙ (place_alike (end_of text) k ∙ sym b.at), a.named ∙ (rule_alike k ∙ sym b.named))

one_depth : (text : List ℕ) (p q : Place) → IsTooDeep text p → IsTooDeep text q → p ≡ q
one_depth text p q a b =
    let k = same_tokens text a.tokens b.tokens a.spelled b.spelled in
    let e = one_too_deep b.tokens a.index b.index (deep_alike a.deep k) b.deep in
    a.at ∙ (place_alike (end_of text) (rests a.index k) ∙ (ap (λ (n : ℕ). place_of (drop n b.tokens) (end_of text)) e ∙ sym b.at))

wrong_excludes_depth : (text : List ℕ) (p q : Place) (r : Rule) → IsWrong text p r → IsTooDeep text q → ⊥
wrong_excludes_depth text p q r a b =
    let h = wrong_alike a.wrong (same_tokens text a.tokens b.tokens a.spelled b.spelled) in
    wrong_not_too_deep b.tokens h.0 b.index h.1 b.deep

pub one_error : (text : List ℕ) (d e : ParseError) → HasError text d → HasError text e → d ≡ e
one_error text (Lex f) (Lex g) p q = ap Lex (one_lexical text f g p q)
one_error text (Lex f) (Syntax place rule) p q = absurd (lexical_not_spelled text f q.tokens p q.spelled)
one_error text (Lex f) (TooDeep place) p q = absurd (lexical_not_spelled text f q.tokens p q.spelled)
one_error text (Syntax place rule) (Lex g) p q = absurd (lexical_not_spelled text g p.tokens q p.spelled)
one_error text (Syntax place rule) (Syntax there other) p q = let h = one_place text place there rule other p q in ap (λ z. Syntax z rule) h.0 ∙ ap (λ z. Syntax there z) h.1
one_error text (Syntax place rule) (TooDeep there) p q = absurd (wrong_excludes_depth text place there rule p q)
one_error text (TooDeep place) (Lex g) p q = absurd (lexical_not_spelled text g p.tokens q p.spelled)
one_error text (TooDeep place) (Syntax there rule) p q = absurd (wrong_excludes_depth text there place rule q p)
one_error text (TooDeep place) (TooDeep there) p q = ap TooDeep (one_depth text place there p q)
one_error text NoMemory e p q = absurd p
one_error text d NoMemory p q = absurd q

pub accepted_has_none : (text : List ℕ) (e : ParseError) → IsAccepted text → HasError text e → ⊥
accepted_has_none text (Lex f) a p = lexical_not_spelled text f a.tokens p a.spelled
accepted_has_none text (Syntax place rule) a p =
    good_not_wrong p.tokens p.left (good_alike a.good (same_tokens text a.tokens p.tokens a.spelled p.spelled)) p.wrong
accepted_has_none text (TooDeep place) a p =
    good_not_too_deep p.tokens p.index (good_alike a.good (same_tokens text a.tokens p.tokens a.spelled p.spelled)) p.deep
accepted_has_none text NoMemory a p = p

pub only_memory : {X : Type 0} (text : List ℕ) (r : Result X ParseError) → IsAccepted text → IfErr r (λ e. e ≢ NoMemory → HasError text e) → IfErr r (λ e. e ≡ NoMemory)
only_memory text (Ok x) a h = tt
only_memory text (Err NoMemory) a h = refl
only_memory text (Err (Lex f)) a h = absurd (accepted_has_none text (Lex f) a (h (λ e. cc)))
only_memory text (Err (Syntax place rule)) a h = absurd (accepted_has_none text (Syntax place rule) a (h (λ e. cc)))
only_memory text (Err (TooDeep place)) a h = absurd (accepted_has_none text (TooDeep place) a (h (λ e. cc)))
