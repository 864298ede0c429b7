-- The constants of a module tree are within their widths.
use Rattle.std.specs.List.{AllByRecursion, before_first, after_first}
use Rattle.std.specs.Prelude.{option_and_then}
use Rattle.std.specs.Str.Parse.{digits_value}
use Rattle.std.proofs.Common.{◌≡◌, ℕ, ◌<◌, ◌≤◌, ◌^◌, Bool, true, false, ◌&&◌, nat_le, nat_lt, cond, Option, Some, None, List, [], ◌∷◌, length, map, refl, subst, arith}
use Rattle.std.proofs.lemmas.Bool.{ltb-true}
use Rattle.std.proofs.lemmas.Bool.Decides.{nat_tests}
use Rattle.rb_grammar.specs.Lexemes.{meaning_of}
use Rattle.rb_grammar.specs.Spelling.{At, SpellsFrom}
use Rattle.rb_grammar.specs.Spelling as spelling
use Rattle.v_design.specs.Lexemes.{Token, Word, Name, Number, among, is_name, reserved_words, marks, is_decimal, is_quote, base_of, is_constant, constant, constant_of, verilog, Spells}
use Rattle.v_design.specs.Lexemes as token
use Rattle.v_design.specs.Constants.{ConstantsFit, EachConstantFits, ResetFits}
use Rattle.v_design.specs.Tree.{Tree, IsTree, Statement, Assign, Clocked, Resettable, Term, Operand, Operands, Plain, Prefixed, Joined, Chosen, Whole, Bit, Part, Sized, Braced, Grouped, no_more, and_also, term_tokens, operand_tokens, operands_tokens, ports_tokens, decls_tokens, negation, stmt_tokens, stmts_tokens, tokens_of}
use Rattle.v_design.specs.Design.{Step, expr_of, operand_of, operands_of, step_of, module_of}
use Rattle.v_design.proofs.Tests.{and-right}
use Rattle.v_design.proofs.Names.{each_left, each_right}

abbrev TokenFits : Token → Type 0
TokenFits (Word w) = Unit {0}
TokenFits (Name n) = Unit {0}
TokenFits (Number n) = Unit {0}
TokenFits (token.Const w v) = (w ≤ 128) × (v < 2 ^ w)

-- what a text means, if anything, is within its width
abbrev MeaningFits : Option Token → Type 0
MeaningFits None = Unit {0}
MeaningFits (Some t) = TokenFits t

either_fits : (b : Bool) (x y : Option Token) → MeaningFits x → MeaningFits y → MeaningFits (cond b x y)
either_fits true x y p q = p
either_fits false x y p q = q

word_fits : (b : Bool) (word : List ℕ) → TokenFits (cond b (Word word) (Name word))
word_fits true word = tt
word_fits false word = tt

at_most : (n : ℕ) → nat_le n 128 ≡ true → n ≤ 128
at_most n h = grind (arith, nat_tests)

constant_fits : (width value : ℕ) → MeaningFits (constant width value)
constant_fits width value = go (nat_le 1 width && nat_le width 128) (nat_lt value (2 ^ width)) refl refl
  where
    go : (a b : Bool) → (nat_le 1 width && nat_le width 128) ≡ a → nat_lt value (2 ^ width) ≡ b → MeaningFits (cond (a && b) (Some (token.Const width value)) None)
    go true true d e = (at_most width (and-right (nat_le 1 width) (nat_le width 128) d), ltb-true value (2 ^ width) e)
    go true false d e = tt
    go false b d e = tt

based_fits : (width : ℕ) (o : Option ℕ) (digits : List ℕ) → MeaningFits (option_and_then (λ base. constant width (digits_value base digits)) o)
based_fits width None digits = tt
based_fits width (Some base) digits = constant_fits width (digits_value base digits)

constant_of_fits : (width : ℕ) (based : List ℕ) → MeaningFits (constant_of width based)
constant_of_fits width [] = tt
constant_of_fits width (b ∷ digits) = based_fits width (base_of b) digits

meaning_fits : (word : List ℕ) → MeaningFits (meaning_of verilog word)
unfolding verilog
meaning_fits word =
    either_fits (is_name word) _ _ (word_fits (among reserved_words word) word)
    (either_fits (among marks word) _ _ tt
    (either_fits (is_decimal word) _ _ tt
    (either_fits (is_constant word) _ None (constant_of_fits (digits_value 10 (before_first is_quote word)) (after_first is_quote word)) tt)))

placed_fit : (size : ℕ) (ts : List (At Token)) (text : List ℕ) → SpellsFrom verilog size text ts → AllByRecursion TokenFits (spelling.tokens_of ts)
placed_fit size [] text h = tt
placed_fit size (t ∷ ts) text h = (let s = h.1 in subst MeaningFits s.means (meaning_fits s.word), placed_fit size ts h.0 h.2)

tokens_fit : (ts : List Token) (text : List ℕ) → Spells text ts → AllByRecursion TokenFits ts
tokens_fit ts text h = subst (AllByRecursion TokenFits) h.2 (placed_fit (length text) h.0 text h.1)

mutual
  term_fits : (e : Term) → AllByRecursion TokenFits (term_tokens e) → ConstantsFit (expr_of e)
  term_fits (Plain a) h = operand_fits a h
  term_fits (Prefixed op a) h = operand_fits a h.1
  term_fits (Joined op a b) h = (operand_fits a (each_left TokenFits (operand_tokens a) _ h), operand_fits b (each_right TokenFits (operand_tokens a) _ h).1)
  term_fits (Chosen c a b) h =
      let r = (each_right TokenFits (operand_tokens c) _ h).1 in
      (operand_fits c (each_left TokenFits (operand_tokens c) _ h), operand_fits a (each_left TokenFits (operand_tokens a) _ r), operand_fits b (each_right TokenFits (operand_tokens a) _ r).1)

  operand_fits : (a : Operand) → AllByRecursion TokenFits (operand_tokens a) → ConstantsFit (operand_of a)
  operand_fits (Whole n) h = tt
  operand_fits (Bit n k) h = tt
  operand_fits (Part n hi lo) h = tt
  operand_fits (Sized w v) h = h.0
  operand_fits (Braced a rest) h =
      let r = each_right TokenFits (operand_tokens a) _ h.1 in
      (operand_fits a (each_left TokenFits (operand_tokens a) _ h.1), operands_fit rest (each_left TokenFits (operands_tokens rest) _ r))
  operand_fits (Grouped e) h = term_fits e (each_left TokenFits (term_tokens e) _ h.1)

  operands_fit : (rest : Operands) → AllByRecursion TokenFits (operands_tokens rest) → EachConstantFits (operands_of rest)
  operands_fit no_more h = tt
  operands_fit (and_also a rest) h = (operand_fits a (each_left TokenFits (operand_tokens a) _ h.1), operands_fit rest (each_right TokenFits (operand_tokens a) _ h.1))

-- the constants of a step are within their widths
abbrev pub StepFits : Step → Type 0
StepFits s = ConstantsFit s.expr × ResetFits s.reset

stmt_fits : (s : Statement) → AllByRecursion TokenFits (stmt_tokens s) → StepFits (step_of s)
stmt_fits (Assign to e) h = (term_fits e (each_left TokenFits (term_tokens e) _ h.1.1.1), tt)
stmt_fits (Clocked c to e) h = (term_fits e (each_left TokenFits (term_tokens e) _ h.1.1.1.1.1.1.1.1), tt)
stmt_fits (Resettable c low reset negated test to width value again e) h =
    let r = each_right TokenFits (negation negated) _ h.1.1.1.1.1.1.1.1.1.1.1 in
    let k = r.1.1.1.1 in
    (term_fits e (each_left TokenFits (term_tokens e) _ k.1.1.1.1.1), k.0.1)

stmts_fit : (ss : List Statement) → AllByRecursion TokenFits (stmts_tokens ss) → AllByRecursion StepFits (map step_of ss)
stmts_fit [] h = tt
stmts_fit (s ∷ ss) h = (stmt_fits s (each_left TokenFits (stmt_tokens s) _ h), stmts_fit ss (each_right TokenFits (stmt_tokens s) _ h))

-- what a text spells has constants within their widths
pub steps_fit : (bytes : List ℕ) (t : Tree) → IsTree bytes t → AllByRecursion StepFits (module_of t).steps
steps_fit bytes t tree =
    let h = (tokens_fit (tokens_of t) bytes tree.spelled).1.1.1 in
    let d = (each_right TokenFits (ports_tokens t.ports) _ h).1.1 in
    stmts_fit t.stmts (each_left TokenFits (stmts_tokens t.stmts) _ (each_right TokenFits (decls_tokens t.decls) _ d))
