use Rattle.std.proofs.Common.{◌≡◌, ◌∙◌, ◌-◌, ◌+◌, ap, arith, length, refl}
use Rattle.rb_grammar.proofs.Bridge.{never_stops}
use Rattle.v_syntax.specs.Grammar.{grammar}
use Rattle.v_syntax.specs.Tokens.{placed}
use Rattle.v_parser.proofs.Ends.{all_within, within_placed, deep_fits, deep_stops, deep_wrong, deep_within, wrong_all, not_good, not_wrong}
use Rattle.v_parser.proofs.parsing.parse.Goals as goal

pub returns-in-Ok-clause-good : goal.returns-in-Ok-clause-good
returns-in-Ok-clause-good c = record { fits = c.in-Ok.ensures.fits; within = within_placed c.args.bytes.now c.args.tokens.now c.in_default.ensures }

pub overflow_sub-result : goal.overflow_sub-result
overflow_sub-result c =
    let s = rw c.in-Err-Syntax.field-0-is at c.in-Err-Syntax.ensures.stops in
    omega (arith, all_within c.args.bytes.now c.args.tokens.now s.0 s.1, s.2)

pub returns-in-Err-Syntax-clause-accepts : goal.returns-in-Err-Syntax-clause-accepts
returns-in-Err-Syntax-clause-accepts c = λ good.
    let s = rw c.in-Err-Syntax.field-0-is at c.in-Err-Syntax.ensures.stops in
    absurd (never_stops grammar (placed c.args.bytes.now c.args.tokens.now) s.0 good.fits s.1)

pub returns-in-Err-Syntax-clause-syntax : goal.returns-in-Err-Syntax-clause-syntax
returns-in-Err-Syntax-clause-syntax c = λ k h.
    let s = rw c.in-Err-Syntax.field-0-is at c.in-Err-Syntax.ensures.stops in
    let same : k ≡ length c.args.tokens.now - c.in-Err-Syntax.left = cc in
    wrong_all c.args.bytes.now c.args.tokens.now s.0 k c.in_default.ensures s.1 (same ∙ ap (λ n. length c.args.tokens.now - n) s.2)

pub returns-in-Ok-read-clause-accepts : goal.returns-in-Ok-read-clause-accepts
returns-in-Ok-read-clause-accepts c = λ good. absurd (not_good c.args.bytes.now c.args.tokens.now c.in-Some.deep good (deep_fits c.args.bytes.now c.args.tokens.now c.in-Some.deep c.in-Some.ensures c.in-Ok-read.ensures.fits))

pub returns-in-Ok-read-clause-too_deep : goal.returns-in-Ok-read-clause-too_deep
returns-in-Ok-read-clause-too_deep c = λ k h.
    let same : k ≡ c.in-Some.deep = cc in
    rw same (deep_fits c.args.bytes.now c.args.tokens.now c.in-Some.deep c.in-Some.ensures c.in-Ok-read.ensures.fits)

pub returns-then-left-eq0-clause-accepts : goal.returns-then-left-eq0-clause-accepts
returns-then-left-eq0-clause-accepts c = λ good.
    let s = rw c.in-Err-Syntax-read.field-0-is at c.in-Err-Syntax-read.ensures.stops in
    absurd (not_good c.args.bytes.now c.args.tokens.now c.in-Some.deep good (deep_stops c.args.bytes.now c.args.tokens.now s.0 c.in-Some.deep c.in-Some.ensures s.1 (let zero = c.if-left-eq0.true in omega (arith, s.2, zero))))

pub returns-then-left-eq0-clause-too_deep : goal.returns-then-left-eq0-clause-too_deep
returns-then-left-eq0-clause-too_deep c = λ k h.
    let s = rw c.in-Err-Syntax-read.field-0-is at c.in-Err-Syntax-read.ensures.stops in
    let same : k ≡ c.in-Some.deep = cc in
    rw same (deep_stops c.args.bytes.now c.args.tokens.now s.0 c.in-Some.deep c.in-Some.ensures s.1 (let zero = c.if-left-eq0.true in omega (arith, s.2, zero)))

pub overflow_sub-result-2 : goal.overflow_sub-result-2
overflow_sub-result-2 c =
    let s = rw c.in-Err-Syntax-read.field-0-is at c.in-Err-Syntax-read.ensures.stops in
    omega (arith, deep_within c.args.bytes.now c.args.tokens.now s.0 c.in-Some.deep s.1, s.2)

pub returns-clause-accepts : goal.returns-clause-accepts
returns-clause-accepts c = λ good.
    let s = rw c.in-Err-Syntax-read.field-0-is at c.in-Err-Syntax-read.ensures.stops in
    absurd (not_wrong c.args.bytes.now c.args.tokens.now (c.in-Some.deep + 1 - length s.0) good
    (deep_wrong c.args.bytes.now c.args.tokens.now s.0 c.in-Some.deep _ c.in-Some.ensures s.1 (let some = c.if-left-eq0.false in omega (arith, s.2, some)) refl))

pub returns-clause-syntax : goal.returns-clause-syntax
returns-clause-syntax c = λ k h.
    let s = rw c.in-Err-Syntax-read.field-0-is at c.in-Err-Syntax-read.ensures.stops in
    let same : k ≡ c.in-Some.deep + 1 - c.in-Err-Syntax-read.left = cc in
    deep_wrong c.args.bytes.now c.args.tokens.now s.0 c.in-Some.deep k c.in-Some.ensures s.1 (let some = c.if-left-eq0.false in omega (arith, s.2, some)) (same ∙ ap (λ n. c.in-Some.deep + 1 - n) s.2)
