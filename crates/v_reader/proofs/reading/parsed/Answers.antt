use Rattle.std.proofs.Common.{◌≡◌, ◌<◌, ◌≤◌, ◌∙◌, ap, sym, subst, length, arith, inl, inr, Err}
use Rattle.rb_grammar.specs.Forms.{Non}
use Rattle.rb_grammar.specs.Judging.{IsGood, IsTooDeepAt}
use Rattle.v_syntax.specs.Tokens.{placed}
use Rattle.v_syntax.specs.Grammar.{grammar, nesting, most_open, Module}
use Rattle.v_reader.proofs.Placed.{placed_length}
use Rattle.v_reader.proofs.Answering.{misspelled_good, too_deep}
use Rattle.v_reader.proofs.reading.parsed.Goals as goal

pub stopped-requires-clause-within : goal.stopped-requires-clause-within
stopped-requires-clause-within c =
    let e = c.in-Err-Syntax.is ∙ ap Err c.in-Err-Syntax.field-0-is in
    let within = subst (λ z. c.in-Err-Syntax.at ≤ length (placed c.args.bytes.now z)) c.deref.ensures.value (c.parse.ensures.syntax c.in-Err-Syntax.at e).0 in
    omega (arith, within, placed_length c.args.bytes.now c.args.scanned.now.tokens.items)

pub index-requires : goal.index-requires
index-requires c =
    let e = c.in-Err-TooDeep.is ∙ ap Err c.in-Err-TooDeep.field-0-is in
    let d = subst (λ z. IsTooDeepAt grammar nesting most_open (Non Module) (placed c.args.bytes.now z) c.in-Err-TooDeep.at) c.deref.ensures.value (c.parse.ensures.too_deep c.in-Err-TooDeep.at e) in
    omega (arith, d.first.within, placed_length c.args.bytes.now c.args.scanned.now.tokens.items)

pub returns-in-Err-TooDeep-clause-err : goal.returns-in-Err-TooDeep-clause-err
returns-in-Err-TooDeep-clause-err c =
    let e = c.in-Err-TooDeep.is ∙ ap Err c.in-Err-TooDeep.field-0-is in
    let d = subst (λ z. IsTooDeepAt grammar nesting most_open (Non Module) (placed c.args.bytes.now z) c.in-Err-TooDeep.at) c.deref.ensures.value (c.parse.ensures.too_deep c.in-Err-TooDeep.at e) in
    inr (too_deep c.args.bytes.now c.args.scanned.now.tokens.items _ c.in-Err-TooDeep.at c.index.result.now c.requires.scans (omega (arith, d.first.within, placed_length c.args.bytes.now c.args.scanned.now.tokens.items)) c.index.ensures d)

pub returns-in-Some-clause-err : goal.returns-in-Some-clause-err
returns-in-Some-clause-err c =
    let g = subst (λ z. IsGood grammar nesting most_open (Non Module) (placed c.args.bytes.now z)) c.deref.ensures.value c.in-Ok.ensures.good in
    inr (misspelled_good c.args.bytes.now c.args.scanned.now.tokens.items c.args.scanned.now.fault c.in-Some.fault c.requires.scans c.in-Some.is g)
