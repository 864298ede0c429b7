use Rattle.std.proofs.Common.{ne_eqb, refl}
use Rattle.rdl_base.specs.declared.rule.Rule.TheVariants.{L1, L6}
use Rattle.rdl_lexer.proofs.Fronts.{perl_breaks, mark_lexeme, mark_breaks}
use Rattle.rdl_lexer.proofs.lexeme.mark.Goals as goal

pub returns-then-starts_with-clause-err : goal.returns-then-starts_with-clause-err
returns-then-starts_with-clause-err c = perl_breaks c.args.text.now c.requires.bare (c.if-starts_with.ensures.bound refl) c.if-starts_with.ensures.value

pub returns-in-Some-clause-ok : goal.returns-in-Some-clause-ok
returns-in-Some-clause-ok c = mark_lexeme c.mark_len-len.result c.args.text.now c.in-Some.mark c.requires.bare c.requires.other c.if-starts_with.ensures.value c.mark_len-len.ensures c.in-Some.ensures

pub returns-in-None-clause-err : goal.returns-in-None-clause-err
returns-in-None-clause-err c = mark_breaks c.args.text.now L6 c.requires.bare c.requires.other c.if-starts_with.ensures.value c.in-None.ensures (rw c.if-text-eq96.true refl)

pub returns-in-None-2-clause-err : goal.returns-in-None-2-clause-err
returns-in-None-2-clause-err c = mark_breaks c.args.text.now L1 c.requires.bare c.requires.other c.if-starts_with.ensures.value c.in-None-2.ensures (rw (ne_eqb _ _ c.if-text-eq96.false) refl)
