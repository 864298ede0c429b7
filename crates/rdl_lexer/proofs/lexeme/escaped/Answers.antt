use Rattle.std.proofs.Common.{inl, inr, sym, ◌∙◌}
use Rattle.rdl_lexer.proofs.Fronts.{escaped_lexeme, escaped_breaks}
use Rattle.rdl_lexer.proofs.lexeme.escaped.Goals.{then-text-lt2-via-then-text-lt2, then-text-lt2-via-else-text-lt2+then-not-is_letter}
use Rattle.rdl_lexer.proofs.lexeme.escaped.Goals as goal

pub returns-then-text-lt2-clause-err : goal.returns-then-text-lt2-clause-err
returns-then-text-lt2-clause-err c = elim c.then-text-lt2.branch [
  | then-text-lt2-via-then-text-lt2 w ↦ escaped_breaks c.args.text.now c.requires.bare c.requires.backslash (inl w.if-text-lt2.true)
  | then-text-lt2-via-else-text-lt2+then-not-is_letter w ↦ escaped_breaks c.args.text.now c.requires.bare c.requires.backslash (inr (sym w.is_letter.ensures ∙ w.if-not-is_letter.true))
]

pub returns-clause-ok : goal.returns-clause-ok
returns-clause-ok c = escaped_lexeme c.word_len-len.result c.args.text.now c.requires.bare c.requires.backslash c.if-text-lt2.false c.if-not-is_letter.ensures c.word_len-len.ensures
