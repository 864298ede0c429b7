use Rattle.v_lexer.proofs.Fronts.{word_lexeme}
use Rattle.v_lexer.proofs.lexeme.word.Goals as goal

pub returns : goal.returns
returns c = word_lexeme c.name_len-len.result c.args.text.now c.word_kind.result c.requires.bare c.requires.letter c.name_len-len.ensures c.word_kind.ensures
