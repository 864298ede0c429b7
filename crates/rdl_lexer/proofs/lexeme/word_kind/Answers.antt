use Rattle.std.proofs.Common.{sym, ap, ◌∙◌}
use Rattle.std.specs.Option.{option_map_or}
use Rattle.rdl_tree.specs.declared.token.TokenKind.TheVariants as kinds
use Rattle.rdl_tree.specs.Tokens.{keyword_of}
use Rattle.rdl_tree.proofs.Spellings.{keyword_of-word, not_reserved}
use Rattle.rdl_lexer.proofs.lexeme.word_kind.Goals as goal

pub returns-in-Some : goal.returns-in-Some
returns-in-Some c = ap (λ k. option_map_or kinds.Reserved k kinds.Word) (sym (ap keyword_of (sym c.in-Some.ensures.spelled) ∙ keyword_of-word c.in-Some.keyword))

pub returns-in-None : goal.returns-in-None
returns-in-None c = ap (λ k. option_map_or kinds.Reserved k kinds.Word) (sym (not_reserved c.args.word.now (sym c.in-None.ensures.reserved)))
