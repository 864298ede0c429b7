use Rattle.std.proofs.Common.{◌≡◌, refl}
use Rattle.rdl_tree.specs.declared.token.TokenKind.{TokenKind}
use Rattle.rdl_tree.specs.declared.token.TokenKind.TheVariants as kinds
use Rattle.rdl_tree.specs.Tokens.{terminal_of}
use Rattle.rdl_lexer.specs.Compact.{kind_of, value_of}
use Rattle.rdl_lexer.proofs.compact.CompactToken.pack.Goals as goal

kept : (k : TokenKind) → kind_of (terminal_of k) (value_of k) ≡ k
kept kinds.Word = refl
kept (kinds.Number n) = refl
kept kinds.Str = refl
kept (kinds.Mark m) = refl
kept (kinds.Reserved k) = refl

pub returns : goal.returns
returns c = rw (c.value_of.ensures, c.terminal_of.ensures, kept c.args.token.kind) refl
