use Rattle.std.proofs.Common.{◌∙◌, rules}
use Rattle.rdl_base.specs.contracts.Keyword.{the_type}
use Rattle.rdl_base.specs.Keywords.{word}
use Rattle.rdl_tree.proofs.Spellings.{by_spelling, one_keyword}
use Rattle.rdl_tree.proofs.token.Token.is.Goals as goal

pub returns-in-Reserved-Reserved : goal.returns-in-Reserved-Reserved
returns-in-Reserved-Reserved c = rw (c.in-Reserved-Reserved.is-0, c.in-Reserved-Reserved.is-1) (c.eq-in-Reserved-Reserved.ensures ∙ by_spelling the_type (search rules) word one_keyword c.in-Reserved-Reserved.wanted c.in-Reserved-Reserved.keyword)
