use Rattle.rdl_lexer.proofs.InOrder.{places_rise, names_are_words}
use Rattle.rdl_lexer.proofs.laws.spelled_in_order.Goals as goal

pub returns-clause-places : goal.returns-clause-places
returns-clause-places c = places_rise

pub returns-clause-words : goal.returns-clause-words
returns-clause-words c = names_are_words
