use Rattle.rdl_nodes.proofs.Words.{names_are_words}
use Rattle.rdl_nodes.proofs.laws.names_are_words.Goals as goal

pub returns : goal.returns
returns c = names_are_words
