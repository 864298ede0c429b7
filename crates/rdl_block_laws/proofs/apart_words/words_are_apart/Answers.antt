use Rattle.rdl_block_laws.proofs.ApartWords.{all-apart}
use Rattle.rdl_block_laws.proofs.apart_words.words_are_apart.Goals as goal

pub returns : goal.returns
returns c = λ e b ready none is sound. all-apart e ready none b is sound
