use Rattle.std.proofs.Common.{refl}
use Rattle.rdl_encodings.specs.Encoded.{firsts}
use Rattle.rdl_encodings.proofs.Pushing.{all_numbered}
use Rattle.rdl_encodings.proofs.numbering.Numbering.into_encodings.Goals as goal

pub returns : goal.returns
returns c = λ t fs h. all_numbered c.args.self t fs _ (c.into_list.ensures t (firsts fs) h.numbers_) refl h
