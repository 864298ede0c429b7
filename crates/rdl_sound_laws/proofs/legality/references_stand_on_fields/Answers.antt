use Rattle.rdl_sound_laws.proofs.Legal.{all-on-fields}
use Rattle.rdl_sound_laws.proofs.legality.references_stand_on_fields.Goals as goal

pub returns : goal.returns
returns c = λ wanted s. all-on-fields wanted s (λ n p q item scope place t e. c.references_stand_where_taken.ensures.only n p q item scope place t e)
