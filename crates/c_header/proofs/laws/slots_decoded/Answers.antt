use Rattle.c_header.proofs.SlotLaws.{slot_part}
use Rattle.c_header.proofs.laws.slots_decoded.Goals as goal

pub returns : goal.returns
returns c = slot_part
