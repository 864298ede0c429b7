use Rattle.std.proofs.Common.{arith}
use Rattle.word_groups.proofs.Shifts.{shown}
use Rattle.word_groups.proofs.parts.shown_bits.Goals as goal

pub returns : goal.returns
returns c = shown c.args.number c.args.slot.now.from c.args.slot.now.bits (omega (arith, c.requires.in_word))
