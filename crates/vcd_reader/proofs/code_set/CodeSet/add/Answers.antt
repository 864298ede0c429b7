use Rattle.std.proofs.Common.{sym, subst}
use Rattle.vcd_reader.specs.Codes.{ArePlaces}
use Rattle.vcd_reader.proofs.Places.{grown, kept}
use Rattle.vcd_reader.proofs.code_set.CodeSet.add.Goals as goal

pub invariant_of-self : goal.invariant_of-self
invariant_of-self c = subst (ArePlaces c.self.inside.places.items) (sym c.in_err-again.ensures.kept) c.self.invariant

pub invariant_of-self-in-Continue-branch-2 : goal.invariant_of-self-in-Continue-branch-2
invariant_of-self-in-Continue-branch-2 c = grown c.self.inside.places.items c.note.new.places.items c.self.inside.codes c.add.new.self c.args.code.now c.in_ok-again.again c.len-number.result c.self.invariant c.note.ensures c.len-number.ensures c.in_ok-again.ensures.again c.if-not-again.true c.in_ok-again.ensures.words

pub invariant_of-self-in_err-note : goal.invariant_of-self-in_err-note
invariant_of-self-in_err-note c = grown c.self.inside.places.items c.note.new.places.items c.self.inside.codes c.add.new.self c.args.code.now c.in_ok-again.again c.len-number.result c.self.invariant c.note.ensures c.len-number.ensures c.in_ok-again.ensures.again c.if-not-again.true c.in_ok-again.ensures.words

pub invariant_of-self-else-not-again : goal.invariant_of-self-else-not-again
invariant_of-self-else-not-again c = kept c.self.inside.places.items c.self.inside.codes c.add.new.self c.args.code.now c.in_ok-again.again c.self.invariant c.if-not-again.false c.in_ok-again.ensures.words
