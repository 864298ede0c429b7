use Rattle.std.proofs.Common.{length, take, drop, ◌-◌, sym, ◌∙◌, arith, length-drop}
use Rattle.std.proofs.lemmas.List.{take_all}
use Rattle.vcd_reader.proofs.Leading.{number_leads}
use Rattle.vcd_reader.proofs.exits.is_binary.Goals as goal

pub returns-then-not-is_empty-clause-is : goal.returns-then-not-is_empty-clause-is
returns-then-not-is_empty-clause-is c = λ h.
    let word = c.args.word.now in
    number_leads word (take (length word - 1) (drop 1 word)) c.in-98.len_at_least (omega arith) (take_all (length word - 1) (drop 1 word) (omega (arith, length-drop 1 word)))
    (sym c.is_empty.ensures ∙ c.if-not-is_empty.true) (sym c.are_known.ensures ∙ h)
