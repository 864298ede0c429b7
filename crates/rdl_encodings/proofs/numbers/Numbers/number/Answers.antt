use Rattle.std.proofs.Common.{◌∙◌, sym}
use Rattle.rdl_encodings.proofs.Pushing.{known_one, new_one}
use Rattle.rdl_encodings.proofs.numbers.Numbers.number.Goals as goal

pub returns-in-Some : goal.returns-in-Some
returns-in-Some c = λ ls h. known_one c.args.self.now c.args.enums.now ls c.args.field c.args.at.now c.in-Some.number (sym c.find.ensures ∙ c.in-Some.is) h

pub returns : goal.returns
returns c = λ ls h.
    new_one c.args.self.now (record { known = c.put.new.self; distinct = c.number.new.self }) c.args.enums.now ls c.args.field c.args.at.now c.in_ok-key.key c.in_ok-number.number
    (c.in_ok-key.ensures c.args.at.now.name.now) c.in_ok-number.ensures c.in_ok-put.ensures h
