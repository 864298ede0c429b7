use Rattle.std.proofs.Common.{◌∙◌, ap, option_map, refl}
use Rattle.rdl_encodings.specs.Meant.{enum_meant}
use Rattle.rdl_encodings.proofs.Pushing.{next_none, next_some}
use Rattle.rdl_encodings.proofs.numbering.Numbering.next.Goals as goal

pub returns-in_default : goal.returns-in_default
returns-in_default c = λ fs f h by. next_none c.args.self.now c.args.enums.now fs f (by ∙ ap (option_map (enum_meant c.args.enums.now)) c.in_default.is) h

pub returns : goal.returns
returns c = λ fs f h by.
    next_some c.args.self.now (record { numbers = c.number.new.self; fields = c.args.self.now.fields }) c.args.enums.now fs f (enum_meant c.args.enums.now c.in-Some.at) c.in-Ok.field c.in_ok-number.number
    (by ∙ ap (option_map (enum_meant c.args.enums.now)) c.in-Some.is) (c.in-Ok.ensures.1 ∙ (c.len.ensures ∙ c.args.self.now.fields.ok.0)) refl h
    (c.in_ok-number.ensures _ h.numbers_)
