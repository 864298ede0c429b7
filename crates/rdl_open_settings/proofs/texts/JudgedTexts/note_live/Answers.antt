use Rattle.std.proofs.Common.{refl}
use Rattle.rdl_open_settings.proofs.Further.{live_noted}
use Rattle.rdl_open_settings.proofs.texts.JudgedTexts.note_live.Goals as goal

pub returns-clause-live : goal.returns-clause-live
returns-clause-live c = λ held h. live_noted c.args.bodies.now held c.args.self.now (record c.args.self.now { live = c.insert.new.self }) c.args.body.now.text c.in_ok-of.field-0 refl c.in_ok-insert.ensures.updates c.in_ok-of.ensures h
