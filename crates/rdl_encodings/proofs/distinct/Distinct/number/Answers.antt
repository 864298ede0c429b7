use Rattle.std.proofs.Common.{◌∙◌, [], ◌∷◌, ◌++◌, ap, sym}
use Rattle.rdl_values.specs.Table.{entries_by}
use Rattle.rdl_encodings.proofs.Keys.{found, put_in}
use Rattle.rdl_encodings.proofs.distinct.Distinct.number.Goals as goal

pub returns-in-Some : goal.returns-in-Some
returns-in-Some c = λ ls h. found c.args.self.now ls c.args.field c.args.name.now c.args.key c.in-Some.number (sym c.get.ensures.value ∙ (sym c.copied.ensures ∙ c.in-Some.is)) h

pub returns : goal.returns
returns c = λ ls h.
    put_in c.args.self.now (record { numbers = c.insert.new.self; list = c.push.new.self }) ls c.args.field c.args.name.now c.args.key c.in-Ok.number
    (sym c.get.ensures.value ∙ (sym c.copied.ensures ∙ c.in_default.is))
    (c.in-Ok.ensures.1 ∙ (c.len.ensures ∙ c.args.self.now.list.ok.0))
    (c.in_ok-push.ensures.items ∙ ap (λ es. c.args.self.now.list.items ++ (record { name = c.args.name.now; place = c.args.key.place; field = c.args.field; entries = entries_by es } ∷ [])) (c.in_ok-entries.ensures ∙ c.deref.ensures.value))
    c.in_ok-insert.ensures.updates.0 h
