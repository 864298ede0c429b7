use Rattle.rb_machine.proofs.sources.source_of.Goals as goal

pub returns-in-Field : goal.returns-in-Field
returns-in-Field c = rw c.in-Field.is c.field_source.ensures
