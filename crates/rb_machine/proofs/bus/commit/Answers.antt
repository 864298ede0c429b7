use Rattle.std.proofs.Common.{◌∙◌}
use Rattle.std.proofs.lemmas.List.{with_items_is}
use Rattle.rb_machine.proofs.bus.commit.Goals as goal

pub returns-clause-fields : goal.returns-clause-fields
returns-clause-fields c = with_items_is c.args.held.now.fields c.take_fields.new.fields (c.take_fields.auto.fields ∙ c.deref_mut.ensures.len) ∙ c.take_fields.ensures
