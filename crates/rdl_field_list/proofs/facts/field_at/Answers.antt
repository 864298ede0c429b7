use Rattle.rdl_field_list.proofs.Telling.{plain}
use Rattle.rdl_field_list.proofs.facts.field_at.Goals as goal

pub returns : goal.returns
returns c = λ r f own field is. c.field.ensures r f (plain c.args.known.props.now c.args.register c.args.node r.register f own) (c.in_ok-facts.ensures.facts r f own field is)
