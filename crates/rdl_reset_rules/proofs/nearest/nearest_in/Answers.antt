use Rattle.std.proofs.Common.{filter, Some}
use Rattle.rdl_rules.specs.Fields.{is_field_reset}
use Rattle.rdl_reset_rules.proofs.Nearing.{behind-none, in-front, kept-join}
use Rattle.rdl_reset_rules.proofs.nearest.nearest_in.Goals as goal

pub returns-in-Some : goal.returns-in-Some
returns-in-Some c = λ ns ms said first. kept-join c.args.props.now ns ms (Some c.in-Some.node) (in-front c.args.props.now (filter is_field_reset ns) (filter is_field_reset ms) c.in-Some.node (c.in-Some.ensures ns said))

pub returns-in-None : goal.returns-in-None
returns-in-None c = λ ns ms said first. kept-join c.args.props.now ns ms c.args.outer (behind-none c.args.props.now (filter is_field_reset ns) (filter is_field_reset ms) c.args.outer (c.in-None.ensures ns said) first)
