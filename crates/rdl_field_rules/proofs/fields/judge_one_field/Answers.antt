use Rattle.std.proofs.Common.{◌≡◌, ◌∙◌, ap, sym}
use Rattle.rdl_failures.specs.Noted.{with_all}
use Rattle.rdl_failures.proofs.Sets.{with_all-append}
use Rattle.rdl_rules.specs.FieldRules.{of_primary, without_reset}
use Rattle.rdl_field_rules.proofs.Turns.{fact-below, id-below, its-fact}
use Rattle.rdl_field_rules.proofs.fields.judge_one_field.Goals as goal

pub bounds-facts-node : goal.bounds-facts-node
bounds-facts-node c = fact-below c.args.props.now c.requires.clean c.args.facts.now c.requires.facts c.args.view.now c.requires.view.0 c.requires.view.1

pub judge_primary-requires-clause-number : goal.judge_primary-requires-clause-number
judge_primary-requires-clause-number c = id-below c.args.props.now c.requires.clean c.args.view.now c.requires.view.0 c.requires.view.1

pub judge_once-requires-clause-of_field : goal.judge_once-requires-clause-of_field
judge_once-requires-clause-of_field c = id-below c.args.props.now c.requires.clean c.args.view.now c.requires.view.0 c.requires.view.1

pub judge_once-requires-clause-of_view : goal.judge_once-requires-clause-of_view
judge_once-requires-clause-of_view c = id-below c.args.props.now c.requires.clean c.args.view.now c.requires.view.0 c.requires.view.1

pub returns : goal.returns
returns c = λ b h.
    c.in_ok-judge_once.ensures b.node b.node h.here h.here (sym h.place_)
    ∙ (ap (with_all (without_reset b.node b.node)) (c.in_ok-judge_primary.ensures b.node h.here (sym h.place_) (its-fact c.args.props.now c.args.facts.now c.requires.facts c.args.view.now b h))
    ∙ sym (with_all-append (of_primary b.node) (without_reset b.node b.node) c.args.failures.now))
