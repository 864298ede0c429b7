use Rattle.std.proofs.Common.{◌≡◌, ◌∙◌, ◌||◌, flat_map, Some, sym, ap, subst}
use Rattle.rdl_base.specs.declared.rule.Rule.TheVariants as rule
use Rattle.rdl_props.specs.declared.prop.Prop.TheVariants as prop
use Rattle.rdl_values.specs.Faults.{at_, when}
use Rattle.rdl_values.specs.Instances.{Instance}
use Rattle.rdl_failures.specs.Noted.{with_all}
use Rattle.rdl_addr.specs.Bits.{bits_of}
use Rattle.rdl_rules.specs.FieldRules.{at_node}
use Rattle.rdl_rules.specs.RegisterRules.{differs}
use Rattle.rdl_fields.specs.Views.{AreViewsOf}
use Rattle.rdl_field_rules.specs.Judged as judged
use Rattle.rdl_field_rules.proofs.Turns.{number-below, three-put}
use Rattle.rdl_field_rules.proofs.aliases.judge_alias.Goals as goal

pub is_other_width-other-requires-clause-primary : goal.is_other_width-other-requires-clause-primary
is_other_width-other-requires-clause-primary c = number-below c.args.props.now c.requires.clean c.args.primary c.requires.primary.0 c.requires.primary.1

pub is_other_width-other-requires-clause-alias : goal.is_other_width-other-requires-clause-alias
is_other_width-other-requires-clause-alias c = number-below c.args.props.now c.requires.clean c.args.alias c.requires.alias.0 c.requires.alias.1

pub returns : goal.returns
returns c = λ a r at_a at_r p.
    let e = c.args.props.now in
    let same_a : c.requires.alias.0 ≡ a = (let q : Some c.requires.alias.0 ≡ Some a = sym c.requires.alias.1 ∙ at_a in cc q) in
    let same_r : c.requires.primary.0 ≡ r = (let q : Some c.requires.primary.0 ≡ Some r = sym c.requires.primary.1 ∙ at_r in cc q) in
    let of_a : AreViewsOf e c.args.views.now (bits_of a) = subst (λ n. AreViewsOf e c.args.views.now (bits_of n)) same_a c.requires.alias.2 in
    let of_r : AreViewsOf e c.args.others.now (bits_of r) = subst (λ n. AreViewsOf e c.args.others.now (bits_of n)) same_r c.requires.primary.2 in
    let other = c.is_other_width-other.ensures r a at_r at_a in
    let first : c.note.new.self ≡ with_all (at_node rule.F12 a (differs r a prop.Regwidth || differs r a prop.Accesswidth)) c.args.failures.now = c.in_ok-note.ensures.put ∙ (λ i. with_all (when (other i) (at_ rule.F12 (sym p i))) c.args.failures.now) in
    three-put (at_node rule.F12 a (differs r a prop.Regwidth || differs r a prop.Accesswidth)) (flat_map (judged.unlike (bits_of r)) (bits_of a)) (flat_map (judged.resets (bits_of r)) (bits_of a)) c.args.failures.now c.note.new.self c.judge_likes.new.failures c.judge_resets.new.failures
    first (c.in_ok-judge_likes.ensures e (bits_of a) (bits_of r) of_a of_r) (c.in_ok-judge_resets.ensures (bits_of a) (bits_of r) of_a of_r)
