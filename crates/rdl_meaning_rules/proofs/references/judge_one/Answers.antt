use Rattle.std.proofs.Common.{◌≡◌, ◌∙◌, [], cond, flat_map, true, false, sym, ap}
use Rattle.rdl_tree.specs.declared.item.Kind.TheVariants as kinds
use Rattle.rdl_tree.specs.Kinds.{same_kind}
use Rattle.rdl_props.specs.Table.{reference_props}
use Rattle.rdl_values.specs.Lineages.{lineages_of}
use Rattle.rdl_failures.specs.Noted.{with_all}
use Rattle.rdl_layers.specs.Fields.{is_a}
use Rattle.rdl_rules.specs.ReferenceRules.{bad_target}
use Rattle.rdl_meaning_rules.proofs.Walk.{field-unit}
use Rattle.rdl_meaning_rules.proofs.references.judge_one.Goals as goal

pub returns-then-not-is_field : goal.returns-then-not-is_field
returns-then-not-is_field c = λ n said.
    let none : is_a kinds.Field n ≡ false = ap (same_kind kinds.Field) (sym said.kind_) ∙ (sym c.is_field.ensures ∙ c.if-not-is_field.true) in
    sym (ap (λ b. with_all (cond b (flat_map (bad_target (lineages_of c.args.props.now) n) reference_props) []) c.args.failures.now) none)

pub judge_references-requires-clause-node : goal.judge_references-requires-clause-node
judge_references-requires-clause-node c =
    let n = c.requires.node.0 in
    let field : is_a kinds.Field n ≡ true = ap (same_kind kinds.Field) (sym c.requires.node.1.kind_) ∙ (sym c.is_field.ensures ∙ c.if-not-is_field.false) in
    (n, c.requires.node.1.here, field-unit n field)

pub returns : goal.returns
returns c = λ n said.
    let field : is_a kinds.Field n ≡ true = ap (same_kind kinds.Field) (sym said.kind_) ∙ (sym c.is_field.ensures ∙ c.if-not-is_field.false) in
    c.in_ok-judge_references.ensures n said.here ∙ sym (ap (λ b. with_all (cond b (flat_map (bad_target (lineages_of c.args.props.now) n) reference_props) []) c.args.failures.now) field)
