use Rattle.std.proofs.Common.{◌∙◌, ◌<◌, ◌&&◌, ◌||◌, List, sym, ap, subst, arith}
use Rattle.std.specs.List.{list_any}
use Rattle.std.proofs.lemmas.List.{take_all}
use Rattle.rdl_base.specs.declared.rule.Rule.TheVariants as rule
use Rattle.rdl_tree.specs.declared.node.Node.{out-Node}
use Rattle.rdl_values.specs.Faults.{at_, when}
use Rattle.rdl_values.specs.Instances.{Instance}
use Rattle.rdl_failures.specs.Noted.{with_all}
use Rattle.rdl_rules.specs.FieldRules.{at_node}
use Rattle.rdl_rules.specs.Fields.{is_field_reset}
use Rattle.rdl_rules.specs.ReferenceRules.{second_reset}
use Rattle.rdl_sizes.proofs.Turns.{read-at}
use Rattle.rdl_reset_rules.proofs.Said.{any-more, as-many, said-at, standing-more}
use Rattle.rdl_reset_rules.proofs.second.judge_second_resets.Goals as goal

pub is_field_reset-resets-requires : goal.is_field_reset-resets-requires
is_field_reset-resets-requires c = subst (λ x. (out-Node x).id < c.args.props.now.count) (sym c.node-item.is) (c.requires c.loop-node.node-index c.node-item.result c.loop-node-test.true)

pub loop-node-preserved : goal.loop-node-preserved
loop-node-preserved c = λ ns h.
    let e = c.args.props.now in
    let i = c.loop-node.node-index in
    let s = said-at e c.args.nodes.now ns h i c.node-item.result (read-at c.args.nodes.now i c.node-item.result c.loop-node-test.true c.node-item.is) in
    let before = c.loop-node.invariant ns h in
    let resets = c.is_field_reset-resets.ensures s.0 s.2 in (
      (λ j. before.0 j || resets j) ∙ sym (any-more is_field_reset ns i s.0 s.1),
      standing-more (λ (n : List Instance × Instance). at_node rule.R8 n.1 (list_any is_field_reset n.0 && is_field_reset n.1)) ns i s.0 c.args.failures.now c.loop-node.failures c.note.new.self s.1 before.1
          (c.in_ok-note.ensures.put ∙ (λ j. with_all (when (before.0 j && resets j) (at_ rule.R8 (s.2.place_ j))) c.loop-node.failures)),
    )

pub returns : goal.returns
returns c = λ ns h.
    let many = as-many c.args.props.now c.args.nodes.now ns h in
    (c.loop-node.invariant ns h).1 ∙ ap (λ ms. with_all (second_reset ms) c.args.failures.now) (take_all c.loop-node.node-index ns (omega (arith, many, c.loop-node-test.false)))
