use Rattle.std.proofs.Common.{◌≡◌, ◌∙◌, [], cond, true, false, sym, ap}
use Rattle.rdl_tree.specs.declared.item.Kind.TheVariants as kinds
use Rattle.rdl_tree.specs.Kinds.{same_kind}
use Rattle.rdl_values.specs.Elaborated.{nodes_of}
use Rattle.rdl_values.specs.Instances.{Instance}
use Rattle.rdl_failures.specs.Noted.{with_all}
use Rattle.rdl_layers.specs.Fields.{is_a}
use Rattle.rdl_sizes.proofs.Facts.{node-at}
use Rattle.rdl_field_rules.specs.Judged.{register_failures}
use Rattle.rdl_meaning_rules.proofs.Walk.{known, same-node}
use Rattle.rdl_meaning_rules.proofs.registers.judge_one.Goals as goal

pub returns-then-not-is_register : goal.returns-then-not-is_register
returns-then-not-is_register c = λ n at.
    let e = c.args.props.now in
    let k = known e c.args.rows.now c.requires.rows c.args.at c.index-rows-at.result c.requires.within c.index-rows-at.is in
    let same = same-node e c.args.at k.of.node n (node-at e c.args.at k.of k.here) at in
    let none : is_a kinds.Reg n ≡ false = ap (is_a kinds.Reg) (sym same) ∙ (ap (same_kind kinds.Reg) (sym k.row.says.kind) ∙ (sym c.is_register.ensures ∙ c.if-not-is_register.true)) in
    sym (ap (λ b. with_all (cond b (register_failures (nodes_of e) n) []) c.args.failures.now) none)

pub judge_register-requires-clause-register : goal.judge_register-requires-clause-register
judge_register-requires-clause-register c =
    let k = known c.args.props.now c.args.rows.now c.requires.rows c.args.at c.index-rows-at.result c.requires.within c.index-rows-at.is in
    (k.of, k.here, ap (same_kind kinds.Reg) (sym k.row.says.kind) ∙ (sym c.is_register.ensures ∙ c.if-not-is_register.false))

pub returns : goal.returns
returns c = λ n at.
    let e = c.args.props.now in
    let k = known e c.args.rows.now c.requires.rows c.args.at c.index-rows-at.result c.requires.within c.index-rows-at.is in
    let same = same-node e c.args.at k.of.node n (node-at e c.args.at k.of k.here) at in
    let reg : is_a kinds.Reg n ≡ true = ap (is_a kinds.Reg) (sym same) ∙ (ap (same_kind kinds.Reg) (sym k.row.says.kind) ∙ (sym c.is_register.ensures ∙ c.if-not-is_register.false)) in
    c.in_ok-judge_register.ensures k.of k.here
    ∙ (ap (λ (m : Instance). with_all (register_failures (nodes_of e) m) c.args.failures.now) same ∙ sym (ap (λ b. with_all (cond b (register_failures (nodes_of e) n) []) c.args.failures.now) reg))
