use Rattle.std.proofs.Common.{◌∙◌, ◌++◌, [], cond, map, sym, ap}
use Rattle.rdl_tree.specs.declared.item.Kind.TheVariants as kinds
use Rattle.rdl_tree.specs.Kinds.{same_kind}
use Rattle.rdl_values.specs.Lineages.{lineages_of}
use Rattle.rdl_layers.specs.Fields.{fields_of, is_a}
use Rattle.rdl_rules.specs.Fields.{view_of}
use Rattle.rdl_block_lists.proofs.Viewing.{put-none}
use Rattle.rdl_block_lists.proofs.view_list.add_register.Goals as goal

pub returns-then-not-is_register : goal.returns-then-not-is_register
returns-then-not-is_register c = λ l at.
    put-none (is_a kinds.Reg l.node) (map (view_of (lineages_of c.args.known.props.now) l.node) (fields_of l.node)) c.args.list.now.items (ap (same_kind kinds.Reg) (sym at.row.says.kind) ∙ (sym c.is_register.ensures ∙ c.if-not-is_register.true))

pub returns : goal.returns
returns c = λ l at.
    let register = ap (same_kind kinds.Reg) (sym at.row.says.kind) ∙ (sym c.is_register.ensures ∙ c.if-not-is_register.false) in
    c.in_ok-add_views.ensures l at ∙ ap (λ b. c.args.list.now.items ++ cond b (map (view_of (lineages_of c.args.known.props.now) l.node) (fields_of l.node)) []) (sym register)
