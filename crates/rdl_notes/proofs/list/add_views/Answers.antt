use Rattle.std.proofs.Common.{◌∙◌, ◌∷◌, ◌++◌, [], cond, map, sym, ap, arith, append-nil}
use Rattle.rdl_tree.specs.declared.item.Kind.TheVariants as kinds
use Rattle.rdl_tree.specs.declared.node.Node.{out-Node}
use Rattle.rdl_tree.specs.Kinds.{same_kind}
use Rattle.rdl_values.specs.Instances.{children}
use Rattle.rdl_values.specs.Lineages.{lineages_of}
use Rattle.rdl_layers.specs.Fields.{fields_of, is_a}
use Rattle.rdl_sizes.proofs.Turns.{as-many}
use Rattle.rdl_fields.proofs.Lists.{filter-all}
use Rattle.rdl_notes.specs.Notes.{note_of}
use Rattle.rdl_notes.proofs.Growing.{mapped-more, put-none}
use Rattle.rdl_notes.proofs.Rows.{child-at}
use Rattle.rdl_notes.proofs.list.add_views.Goals as goal

pub returns-then-not-is_register : goal.returns-then-not-is_register
returns-then-not-is_register c = λ l at. put-none (is_a kinds.Reg l.node) (map note_of (fields_of l.node)) c.args.list.now.items (ap (same_kind kinds.Reg) (sym at.row.says.kind) ∙ (sym c.is_register.ensures ∙ c.if-not-is_register.true))

pub loop-child-init : goal.loop-child-init
loop-child-init c = λ l at. sym (append-nil c.args.list.now.items)

pub add_note-requires : goal.add_note-requires
add_note-requires c = (child-at c.args.props.now c.requires.clean c.args.row.now c.requires.row.0 c.requires.row.1 c.loop-child.child-index c.child-item.result c.loop-child-test.true c.child-item.is).2.low

pub loop-child-preserved : goal.loop-child-preserved
loop-child-preserved c = λ l at.
    let i = c.loop-child.child-index in
    let m = child-at c.args.props.now c.requires.clean c.args.row.now l at i c.child-item.result c.loop-child-test.true c.child-item.is in
    mapped-more note_of (is_a kinds.Field) (children l.node) i m.0 m.1 c.args.list.now.items c.loop-child.list.items c.add_note.new.list.items (c.loop-child.invariant l at) (c.in_ok-add_note.ensures m.0 m.2.here m.2.kind_)

pub returns : goal.returns
returns c = λ l at.
    let rs = (out-Node c.args.row.now.node.now).children.now in
    let many = as-many (lineages_of c.args.props.now) (l.node ∷ l.ancestors) rs rs (children l.node) at.row.inside in
    let register = ap (same_kind kinds.Reg) (sym at.row.says.kind) ∙ (sym c.is_register.ensures ∙ c.if-not-is_register.false) in
    c.loop-child.invariant l at
    ∙ (ap (λ ns. c.args.list.now.items ++ map note_of ns) (filter-all (is_a kinds.Field) (children l.node) c.loop-child.child-index (omega (arith, many, c.loop-child-test.false)))
    ∙ ap (λ b. c.args.list.now.items ++ cond b (map note_of (fields_of l.node)) []) (sym register))
