use Rattle.std.proofs.Common.{◌∙◌, ◌&&◌, ◌||◌, cond, not, ap, sym}
use Rattle.rdl_tree.specs.declared.item.Kind.TheVariants as kinds
use Rattle.rdl_tree.specs.declared.node.Node.{out-Node}
use Rattle.rdl_tree.specs.Kinds.{same_kind}
use Rattle.rdl_values.specs.Instances.{is_empty}
use Rattle.rdl_values.specs.Uses.{path_text}
use Rattle.rdl_notes.specs.Groups.{behind}
use Rattle.block_effects.specs.Notes.{is_said}
use Rattle.rdl_notes.specs.Notes.{group_of, note_of}
use Rattle.rdl_notes.proofs.groups.add_node.Goals as goal

pub returns-then-not-is_container-clause-listed : goal.returns-then-not-is_container-clause-listed
returns-then-not-is_container-clause-listed c = λ n here kind.
    let none = ap (λ k. same_kind kinds.Addrmap k || same_kind kinds.Regfile k) (sym kind) ∙ (sym c.is_container.ensures ∙ c.if-not-is_container.true) in
    ap (λ b. cond (b && (not (is_empty (path_text n.path)) && is_said (note_of n))) (behind c.args.list.now.items (group_of n)) c.args.list.now.items) (sym none)

pub returns-clause-listed : goal.returns-clause-listed
returns-clause-listed c = λ n here kind.
    let some = ap (λ k. same_kind kinds.Addrmap k || same_kind kinds.Regfile k) (sym kind) ∙ (sym c.is_container.ensures ∙ c.if-not-is_container.false) in
    let path = c.path_at-path.ensures (path_text n.path) (c.requires.texts.each (out-Node c.args.node.now).id n c.requires.low here) in
    c.in_ok-add_container.ensures.listed n here
    ∙ (λ i. cond (sym some i && (not (is_empty (path i)) && is_said (note_of n))) (behind c.args.list.now.items (record { path = path i; said = note_of n })) c.args.list.now.items)
