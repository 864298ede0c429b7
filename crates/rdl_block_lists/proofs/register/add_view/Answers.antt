use Rattle.std.proofs.Common.{◌≡◌, ◌∙◌, ◌∷◌, [], Some, sym, ap, arith}
use Rattle.rdl_tree.specs.declared.item.Kind.TheVariants as kinds
use Rattle.rdl_tree.specs.declared.node.Node.{out-Node}
use Rattle.rdl_tree.specs.Kinds.{same_kind}
use Rattle.rdl_values.specs.Lineages.{child_of, lineages_of}
use Rattle.rdl_values.specs.Uses.{path_text}
use Rattle.rdl_layers.specs.Fields.{is_a}
use Rattle.rdl_sizes.proofs.Facts.{node-at}
use Rattle.rdl_rules.specs.Fields.{view_of}
use Rattle.rdl_block_lists.proofs.Viewing.{number-of, put-none, put-one}
use Rattle.rdl_block_lists.proofs.register.add_view.Goals as goal

pub returns-then-not-is_field : goal.returns-then-not-is_field
returns-then-not-is_field c = λ l v here kind alias.
    put-none (is_a kinds.Field v) (view_of (lineages_of c.args.known.props.now) l.node v ∷ []) c.args.list.now.items (ap (same_kind kinds.Field) (sym kind) ∙ (sym c.is_field.ensures ∙ c.if-not-is_field.true))

pub text-requires : goal.text-requires
text-requires c = omega (arith, c.requires.texts.many, c.requires.node)

pub bounds-viewed-at : goal.bounds-viewed-at
bounds-viewed-at c = omega (arith, c.requires.viewed.many, c.requires.node)

pub returns : goal.returns
returns c = λ l v here kind alias.
    let e = c.args.known.props.now in
    let k = (out-Node c.args.node.now).id in
    let field = ap (same_kind kinds.Field) (sym kind) ∙ (sym c.is_field.ensures ∙ c.if-not-is_field.false) in
    let at = node-at e k (child_of l v) here in
    let read : Some c.text.result.now ≡ Some (path_text v.path) = sym c.text.ensures ∙ c.requires.texts.each k v c.requires.node at in
    let path = c.in_ok-bytes.ensures.items ∙ cc read in
    let same = c.view.ensures l.node v at path (number-of e c.args.viewed.now c.requires.viewed k l v c.requires.node here field) alias in
    put-one (is_a kinds.Field v) c.view.result (view_of (lineages_of e) l.node v) c.args.list.now.items c.push.new.self.items field same c.in_ok-push.ensures.items
