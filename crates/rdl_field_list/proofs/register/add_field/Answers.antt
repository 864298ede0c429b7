use Rattle.std.proofs.Common.{◌∙◌, ◌∷◌, [], sym, ap}
use Rattle.rdl_tree.specs.declared.item.Kind.TheVariants as kinds
use Rattle.rdl_tree.specs.Kinds.{same_kind}
use Rattle.rdl_values.specs.Lineages.{lineages_of}
use Rattle.rdl_layers.specs.Fields.{is_a}
use Rattle.rdl_rules.specs.Fields.{field_of}
use Rattle.rdl_field_list.proofs.Telling.{put-none, put-one}
use Rattle.rdl_field_list.proofs.register.add_field.Goals as goal

pub returns-then-not-is_field : goal.returns-then-not-is_field
returns-then-not-is_field c = λ r f own kind is.
    let e = c.args.known.props.now in
    put-none (is_a kinds.Field f) (field_of e.source.now (lineages_of e) r f ∷ []) c.args.list.now.items (ap (same_kind kinds.Field) (sym kind) ∙ (sym c.is_field.ensures ∙ c.if-not-is_field.true))

pub field_at-requires-clause-narrow : goal.field_at-requires-clause-narrow
field_at-requires-clause-narrow c = c.requires.narrow (sym c.is_field.ensures ∙ c.if-not-is_field.false)

pub returns : goal.returns
returns c = λ r f own kind is.
    let e = c.args.known.props.now in
    let field = ap (same_kind kinds.Field) (sym kind) ∙ (sym c.is_field.ensures ∙ c.if-not-is_field.false) in
    put-one (is_a kinds.Field f) c.in_ok-field.field (field_of e.source.now (lineages_of e) r f) c.args.list.now.items c.push.new.self.items field (c.in_ok-field.ensures r f own field is) c.in_ok-push.ensures.items
