use Rattle.std.proofs.Common.{◌∙◌, ◌++◌, [], cond, map, sym, ap}
use Rattle.rdl_tree.specs.declared.node.Node.{out-Node}
use Rattle.rdl_values.specs.Lineages.{lineages_of}
use Rattle.rdl_layers.specs.Fields.{fields_of}
use Rattle.rdl_block_numbers.specs.Listed.{is_primary}
use Rattle.rdl_rules.specs.Fields.{field_of}
use Rattle.rdl_field_list.proofs.Telling.{put-none}
use Rattle.rdl_field_list.proofs.list.add_own.Goals as goal

pub returns-then-not-is_primary : goal.returns-then-not-is_primary
returns-then-not-is_primary c = λ r at is.
    let e = c.args.known.props.now in
    put-none (is_primary r.register.node) (map (field_of e.source.now (lineages_of e) r) (fields_of r.register.node)) c.args.list.now.items
    (sym (c.is_primary.ensures e (out-Node c.args.row.now.node.now).id r.register c.requires.known.clean at.here at.row) ∙ c.if-not-is_primary.true)

pub add_fields-requires-clause-row : goal.add_fields-requires-clause-row
add_fields-requires-clause-row c =
    let e = c.args.known.props.now in
    let l = c.requires.row.0 in
    let at = c.requires.row.1 in
    (l, record { of = at; primary = sym (c.is_primary.ensures e (out-Node c.args.row.now.node.now).id l c.requires.known.clean at.here at.row) ∙ c.if-not-is_primary.false })

pub returns : goal.returns
returns c = λ r at is.
    let e = c.args.known.props.now in
    let primary = sym (c.is_primary.ensures e (out-Node c.args.row.now.node.now).id r.register c.requires.known.clean at.here at.row) ∙ c.if-not-is_primary.false in
    let fields = map (field_of e.source.now (lineages_of e) r) (fields_of r.register.node) in
    c.in_ok-add_fields.ensures r (record { of = at; primary = primary }) is ∙ ap (λ b. c.args.list.now.items ++ cond b fields []) (sym primary)
