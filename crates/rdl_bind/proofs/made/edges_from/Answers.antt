use Rattle.std.proofs.Common.{◌∙◌, ◌++◌, sym, ap}
use Rattle.rdl_values.specs.Lineages.{lineages_of}
use Rattle.rdl_bind.specs.Known.{numbers_of}
use Rattle.rdl_bind.proofs.Items.{as-item-at, refers-aliased, refers-made, refers-missing}
use Rattle.rdl_bind.proofs.made.edges_from.Goals as goal

pub is_in_alias-requires : goal.is_in_alias-requires
is_in_alias-requires c =
    let e = c.args.known.props.now in
    let i = c.requires.item in
    (e, c.requires.known.clean, c.requires.known.rows_, (i.0, as-item-at e i.0 c.args.item i.1))

pub returns-then-is_missing : goal.returns-then-is_missing
returns-then-is_missing c = λ i is.
    let e = c.args.known.props.now in
    c.new-list.ensures.items ∙ ap (numbers_of e) (refers-missing (lineages_of e) i (sym (c.is_missing.ensures i (as-item-at e i c.args.item is)) ∙ c.if-is_missing.true))

pub returns-then-is_in_alias : goal.returns-then-is_in_alias
returns-then-is_in_alias c = λ i is.
    let e = c.args.known.props.now in
    let at = as-item-at e i c.args.item is in
    c.new-list.ensures.items ∙ ap (numbers_of e) (refers-aliased (lineages_of e) i (sym (c.is_missing.ensures i at) ∙ c.if-is_missing.false) (sym (c.is_in_alias.ensures e i c.requires.known.clean c.requires.known.rows_ at) ∙ c.if-is_in_alias.true))

pub returns : goal.returns
returns c = λ i is.
    let e = c.args.known.props.now in
    let at = as-item-at e i c.args.item is in
    let out = sym (c.is_in_alias.ensures e i c.requires.known.clean c.requires.known.rows_ at) ∙ c.if-is_in_alias.false in
    c.in_ok-add_made.ensures i is out ∙ (λ j. c.new-list.ensures.items j ++ numbers_of e (refers-made (lineages_of e) i (sym (c.is_missing.ensures i at) ∙ c.if-is_missing.false) out j))
