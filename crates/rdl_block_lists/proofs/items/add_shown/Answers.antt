use Rattle.std.proofs.Common.{◌∙◌, ◌++◌, append-nil, option_to_list, sym, ap, subst, arith}
use Rattle.rdl_values.specs.Elaborated.{nodes_of}
use Rattle.rdl_values.specs.Lineages.{lineages_of}
use Rattle.rdl_refs.specs.Answers.{AreItems}
use Rattle.rdl_refs.specs.Items.{items}
use Rattle.rdl_block_lists.proofs.Turned.{as-many, known-item, shown-one}
use Rattle.rdl_block_lists.proofs.items.add_shown.Goals as goal

pub bounds-items-number : goal.bounds-items-number
bounds-items-number c =
    let e = c.args.known.props.now in
    let are = subst (λ t. AreItems t c.items.result.now) c.requires.known.refs_ c.items.ensures in
    let many = as-many (nodes_of e) c.items.result.now (items (lineages_of e)) are in
    let low = c.requires.number in
    omega (arith, many, low)

pub shown-requires-clause-item : goal.shown-requires-clause-item
shown-requires-clause-item c =
    let e = c.args.known.props.now in
    let are = subst (λ t. AreItems t c.items.result.now) c.requires.known.refs_ c.items.ensures in
    let many = as-many (nodes_of e) c.items.result.now (items (lineages_of e)) are in
    let low = c.requires.number in
    let k = known-item e c.items.result.now are c.args.number _ (omega (arith, many, low)) in
    (k.item_, k.at)

pub returns-in_ok-push : goal.returns-in_ok-push
returns-in_ok-push c =
    let e = c.args.known.props.now in
    let are = subst (λ t. AreItems t c.items.result.now) c.requires.known.refs_ c.items.ensures in
    let many = as-many (nodes_of e) c.items.result.now (items (lineages_of e)) are in
    let low = c.requires.number in
    let k = known-item e c.items.result.now are c.args.number _ (omega (arith, many, low)) in
    c.in_ok-push.ensures.items ∙ ap (λ xs. c.args.list.now.items ++ xs) (ap option_to_list (sym c.in-Some.is) ∙ (c.shown.ensures k.item_ k.at ∙ sym (shown-one e c.args.number k.item_ k.here)))

pub returns-in_default : goal.returns-in_default
returns-in_default c =
    let e = c.args.known.props.now in
    let are = subst (λ t. AreItems t c.items.result.now) c.requires.known.refs_ c.items.ensures in
    let many = as-many (nodes_of e) c.items.result.now (items (lineages_of e)) are in
    let low = c.requires.number in
    let k = known-item e c.items.result.now are c.args.number _ (omega (arith, many, low)) in
    sym (append-nil c.args.list.now.items) ∙ ap (λ xs. c.args.list.now.items ++ xs) (ap option_to_list (sym c.in_default.is) ∙ (c.shown.ensures k.item_ k.at ∙ sym (shown-one e c.args.number k.item_ k.here)))
