use Rattle.std.proofs.Common.{◌∙◌, ◌∷◌, refl, sym, ap, subst, arith}
use Rattle.std.proofs.lemmas.Result.{on_ok_weaker}
use Rattle.rdl_values.specs.Lineages.{lineages_of}
use Rattle.rdl_sizes.proofs.Facts.{rows-many}
use Rattle.rdl_refs.specs.Follows.{value_of}
use Rattle.rdl_bind.specs.Given.{NameItems}
use Rattle.rdl_bind.proofs.Items.{is-a-unit, is_of_field, made-anded, made-decr, made-halt, made-incr, made-intr, made-ored, made-over, made-under, made-value, made-xored, node-counted, node-here, node-low, row-inside, these-numbers}
use Rattle.rdl_bind.proofs.made.add_made.Goals as goal

pub add_value-requires-clause-node : goal.add_value-requires-clause-node
add_value-requires-clause-node c =
    let e = c.args.known.props.now in
    let i = c.requires.item in
    (i.0.node, node-here e i.0 c.args.item i.1, is-a-unit e i.0 c.args.item i.1 (ap is_of_field c.in-Anded.is))

pub add_value-requires-in-Ored-clause-node : goal.add_value-requires-in-Ored-clause-node
add_value-requires-in-Ored-clause-node c =
    let e = c.args.known.props.now in
    let i = c.requires.item in
    (i.0.node, node-here e i.0 c.args.item i.1, is-a-unit e i.0 c.args.item i.1 (ap is_of_field c.in-Ored.is))

pub add_value-requires-in-Xored-clause-node : goal.add_value-requires-in-Xored-clause-node
add_value-requires-in-Xored-clause-node c =
    let e = c.args.known.props.now in
    let i = c.requires.item in
    (i.0.node, node-here e i.0 c.args.item i.1, is-a-unit e i.0 c.args.item i.1 (ap is_of_field c.in-Xored.is))

pub add_with-requires-clause-node : goal.add_with-requires-clause-node
add_with-requires-clause-node c =
    let e = c.args.known.props.now in
    let i = c.requires.item in
    (i.0.node, node-here e i.0 c.args.item i.1, is-a-unit e i.0 c.args.item i.1 (ap is_of_field c.in-IncrThreshold.is))

pub add_with-requires-in-DecrThreshold-clause-node : goal.add_with-requires-in-DecrThreshold-clause-node
add_with-requires-in-DecrThreshold-clause-node c =
    let e = c.args.known.props.now in
    let i = c.requires.item in
    (i.0.node, node-here e i.0 c.args.item i.1, is-a-unit e i.0 c.args.item i.1 (ap is_of_field c.in-DecrThreshold.is))

pub targets_of-requires : goal.targets_of-requires
targets_of-requires c =
    let e = c.args.known.props.now in
    let i = c.requires.item in
    let low = node-counted e c.requires.known.clean c.args.item.node i.0.node (node-here e i.0 c.args.item i.1) in
    let many = c.requires.known.sized in
    omega (arith, low, many)

pub targets_of-requires-in-Underflow : goal.targets_of-requires-in-Underflow
targets_of-requires-in-Underflow c =
    let e = c.args.known.props.now in
    let i = c.requires.item in
    let low = node-counted e c.requires.known.clean c.args.item.node i.0.node (node-here e i.0 c.args.item i.1) in
    let many = c.requires.known.sized in
    omega (arith, low, many)

pub bounds-known-node : goal.bounds-known-node
bounds-known-node c =
    let e = c.args.known.props.now in
    let low = node-low e c.requires.item.0 c.args.item c.requires.item.1 in
    let many = rows-many e c.args.known.rows.now c.requires.known.rows_ in
    omega (arith, low, many)

pub bounds-known-node-in-Halt : goal.bounds-known-node-in-Halt
bounds-known-node-in-Halt c =
    let e = c.args.known.props.now in
    let low = node-low e c.requires.item.0 c.args.item c.requires.item.1 in
    let many = rows-many e c.args.known.rows.now c.requires.known.rows_ in
    omega (arith, low, many)

pub add_fields-requires-clause-nodes : goal.add_fields-requires-clause-nodes
add_fields-requires-clause-nodes c =
    let e = c.args.known.props.now in
    let i = c.requires.item in
    (i.0.node, i.0.node ∷ i.0.ancestors, row-inside e c.args.known.rows.now c.requires.known.rows_ i.0 c.args.item i.1 c.index-known-node.result c.index-known-node.is)

pub add_fields-requires-in-Halt-clause-nodes : goal.add_fields-requires-in-Halt-clause-nodes
add_fields-requires-in-Halt-clause-nodes c =
    let e = c.args.known.props.now in
    let i = c.requires.item in
    (i.0.node, i.0.node ∷ i.0.ancestors, row-inside e c.args.known.rows.now c.requires.known.rows_ i.0 c.args.item i.1 c.index-known-node-in-Halt.result c.index-known-node-in-Halt.is)

pub returns-in-Value : goal.returns-in-Value
returns-in-Value c =
    on_ok_weaker c.add_wire.result (λ h i is out. these-numbers c.args.known.props.now _ _ c.args.list.now.items c.add_wire.new.list.items (made-value (lineages_of c.args.known.props.now) i (sym is.what_ ∙ c.in-Value.is)) (h i is out)) c.add_wire.ensures

pub returns-in-Anded : goal.returns-in-Anded
returns-in-Anded c =
    on_ok_weaker c.add_value.result (λ h i is out. these-numbers c.args.known.props.now _ _ c.args.list.now.items c.add_value.new.list.items (made-anded (lineages_of c.args.known.props.now) i (sym is.what_ ∙ c.in-Anded.is)) (h (value_of i) (node-here c.args.known.props.now i c.args.item is) refl)) c.add_value.ensures

pub returns-in-Ored : goal.returns-in-Ored
returns-in-Ored c =
    on_ok_weaker c.add_value-in-Ored.result (λ h i is out. these-numbers c.args.known.props.now _ _ c.args.list.now.items c.add_value-in-Ored.new.list.items (made-ored (lineages_of c.args.known.props.now) i (sym is.what_ ∙ c.in-Ored.is)) (h (value_of i) (node-here c.args.known.props.now i c.args.item is) refl)) c.add_value-in-Ored.ensures

pub returns-in-Xored : goal.returns-in-Xored
returns-in-Xored c =
    on_ok_weaker c.add_value-in-Xored.result (λ h i is out. these-numbers c.args.known.props.now _ _ c.args.list.now.items c.add_value-in-Xored.new.list.items (made-xored (lineages_of c.args.known.props.now) i (sym is.what_ ∙ c.in-Xored.is)) (h (value_of i) (node-here c.args.known.props.now i c.args.item is) refl)) c.add_value-in-Xored.ensures

pub returns-in-IncrThreshold : goal.returns-in-IncrThreshold
returns-in-IncrThreshold c =
    on_ok_weaker c.add_with.result (λ h i is out. these-numbers c.args.known.props.now _ _ c.args.list.now.items c.add_with.new.list.items (made-incr (lineages_of c.args.known.props.now) i (sym is.what_ ∙ c.in-IncrThreshold.is)) (h (value_of i) (node-here c.args.known.props.now i c.args.item is) refl)) c.add_with.ensures

pub returns-in-DecrThreshold : goal.returns-in-DecrThreshold
returns-in-DecrThreshold c =
    on_ok_weaker c.add_with-in-DecrThreshold.result (λ h i is out. these-numbers c.args.known.props.now _ _ c.args.list.now.items c.add_with-in-DecrThreshold.new.list.items (made-decr (lineages_of c.args.known.props.now) i (sym is.what_ ∙ c.in-DecrThreshold.is)) (h (value_of i) (node-here c.args.known.props.now i c.args.item is) refl)) c.add_with-in-DecrThreshold.ensures

pub returns-in-Overflow : goal.returns-in-Overflow
returns-in-Overflow c =
    on_ok_weaker c.add_given.result (λ h i is out.
    let e = c.args.known.props.now in
    let here = node-here e i c.args.item is in
    let low = node-counted e c.requires.known.clean c.args.item.node i.node here in
    let names = subst (NameItems e c.args.item.node) (sym c.targets_of.ensures) (c.requires.known.named c.args.item.node low) in
    these-numbers e _ _ c.args.list.now.items c.add_given.new.list.items (made-over (lineages_of e) i (sym is.what_ ∙ c.in-Overflow.is)) (h e c.args.item.node i.node here names)) c.add_given.ensures

pub returns-in-Underflow : goal.returns-in-Underflow
returns-in-Underflow c =
    on_ok_weaker c.add_given-in-Underflow.result (λ h i is out.
    let e = c.args.known.props.now in
    let here = node-here e i c.args.item is in
    let low = node-counted e c.requires.known.clean c.args.item.node i.node here in
    let names = subst (NameItems e c.args.item.node) (sym c.targets_of-in-Underflow.ensures) (c.requires.known.named c.args.item.node low) in
    these-numbers e _ _ c.args.list.now.items c.add_given-in-Underflow.new.list.items (made-under (lineages_of e) i (sym is.what_ ∙ c.in-Underflow.is)) (h e c.args.item.node i.node here names)) c.add_given-in-Underflow.ensures

pub returns-in-Intr : goal.returns-in-Intr
returns-in-Intr c =
    on_ok_weaker c.add_fields.result (λ h i is out.
    let e = c.args.known.props.now in
    these-numbers e _ _ c.args.list.now.items c.add_fields.new.list.items (made-intr (lineages_of e) i (sym is.what_ ∙ c.in-Intr.is)) (h i (i.node ∷ i.ancestors) (row-inside e c.args.known.rows.now c.requires.known.rows_ i c.args.item is c.index-known-node.result c.index-known-node.is))) c.add_fields.ensures

pub returns-in-Halt : goal.returns-in-Halt
returns-in-Halt c =
    on_ok_weaker c.add_fields-in-Halt.result (λ h i is out.
    let e = c.args.known.props.now in
    these-numbers e _ _ c.args.list.now.items c.add_fields-in-Halt.new.list.items (made-halt (lineages_of e) i (sym is.what_ ∙ c.in-Halt.is)) (h i (i.node ∷ i.ancestors) (row-inside e c.args.known.rows.now c.requires.known.rows_ i c.args.item is c.index-known-node-in-Halt.result c.index-known-node-in-Halt.is))) c.add_fields-in-Halt.ensures
