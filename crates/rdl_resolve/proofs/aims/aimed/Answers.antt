use Rattle.std.proofs.Common.{◌∙◌, sym, subst}
use Rattle.rdl_values.specs.Lineages.{lineages_of}
use Rattle.rdl_refs.specs.Leads.{led_to}
use Rattle.rdl_resolve.specs.Led.{IsLed}
use Rattle.rdl_resolve.proofs.Named.{always-row, leads-somewhere, one-led}
use Rattle.rdl_resolve.proofs.aims.aimed.Goals as goal

pub returns-in_default-row_of : goal.returns-in_default-row_of
returns-in_default-row_of c = λ e path scope clean are led.
    let ls = led_to (lineages_of e) path scope in
    absurd (always-row e clean c.args.rows.now are c.in-Some.node ls (subst (λ o. IsLed e o ls) c.in-Some.is led) (sym c.row_of.ensures ∙ c.in_default-row_of.is))

pub returns : goal.returns
returns c = λ e path scope clean are led.
    let ls = led_to (lineages_of e) path scope in
    let one = one-led e c.args.rows.now are c.in-Some.node c.in-Some-row_of.row ls (sym c.row_of.ensures ∙ c.in-Some-row_of.is) (subst (λ o. IsLed e o ls) c.in-Some.is led) in
    leads-somewhere e c.args.prop path c.args.item scope c.args.place c.at_node.result c.in-Some.node one.0 _ one.1 one.2 one.3 c.at_node.ensures.target c.at_node.ensures.fault
