use Rattle.std.proofs.Common.{◌∙◌, None, sym, subst}
use Rattle.rdl_values.specs.Lineages.{child_of, lineages_of}
use Rattle.rdl_rules.specs.Fields.{reset_signals}
use Rattle.rdl_reset_rules.specs.Nearest.{IsFirst}
use Rattle.rdl_reset_rules.proofs.Nearing.{by-name, by-place, listed-at}
use Rattle.rdl_reset_rules.proofs.reset.signal_of.Goals as goal

pub returns-in-Some : goal.returns-in-Some
returns-in-Some c = λ l f at here. by-name c.args.refs.now l f c.in-Some.item (c.in-Some.ensures f here)

pub returns-in-None : goal.returns-in-None
returns-in-None c = λ l f at here.
    let e = c.args.refs.now in
    let near = c.requires.nearest.each c.args.register l c.requires.register at in
    subst (IsFirst e (reset_signals e.source.now (lineages_of e) (child_of l f))) (sym (c.outer_of.ensures ∙ listed-at e c.args.nearest.now None c.args.register near.0 near.1)) (by-place e l f near.0 (c.in-None.ensures f here) near.2)
