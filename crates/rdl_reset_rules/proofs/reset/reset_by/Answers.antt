use Rattle.std.proofs.Common.{◌≡◌, Some, slice_get, subst}
use Rattle.rdl_props.specs.declared.prop.Prop.TheVariants as prop
use Rattle.rdl_tree.specs.declared.node.Elab.{Elab}
use Rattle.rdl_values.specs.Elaborated.{nodes_of, top_name}
use Rattle.rdl_values.specs.Instances.{Instance}
use Rattle.rdl_values.specs.Lineages.{Lineage, child_of, lineages_of}
use Rattle.rdl_layers.specs.Settings.{setting}
use Rattle.rdl_rules.specs.Fields.{reset_signals}
use Rattle.rdl_sizes.proofs.Facts.{node-at}
use Rattle.rdl_reset_rules.specs.Nearest.{IsFirst}
use Rattle.rdl_reset_rules.proofs.Nearing.{all-signals, node-here}
use Rattle.rdl_reset_rules.proofs.reset.reset_by.Goals as goal

pub resets-requires-clause-signal : goal.resets-requires-clause-signal
resets-requires-clause-signal c =
    let e = c.args.props.now in
    let l = node-here e c.requires.clean c.args.register c.requires.register in
    let f = node-here e c.requires.clean c.args.node c.requires.node in
    let here = node-at e c.args.node f.0 f.1 in
    let first = subst (λ (m : Elab). (x : Lineage) (n : Instance) → slice_get (lineages_of m) c.args.register ≡ Some x → slice_get (nodes_of m) c.args.node ≡ Some n → IsFirst m (reset_signals m.source.now (lineages_of m) (child_of x n)) c.signal_of-signal.result) c.requires.refs c.signal_of-signal.ensures in
    (reset_signals e.source.now (lineages_of e) (child_of l.0 f.0.node), first l.0 f.0.node l.1 here, all-signals e c.requires.bound c.args.node l.0 f.0.node here (c.one_target.ensures.item (Some (top_name e)) e.source.now (setting f.0.node prop.Resetsignal)))

pub returns : goal.returns
returns c = λ l f at here.
    let e = c.args.props.now in
    let first = subst (λ (m : Elab). (x : Lineage) (n : Instance) → slice_get (lineages_of m) c.args.register ≡ Some x → slice_get (nodes_of m) c.args.node ≡ Some n → IsFirst m (reset_signals m.source.now (lineages_of m) (child_of x n)) c.signal_of-signal.result) c.requires.refs c.signal_of-signal.ensures in
    c.resets.ensures (reset_signals e.source.now (lineages_of e) (child_of l f)) (first l f at here) (all-signals e c.requires.bound c.args.node l f here (c.one_target.ensures.item (Some (top_name e)) e.source.now (setting f prop.Resetsignal)))
