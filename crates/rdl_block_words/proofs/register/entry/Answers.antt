use Rattle.std.proofs.Common.{◌∙◌, ◌∷◌, sym, ap, subst, arith}
use Rattle.rdl_tree.specs.declared.node.Node.{out-Node}
use Rattle.rdl_values.specs.Instances.{Instance, children}
use Rattle.rdl_values.specs.Lineages.{Lineage, lineages_of}
use Rattle.rdl_addr.specs.Bits.{bits_of}
use Rattle.rdl_addr.specs.Rules.{is_read_only, is_write_only}
use Rattle.rdl_sizes.specs.Bodies.{IsBodyOf}
use Rattle.rdl_sizes.proofs.Facts.{count-is, node-at}
use Rattle.rdl_sizes.proofs.Sizing.{all-within}
use Rattle.rdl_fields.specs.Views.{AreViewsOf}
use Rattle.rdl_block_words.specs.Access.{is_read, is_written}
use Rattle.rdl_block_words.proofs.Standing.{body-of, reads-is, spot-node, writes-is}
use Rattle.rdl_block_words.proofs.register.entry.Goals as goal

pub views_in-requires : goal.views_in-requires
views_in-requires c =
    let r = c.requires.row in
    subst (λ m. (x : Lineage) × IsBodyOf m c.args.row.now.node.now x) (sym c.requires.map) (r.0, body-of c.args.props.now c.args.row.now r.0 r.1)

pub shape-shape-requires-clause-register : goal.shape-shape-requires-clause-register
shape-shape-requires-clause-register c =
    let r = c.requires.row in
    (r.0.node, node-at c.args.props.now (out-Node c.args.row.now.node.now).id r.0 r.1.here, r.1.register)

pub register_side-side-requires : goal.register_side-side-requires
register_side-side-requires c =
    let e = c.args.props.now in
    let r = c.requires.row in
    let rs = (out-Node c.args.row.now.node.now).children.now in
    all-within (lineages_of e) (r.0.node ∷ r.0.ancestors) rs rs (children r.0.node) r.1.row.inside e.count (sym (count-is e c.requires.clean))

pub returns : goal.returns
returns c =
    let e = c.args.props.now in
    let r = c.requires.row in
    let k = (out-Node c.args.row.now.node.now).id in
    let rs = (out-Node c.args.row.now.node.now).children.now in
    let n = r.0.node in
    let at = c.shape-shape.ensures in
    let own = sym (spot-node e k n at.spot (node-at e k r.0 r.1.here) at.here) in
    let side = c.register_side-side.ensures n (n ∷ r.0.ancestors) r.1.row.inside in
    let views = subst (λ m. AreViewsOf m c.in_ok-views.views.items (bits_of n)) c.requires.map (c.in_ok-views.ensures r.0 (subst (λ m. IsBodyOf m c.args.row.now.node.now r.0) (sym c.requires.map) (body-of e c.args.row.now r.0 r.1))) in
    record {
      spot = at.spot;
      here = at.here;
      is = record {
        shape_ = at.is;
        fits = at.fits;
        read_only = c.is_read.ensures ∙ (ap is_read side ∙ (reads-is n ∙ ap is_read_only own));
        write_only = c.is_written.ensures ∙ (ap is_written side ∙ (writes-is n ∙ ap is_write_only own));
        views_ = subst (λ (m : Instance). AreViewsOf e c.in_ok-views.views.items (bits_of m)) own views;
        numbers = (let below = c.in_ok-next_view.ensures.below in let long = c.len.ensures in let items = c.in_ok-views.views.ok.0 in let first = at.is.first_view_ in omega (arith, below, long, items, first));
        next = (let is = c.in_ok-next_view.ensures.is in let long = c.len.ensures in let items = c.in_ok-views.views.ok.0 in let first = at.is.first_view_ in omega (arith, is, long, items, first));
      };
    }
