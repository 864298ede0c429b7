use Rattle.std.proofs.Common.{◌≡◌, length, sym, subst, arith}
use Rattle.rdl_tree.specs.declared.node.Node.{out-Node}
use Rattle.rdl_values.specs.Lineages.{lineages_of}
use Rattle.rdl_refs.specs.Items.{whats}
use Rattle.rdl_bind.specs.Places.{Adds}
use Rattle.rdl_sizes.proofs.Facts.{row-at, rows-many}
use Rattle.rdl_sizes.proofs.Turns.{read-at}
use Rattle.rdl_bind.proofs.Growing.{all-nodes, one-row}
use Rattle.rdl_bind.proofs.numbering.item_numbers.Goals as goal

pub loop-at-preserved : goal.loop-at-preserved
loop-at-preserved c =
    let e = c.args.elab.now in
    let node = out-Node c.index-rows-at.result.node.now in
    let r = row-at e c.args.rows.now c.requires.rows c.loop-at.at c.index-rows-at.result (read-at c.args.rows.now c.loop-at.at c.index-rows-at.result c.loop-at-test.true c.index-rows-at.is) in
    one-row e c.loop-at.at node.id r.0 r.1 r.2.number node.kind node.place r.2.says.kind r.2.says.place c.in_ok-first.first c.loop-at.items.items c.add_items.new.items.items c.loop-at.places.items c.add_items.new.places.items c.loop-at.firsts.items c.push.new.self.items c.loop-at.invariant
    (omega (arith, c.in_ok-first.ensures.is, c.len.ensures, c.loop-at.items.ok.0)) c.in_ok-push.ensures.items
    (subst (λ x. Adds (out-Node x.node.now).id (whats (out-Node x.node.now).kind) (out-Node x.node.now).place c.loop-at.items.items c.add_items.new.items.items c.loop-at.places.items c.add_items.new.places.items) (sym c.index-rows-at.is) c.in_ok-add_items.ensures)

pub returns : goal.returns
returns c =
    let e = c.args.elab.now in
    let rows = rows-many e c.args.rows.now c.requires.rows in
    let whole : c.loop-at.at ≡ length (lineages_of e) = omega (arith, rows, c.loop-at.auto.at-end, c.loop-at-test.false) in
    all-nodes e c.requires.clean (record { items = c.loop-at.items; places = c.loop-at.places; firsts = c.loop-at.firsts }) c.loop-at.at whole c.loop-at.invariant (omega (arith, c.in_ok-small.ensures.below, c.len-2.ensures, c.loop-at.items.ok.0))
