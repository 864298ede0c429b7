use Rattle.std.proofs.Common.{◌≡◌, ◌∙◌, ◌+◌, ◌≤◌, true, cond, length, filter, refl, sym, ap, arith}
use Rattle.std.proofs.lemmas.List.{take_all}
use Rattle.rdl_tree.specs.declared.item.Kind.TheVariants as kinds
use Rattle.rdl_tree.specs.declared.node.Node.{out-Node}
use Rattle.rdl_tree.specs.Kinds.{same_kind}
use Rattle.rdl_values.specs.Elaborated.{nodes_of}
use Rattle.rdl_layers.specs.Fields.{is_a}
use Rattle.rdl_sizes.proofs.Facts.{node-at, nodes-many, row-at, rows-many}
use Rattle.rdl_sizes.proofs.Turns.{read-at}
use Rattle.rdl_meaning_rules.proofs.Rows.{at-most-one, count-next}
use Rattle.rdl_meaning_rules.proofs.counting.count_fields.Goals as goal

pub counted-count-requires : goal.counted-count-requires
counted-count-requires c = let few = c.loop-row.invariant.few in let low = c.loop-row-test.true in omega (arith, few, low)

pub loop-row-preserved : goal.loop-row-preserved
loop-row-preserved c = record {
  few = (let few = c.loop-row.invariant.few in let q = c.counted-count.ensures in let one = at-most-one (same_kind kinds.Field (out-Node c.row-item.result.node.now).kind) in omega (arith, few, q, one));
  counted = λ e h.
      let i = c.loop-row.row-index in
      let r = row-at e c.args.rows.now h i c.row-item.result (read-at c.args.rows.now i c.row-item.result c.loop-row-test.true c.row-item.is) in
      c.counted-count.ensures ∙ ((λ j. c.loop-row.invariant.counted e h j + cond (same_kind kinds.Field (r.2.says.kind j)) 1 0) ∙ sym (count-next (nodes_of e) i r.0.node (is_a kinds.Field r.0.node) (node-at e i r.0 r.1) refl));
}

pub returns : goal.returns
returns c = λ e h.
    let rows = rows-many e c.args.rows.now h in
    let many = nodes-many e in
    c.loop-row.invariant.counted e h ∙ ap (λ ns. length (filter (is_a kinds.Field) ns)) (take_all c.loop-row.row-index (nodes_of e) (omega (arith, rows, many, c.loop-row-test.false)))
