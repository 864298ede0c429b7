use Rattle.std.proofs.Common.{◌≡◌, ◌∙◌, ◌<◌, ◌≤◌, ◌&&◌, ◌||◌, not, false, length, flat_map, sym, subst, ap, arith}
use Rattle.std.proofs.lemmas.List.{take_all}
use Rattle.rdl_tree.specs.declared.item.Kind.TheVariants as kinds
use Rattle.rdl_tree.specs.declared.node.Node.{out-Node}
use Rattle.rdl_tree.specs.Kinds.{same_kind}
use Rattle.rdl_values.specs.Elaborated.{nodes_of}
use Rattle.rdl_failures.specs.Noted.{with_all}
use Rattle.rdl_layers.specs.Fields.{is_container}
use Rattle.rdl_rules.specs.RegisterRules.{empty_container}
use Rattle.rdl_nodes.proofs.Members.{any-default}
use Rattle.rdl_sizes.proofs.Facts.{node-at, nodes-many, row-at, rows-many}
use Rattle.rdl_sizes.proofs.Turns.{read-at}
use Rattle.rdl_meaning_rules.specs.Filled.{holds_register}
use Rattle.rdl_meaning_rules.proofs.Rows.{container-fails, one-more}
use Rattle.rdl_meaning_rules.proofs.containers.judge_containers.Goals as goal

pub index-requires : goal.index-requires
index-requires c =
    let e = c.requires.0 in
    let many = (c.in_ok-filled.ensures e c.requires.1).many in
    let rows = rows-many e c.args.rows.now c.requires.1 in
    let len = c.in_ok-filled.filled.ok.0 in
    omega (arith, many, rows, len, c.loop-at-test.true)

pub loop-at-preserved : goal.loop-at-preserved
loop-at-preserved c = λ e h.
    let i = c.loop-at.at in
    let r = row-at e c.args.rows.now h i c.index-rows-at.result (read-at c.args.rows.now i c.index-rows-at.result c.loop-at-test.true c.index-rows-at.is) in
    let n = r.0.node in
    let kind = c.is_container.ensures ∙ (λ j. same_kind kinds.Addrmap (r.2.says.kind j) || same_kind kinds.Regfile (r.2.says.kind j)) in
    let low : i < length c.in_ok-filled.filled.items = (let m = (c.in_ok-filled.ensures e h).many in let rows = rows-many e c.args.rows.now h in omega (arith, m, rows, c.loop-at-test.true)) in
    let held = c.index.ensures ∙ (any-default c.in_ok-filled.filled.items i c.index.result.now false low ∙ (c.in_ok-filled.ensures e h).each i r.0 (omega arith) r.1) in
    let fails = container-fails n (c.is_container.result && not c.index.result.now) (out-Node c.index-rows-at.result.node.now).place (sym r.2.says.place) (λ j. kind j && not (held j)) in
    one-more empty_container (nodes_of e) i n c.args.failures.now c.loop-at.failures c.note.new.self (node-at e i r.0 r.1) (c.loop-at.invariant e h) (c.in_ok-note.ensures.put ∙ ap (λ fs. with_all fs c.loop-at.failures) fails)

pub returns : goal.returns
returns c = λ e h.
    let rows = rows-many e c.args.rows.now h in
    let many = nodes-many e in
    c.loop-at.invariant e h ∙ ap (λ ns. with_all (flat_map empty_container ns) c.args.failures.now) (take_all c.loop-at.at (nodes_of e) (omega (arith, rows, many, c.loop-at-test.false)))
