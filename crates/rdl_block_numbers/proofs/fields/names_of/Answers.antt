use Rattle.std.proofs.Common.{◌≡◌, ◌∷◌, subst, arith}
use Rattle.std.specs.Option.{option_or}
use Rattle.rdl_values.specs.Elaborated.{nodes_of}
use Rattle.rdl_sizes.proofs.Facts.{count-is, node-at, row-at, rows-many}
use Rattle.rdl_sizes.proofs.Turns.{read-at}
use Rattle.rdl_block_numbers.specs.Named.{AreNamesTo, named, number_under}
use Rattle.rdl_block_numbers.proofs.Naming.{no-names, one-named}
use Rattle.rdl_block_numbers.proofs.fields.names_of.Goals as goal

pub loop-at-init : goal.loop-at-init
loop-at-init c = no-names c.args.elab.now c.new-names.result c.new-names.ensures

pub loop-at-preserved : goal.loop-at-preserved
loop-at-preserved c =
    let e = c.args.elab.now in
    let r = row-at e c.args.rows.now c.requires.rows c.loop-at.at c.index-rows-at.result (read-at c.args.rows.now c.loop-at.at c.index-rows-at.result c.loop-at-test.true c.index-rows-at.is) in
    one-named e c.loop-at.at r.0.node (node-at e c.loop-at.at r.0 r.1) c.loop-at.names c.add_all.new.self c.loop-at.invariant
    (λ k. subst (λ b. number_under c.add_all.new.self k ≡ option_or (number_under c.loop-at.names k) (named (nodes_of e) b r.0.node k)) r.2.number (c.in_ok-add_all.ensures e (r.0.node ∷ r.0.ancestors) r.0.node c.requires.clean c.requires.own r.2.inside k))

pub returns : goal.returns
returns c =
    let e = c.args.elab.now in
    let many = rows-many e c.args.rows.now c.requires.rows in
    let count = count-is e c.requires.clean in
    let whole : c.loop-at.at ≡ e.count = omega (arith, many, count, c.loop-at.auto.at-end, c.loop-at-test.false) in
    subst (λ k. AreNamesTo e k c.loop-at.names) whole c.loop-at.invariant
