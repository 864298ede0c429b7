use Rattle.std.proofs.Common.{◌∙◌, ◌∷◌, [], ◌++◌, map, sym, ap, arith}
use Rattle.std.proofs.lemmas.List.{take_all}
use Rattle.rdl_values.specs.Lineages.{lineages_of}
use Rattle.rdl_sizes.proofs.Facts.{row-at, rows-many}
use Rattle.rdl_sizes.proofs.Turns.{read-at}
use Rattle.rdl_block_numbers.specs.Listed as lists
use Rattle.rdl_block_numbers.proofs.Parents.{map-next}
use Rattle.rdl_block_numbers.proofs.listed.marks.Goals as goal

pub loop-at-preserved : goal.loop-at-preserved
loop-at-preserved c =
    let e = c.args.elab.now in
    let r = row-at e c.args.rows.now c.requires.rows c.loop-at.at c.index-rows-at.result (read-at c.args.rows.now c.loop-at.at c.index-rows-at.result c.loop-at-test.true c.index-rows-at.is) in
    let is = c.is_listed.ensures e c.loop-at.at r.0 c.requires.clean c.requires.rows r.2 in
    c.in_ok-push.ensures.items ∙ ((λ i. c.loop-at.invariant i ++ (is i ∷ [])) ∙ sym (map-next (lists.is_listed c.args.listing) (lineages_of e) c.loop-at.at r.0 r.1))

pub returns : goal.returns
returns c =
    let e = c.args.elab.now in
    let many = rows-many e c.args.rows.now c.requires.rows in
    c.loop-at.invariant ∙ ap (map (lists.is_listed c.args.listing)) (take_all c.loop-at.at (lineages_of e) (omega (arith, many, c.loop-at-test.false)))
