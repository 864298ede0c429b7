use Rattle.std.proofs.Common.{◌≡◌, ◌∙◌, ap, arith, flat_map, subst, sym, take}
use Rattle.std.proofs.lemmas.List.{take_all}
use Rattle.rdl_values.specs.Elaborated.{nodes_of}
use Rattle.rdl_rules.specs.Numbers.{all_fields}
use Rattle.rdl_sizes.proofs.Facts.{count-is, nodes-many, rows-many}
use Rattle.rdl_encodings.specs.Numbered.{AreNumbered}
use Rattle.rdl_encodings.specs.Encoded.{encodings_of}
use Rattle.rdl_encodings.specs.Standing.{IsScene, own_fields}
use Rattle.rdl_encodings.proofs.Rows.{all-own, flat-next, row-of}
use Rattle.rdl_encodings.proofs.fields.encodings_of.Goals as goal

pub loop-row-init : goal.loop-row-init
loop-row-init c = λ e clean rows open_ told. c.new-numbering.ensures c.in_ok-enums.enums

pub loop-row-preserved : goal.loop-row-preserved
loop-row-preserved c = λ e clean rows open_ told.
    let i = c.loop-row.row-index in
    let r = row-of e c.args.rows.now rows i c.row-item.result c.loop-row-test.true c.row-item.is in
    let many = rows-many e c.args.rows.now rows in
    let count = count-is e clean in
    let long = c.requires in
    let scene : IsScene e c.args.tree.now c.in_ok-enums.enums c.args.entries.now = record { clean = clean; open_ = open_; told = told; all_nodes = omega (arith, many, count, long); serves = c.in_ok-enums.ensures } in
    subst (AreNumbered c.add_fields.new.numbering c.in_ok-enums.enums) (sym (flat-next own_fields (nodes_of e) i r.0.node r.1))
    (c.in_ok-add_fields.ensures e r.0 (flat_map own_fields (take i (nodes_of e))) scene r.2 (c.loop-row.invariant e clean rows open_ told))

pub returns : goal.returns
returns c = λ e clean rows open_ told.
    let i = c.loop-row.row-index in
    let many = rows-many e c.args.rows.now rows in
    let nodes = nodes-many e in
    let all : flat_map own_fields (take i (nodes_of e)) ≡ all_fields (nodes_of e) = ap (flat_map own_fields) (take_all i (nodes_of e) (omega (arith, many, nodes, c.loop-row-test.false))) ∙ all-own (nodes_of e) in
    c.into_encodings.ensures c.in_ok-enums.enums (flat_map own_fields (take i (nodes_of e))) (c.loop-row.invariant e clean rows open_ told) ∙ ap encodings_of all
