use Rattle.std.proofs.Common.{◌≡◌, ◌∙◌, ◌<◌, true, false, length, sym, ap, subst, arith}
use Rattle.rdl_tree.specs.declared.item.Kind.TheVariants as kinds
use Rattle.rdl_tree.specs.Kinds.{same_kind}
use Rattle.rdl_values.specs.Lineages.{Lineage, lineages_of}
use Rattle.rdl_layers.specs.Fields.{is_a, is_alias}
use Rattle.rdl_nodes.specs.Rows.{IsParent}
use Rattle.rdl_nodes.proofs.Members.{get-within}
use Rattle.rdl_sizes.proofs.Facts.{row-at, rows-many}
use Rattle.rdl_sizes.proofs.Turns.{read-at}
use Rattle.rdl_ref_items.proofs.Items.{alias-itself, alias-no-field, alias-no-parent, alias-parent, item-below, known-row, no-parent, same-lineage}
use Rattle.rdl_ref_items.proofs.aliased.is_in_alias.Goals as goal

pub bounds-rows-item : goal.bounds-rows-item
bounds-rows-item c =
    let low = item-below c.requires.0 c.requires.3.0 c.args.item c.requires.3.1 in
    let many = rows-many c.requires.0 c.args.rows.now c.requires.2 in
    omega (arith, low, many)

pub returns-then-is_alias : goal.returns-then-is_alias
returns-then-is_alias c = λ e i clean rows h.
    let r = known-row e c.args.rows.now rows i c.args.item h c.index-rows-item.result c.index-rows-item.is in
    alias-itself i (sym (c.is_alias.ensures e c.args.item.node _ clean h.here r) ∙ c.if-is_alias.true)

pub returns-then-not-is_field : goal.returns-then-not-is_field
returns-then-not-is_field c = λ e i clean rows h.
    let r = known-row e c.args.rows.now rows i c.args.item h c.index-rows-item.result c.index-rows-item.is in
    let none : is_a kinds.Field i.node ≡ false = ap (same_kind kinds.Field) (sym r.says.kind) ∙ (sym c.is_field.ensures ∙ c.if-not-is_field.true) in
    alias-no-field i (sym (c.is_alias.ensures e c.args.item.node _ clean h.here r) ∙ c.if-is_alias.false) none

pub returns-in_default : goal.returns-in_default
returns-in_default c = λ e i clean rows h.
    let r = known-row e c.args.rows.now rows i c.args.item h c.index-rows-item.result c.index-rows-item.is in
    alias-no-parent i (sym (c.is_alias.ensures e c.args.item.node _ clean h.here r) ∙ c.if-is_alias.false) (no-parent (lineages_of e) c.index-rows-item.result.parent i.ancestors c.in_default.not-Some r.parent)

pub bounds-rows-parent : goal.bounds-rows-parent
bounds-rows-parent c =
    let e = c.requires.0 in
    let r = known-row e c.args.rows.now c.requires.2 c.requires.3.0 c.args.item c.requires.3.1 c.index-rows-item.result c.index-rows-item.is in
    let p = subst (λ o. IsParent (lineages_of e) o c.requires.3.0.ancestors) c.in-Some.is r.parent in
    let low = get-within (lineages_of e) c.in-Some.parent p.0 p.1 in
    let many = rows-many e c.args.rows.now c.requires.2 in
    omega (arith, low, many)

pub returns : goal.returns
returns c = λ e i clean rows h.
    let r = known-row e c.args.rows.now rows i c.args.item h c.index-rows-item.result c.index-rows-item.is in
    let field : is_a kinds.Field i.node ≡ true = ap (same_kind kinds.Field) (sym r.says.kind) ∙ (sym c.is_field.ensures ∙ c.if-not-is_field.false) in
    let p = subst (λ o. IsParent (lineages_of e) o i.ancestors) c.in-Some.is r.parent in
    let low : c.in-Some.parent < length c.args.rows.now = (let l = get-within (lineages_of e) c.in-Some.parent p.0 p.1 in let many = rows-many e c.args.rows.now rows in omega (arith, l, many)) in
    let q = row-at e c.args.rows.now rows c.in-Some.parent c.index-rows-parent.result (read-at c.args.rows.now c.in-Some.parent c.index-rows-parent.result low c.index-rows-parent.is) in
    let same = same-lineage e c.in-Some.parent q.0 p.0 q.1 p.1 in
    alias-parent i p.0.node p.0.ancestors c.is_alias-2.result (sym (c.is_alias.ensures e c.args.item.node _ clean h.here r) ∙ c.if-is_alias.false) field p.2
    (c.is_alias-2.ensures e c.in-Some.parent q.0 clean q.1 q.2 ∙ ap (λ (l : Lineage). is_alias l.node) same)
