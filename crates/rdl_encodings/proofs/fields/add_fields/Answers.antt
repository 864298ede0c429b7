use Rattle.std.proofs.Common.{◌≡◌, ◌∙◌, ◌++◌, ◌∷◌, [], ◌&&◌, ap, append-nil, append_assoc, arith, cond, filter, not, subst, sym, take, true, false}
use Rattle.rdl_tree.specs.declared.item.Kind.TheVariants as kinds
use Rattle.rdl_tree.specs.declared.node.Node.{out-Node}
use Rattle.rdl_tree.specs.Kinds.{same_kind}
use Rattle.rdl_values.specs.Instances.{children}
use Rattle.rdl_values.specs.Lineages.{lineages_of}
use Rattle.rdl_layers.specs.Fields.{is_a, is_alias}
use Rattle.rdl_sizes.proofs.Turns.{as-many}
use Rattle.rdl_fields.proofs.Lists.{filter-all, filter-next}
use Rattle.rdl_encodings.specs.Numbered.{AreNumbered}
use Rattle.rdl_encodings.proofs.Rows.{child-at, own-all, own-none, tells-alias}
use Rattle.rdl_encodings.proofs.fields.add_fields.Goals as goal

pub returns-then-not-is_register : goal.returns-then-not-is_register
returns-then-not-is_register c = λ e l fs scene at h.
    let other : is_a kinds.Reg l.node ≡ false = ap (same_kind kinds.Reg) (sym at.row.says.kind) ∙ (sym c.is_register.ensures ∙ c.if-not-is_register.true) in
    subst (AreNumbered c.args.numbering.now c.args.enums.now) (own-none l.node fs (ap (λ b. b && not (is_alias l.node)) other)) h

pub returns-then-is_some : goal.returns-then-is_some
returns-then-is_some c = λ e l fs scene at h.
    let register : is_a kinds.Reg l.node ≡ true = ap (same_kind kinds.Reg) (sym at.row.says.kind) ∙ (sym c.is_register.ensures ∙ c.if-not-is_register.false) in
    let alias : is_alias l.node ≡ true = sym (tells-alias e l.node c.primary.result (c.primary.ensures e (out-Node c.args.row.now.node.now).id l scene.clean at.here at.row)) ∙ (sym c.is_some.ensures ∙ c.if-is_some.true) in
    subst (AreNumbered c.args.numbering.now c.args.enums.now) (own-none l.node fs (λ j. register j && not (alias j))) h

pub loop-child-init : goal.loop-child-init
loop-child-init c = λ e n fs scene at h. subst (AreNumbered c.args.numbering.now c.args.enums.now) (sym (append-nil fs)) h

pub loop-child-preserved : goal.loop-child-preserved
loop-child-preserved c = λ e n fs scene at h.
    let i = c.loop-child.child-index in
    let m = child-at e c.args.row.now n at i c.child-item.result c.loop-child-test.true c.child-item.is in
    let front = filter (is_a kinds.Field) (take i (children n.node)) in
    subst (AreNumbered c.add_field.new.numbering c.args.enums.now)
    (append_assoc fs front (cond (is_a kinds.Field m.0) (m.0 ∷ []) []) ∙ ap (λ xs. fs ++ xs) (sym (filter-next (is_a kinds.Field) (children n.node) i m.0 m.1)))
    (c.in_ok-add_field.ensures e m.0 (fs ++ front) scene m.2.here m.2.kind_ (c.loop-child.invariant e n fs scene at h))

pub returns : goal.returns
returns c = λ e l fs scene at h.
    let rs = (out-Node c.args.row.now.node.now).children.now in
    let many = as-many (lineages_of e) (l.node ∷ l.ancestors) rs rs (children l.node) at.row.inside in
    let register : is_a kinds.Reg l.node ≡ true = ap (same_kind kinds.Reg) (sym at.row.says.kind) ∙ (sym c.is_register.ensures ∙ c.if-not-is_register.false) in
    let own : is_alias l.node ≡ false = sym (tells-alias e l.node c.primary.result (c.primary.ensures e (out-Node c.args.row.now.node.now).id l scene.clean at.here at.row)) ∙ (sym c.is_some.ensures ∙ c.if-is_some.false) in
    let all = filter-all (is_a kinds.Field) (children l.node) c.loop-child.child-index (omega (arith, many, c.loop-child-test.false)) ∙ own-all l.node (λ j. register j && not (own j)) in
    subst (λ xs. AreNumbered c.loop-child.numbering c.args.enums.now (fs ++ xs)) all (c.loop-child.invariant e l fs scene at h)
