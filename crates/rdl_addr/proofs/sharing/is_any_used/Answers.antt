use Rattle.std.proofs.Common.{◌≡◌, ◌∙◌, Bool, true, false, ◌&&◌, filter, refl, sym, ap, arith}
use Rattle.std.specs.List.{list_any}
use Rattle.plain_lemmas.proofs.Lists.{take-all as take-whole}
use Rattle.rdl_tree.specs.Kinds.{same_kind}
use Rattle.rdl_tree.specs.declared.item.Kind.TheVariants as kind
use Rattle.rdl_values.specs.Instances.{children}
use Rattle.rdl_layers.specs.Fields.{is_a}
use Rattle.rdl_addr.specs.Uses.{used}
use Rattle.rdl_addr.proofs.FieldUses.{as-many, inside-at, is-used, not-used}
use Rattle.rdl_addr.proofs.sharing.is_any_used.Goals as goal
use Rattle.rdl_addr.proofs.sharing.is_any_used.Goals.{else-is_field-via-then-is_field+else-is_used, else-is_field-via-else-is_field}

pub returns-then-is_used : goal.returns-then-is_used
returns-then-is_used c = λ n above h.
    let at = inside-at c.args.props.now above c.args.nodes.now c.args.nodes.now (children n) c.loop-node.node-index c.node-item.result h c.loop-node-test.true c.node-item.is in
    let field : is_a kind.Field at.instance ≡ true = ap (same_kind kind.Field) (sym at.kind_is) ∙ (sym c.is_field.ensures ∙ c.if-is_field.true) in
    let some : used c.args.how at.instance ≡ true = sym (c.is_used.ensures at.instance at.here) ∙ c.if-is_used.true in
    sym (is-used (used c.args.how) (children n) c.loop-node.node-index at.instance at.more field some)

and-none : (a b : Bool) → a ≡ false → a && b ≡ false
and-none true b e = absurd (cc e)
and-none false b e = refl

and-false : (a b : Bool) → b ≡ false → a && b ≡ false
and-false true b e = e
and-false false b e = refl

pub loop-node-preserved : goal.loop-node-preserved
loop-node-preserved c = λ n above h.
    let at = inside-at c.args.props.now above c.args.nodes.now c.args.nodes.now (children n) c.loop-node.node-index c.node-item.result h c.loop-node-test.true c.node-item.is in
    let nothing : same_kind kind.Field _ && used c.args.how at.instance ≡ false = elim c.else-is_field.branch [
      | else-is_field-via-then-is_field+else-is_used w ↦ and-false (same_kind kind.Field _) (used c.args.how at.instance) (sym (w.is_used.ensures at.instance at.here) ∙ w.if-is_used.false)
      | else-is_field-via-else-is_field w ↦ and-none (same_kind kind.Field _) (used c.args.how at.instance) (ap (same_kind kind.Field) (sym at.kind_is) ∙ (sym c.is_field.ensures ∙ w.if-is_field.false))
    ] in
    not-used (used c.args.how) (children n) c.loop-node.node-index at.instance at.more nothing (c.loop-node.invariant n above h)

pub returns : goal.returns
returns c = λ n above h.
    let all = as-many c.args.props.now above c.args.nodes.now c.args.nodes.now (children n) h in
    let past = c.loop-node-test.false in
    sym (ap (λ t. list_any (used c.args.how) (filter (is_a kind.Field) t)) (sym (take-whole (children n) c.loop-node.node-index (omega (arith, all, past)))) ∙ c.loop-node.invariant n above h)
