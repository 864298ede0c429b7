use Rattle.std.proofs.Common.{◌≡◌, None, Some, refl, ap, sym, ◌∙◌, arith, slice_get}
use Rattle.rdl_tree.specs.Tree.{operator_of, level}
use Rattle.rdl_expressions.proofs.Operators.{loose_end, loose_at}
use Rattle.rdl_expressions.proofs.parser.Parser.operator.Goals as goal

pub returns-in_err-next : goal.returns-in_err-next
returns-in_err-next c =
    let v = c.in_err-next.ensures.value in
    let next : None ≡ slice_get c.args.self.now 0 = cc (v, c.self.view_is) in
    rw c.from_residual.ensures (refl, loose_end c.args.least c.args.self.now next)

pub returns-in_default : goal.returns-in_default
returns-in_default c =
    let v = c.in_ok-next.ensures.value in
    let next : Some c.token-first.result ≡ slice_get c.args.self.now 0 = cc (v, c.self.view_is, c.token-first.ensures) in
    (refl, loose_at c.args.least c.args.self.now c.token-first.result next (λ m o k f l. c.in_default.not-Mark m k))

pub returns-in_err-op : goal.returns-in_err-op
returns-in_err-op c =
    let v = c.in_ok-next.ensures.value in
    let next : Some c.token-first.result ≡ slice_get c.args.self.now 0 = cc (v, c.self.view_is, c.token-first.ensures) in
    rw c.from_residual-in_err-op.ensures (
      refl,
      loose_at c.args.least c.args.self.now c.token-first.result next (λ m o k f l.
          let none : operator_of c.in-Mark.mark ≡ None = sym c.operator_of.ensures ∙ c.in_err-op.was in
          let same : c.in-Mark.mark ≡ m = cc in
          cc),
    )

pub returns-then-level-least : goal.returns-then-level-least
returns-then-level-least c =
    let v = c.in_ok-next.ensures.value in
    let next : Some c.token-first.result ≡ slice_get c.args.self.now 0 = cc (v, c.self.view_is, c.token-first.ensures) in (
      refl,
      loose_at c.args.least c.args.self.now c.token-first.result next (λ m o k f l.
          let some : operator_of c.in-Mark.mark ≡ Some c.in_ok-op.op = sym c.operator_of.ensures ∙ c.in_ok-op.was in
          let same : c.in-Mark.mark ≡ m = cc in
          let one : c.in_ok-op.op ≡ o = cc in
          omega (arith, c.if-level-least.true, c.level.ensures.is, ap level one, l)),
    )
