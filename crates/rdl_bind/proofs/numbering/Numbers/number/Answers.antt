use Rattle.std.proofs.Common.{◌≡◌, ◌∙◌, Some, sym, subst, slice_get, arith}
use Rattle.rdl_bind.proofs.ItemNumbers.{always-first, fits, number-is}
use Rattle.rdl_bind.proofs.numbering.Numbers.number.Goals as goal

pub returns-in_default : goal.returns-in_default
returns-in_default c = λ e i clean are is has.
    absurd (always-first e c.args.self.now c.args.item i clean are is has c.deref.result.now c.first_at.result c.deref.ensures.value c.first_at.ensures c.in_default.is)

pub returns-in_default-checked_add : goal.returns-in_default-checked_add
returns-in_default-checked_add c = λ e i clean are is has.
    let at : slice_get c.args.self.now.firsts.items c.args.item.node ≡ Some c.in-Some.first = subst (λ xs. slice_get xs c.args.item.node ≡ Some c.in-Some.first) c.deref.ensures.value (sym c.first_at.ensures ∙ c.in-Some.is) in
    let low = fits e c.args.self.now c.args.item i clean are is has c.in-Some.first c.before-2.result at c.before-2.ensures in
    absurd (omega (arith, low, c.in_default-checked_add.ensures))

pub returns : goal.returns
returns c = λ e i clean are is has.
    let at : slice_get c.args.self.now.firsts.items c.args.item.node ≡ Some c.in-Some.first = subst (λ xs. slice_get xs c.args.item.node ≡ Some c.in-Some.first) c.deref.ensures.value (sym c.first_at.ensures ∙ c.in-Some.is) in
    number-is e c.args.self.now c.args.item i clean are is has c.in-Some.first c.before-2.result at c.before-2.ensures c.in-Some-checked_add.number (omega (arith, c.in-Some-checked_add.ensures))
