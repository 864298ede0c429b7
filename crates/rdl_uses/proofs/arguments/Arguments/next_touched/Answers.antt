use Rattle.std.proofs.Common.{ℕ, ◌<◌, ◌≤◌, ◌||◌, arith, sym, subst}
use Rattle.rdl_values.specs.Places.{IsNextPlace, has_place}
use Rattle.rdl_uses.specs.Arguments.{IsNextTouched}
use Rattle.rdl_uses.proofs.Touching.{is_plain}
use Rattle.rdl_uses.proofs.arguments.Arguments.next_touched.Goals as goal

before : {k at upto : ℕ} → k < at → at < upto → k < upto
before l m = omega (arith, l, m)

within : {k at upto : ℕ} → k < upto → upto ≤ at → k < at
within l m = omega (arith, l, m)

pub returns-in_err-at-clause-next : goal.returns-in_err-at-clause-next
returns-in_err-at-clause-next c = λ ps args are kept apart.
    let a = c.args.self.now in
    let d = c.args.defaults.now in
    let due = c.args.due.now in
    let known = c.first_of-known.ensures (has_place a.given) (has_place d.needed) c.args.from c.next.ensures c.next_needed.ensures in
    let none = c.in_err-at.ensures (λ k. has_place a.given k || has_place d.needed k) (has_place due) c.args.from known c.next-2.ensures in
    subst (IsNextTouched args ps due c.args.from c.args.upto) (sym c.from_residual.ensures) (λ k p l m here. is_plain a d due ps args c.args.upto k p are kept apart m here (none k l))

pub returns-then-at-upto-clause-within : goal.returns-then-at-upto-clause-within
returns-then-at-upto-clause-within c =
    let a = c.args.self.now in
    let d = c.args.defaults.now in
    let known = c.first_of-known.ensures (has_place a.given) (has_place d.needed) c.args.from c.next.ensures c.next_needed.ensures in
    let next = c.in_ok-at.ensures (λ k. has_place a.given k || has_place d.needed k) (has_place c.args.due.now) c.args.from known c.next-2.ensures in
    (next.0, c.if-at-upto.true)

pub returns-then-at-upto-clause-next : goal.returns-then-at-upto-clause-next
returns-then-at-upto-clause-next c = λ ps args are kept apart k p l m here.
    let a = c.args.self.now in
    let d = c.args.defaults.now in
    let due = c.args.due.now in
    let known = c.first_of-known.ensures (has_place a.given) (has_place d.needed) c.args.from c.next.ensures c.next_needed.ensures in
    let next = c.in_ok-at.ensures (λ k. has_place a.given k || has_place d.needed k) (has_place due) c.args.from known c.next-2.ensures in
    is_plain a d due ps args c.args.upto k p are kept apart (before m c.if-at-upto.true) here (next.2 k l m)

pub returns-else-at-upto-clause-next : goal.returns-else-at-upto-clause-next
returns-else-at-upto-clause-next c = λ ps args are kept apart k p l m here.
    let a = c.args.self.now in
    let d = c.args.defaults.now in
    let due = c.args.due.now in
    let known = c.first_of-known.ensures (has_place a.given) (has_place d.needed) c.args.from c.next.ensures c.next_needed.ensures in
    let next = c.in_ok-at.ensures (λ k. has_place a.given k || has_place d.needed k) (has_place due) c.args.from known c.next-2.ensures in
    is_plain a d due ps args c.args.upto k p are kept apart m here (next.2 k l (within m c.if-at-upto.false))
