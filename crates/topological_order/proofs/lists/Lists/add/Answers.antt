use Rattle.std.proofs.Common.{◌≡◌, ◌++◌, ◌∷◌, [], OnErr, Result, Ok, Err, List, ℕ, length, take, ap, subst, sym, ◌∙◌, arith}
use Rattle.topological_order.specs.Lists.{AreEnds, cut, start_at}
use Rattle.topological_order.proofs.Cuts.{cut-added, cut-kept, ends-added, ends-kept}
use Rattle.topological_order.proofs.lists.Lists.add.Goals as goal

-- what is left in front of the new numbers
front-is : (ends numbers taken seen : List ℕ) (at start : ℕ) → seen ≡ ends → at ≡ length ends → start ≡ start_at 0 seen at → taken ≡ take start numbers → taken ≡ take (start_at 0 ends (length ends)) numbers
front-is ends numbers taken seen at start s a i t = t ∙ ap (λ n. take n numbers) (i ∙ (ap (λ es. start_at 0 es at) s ∙ ap (start_at 0 ends) a))

on_err : {T E P : Type 0} (r : Result T E) → P → OnErr r P
on_err (Ok x) p = tt
on_err (Err e) p = p

pub invariant_of-self : goal.invariant_of-self
invariant_of-self c =
    ends-kept c.self.inside.ends.items c.self.inside.numbers.items c.truncate.new.self.items c.add_all.ensures.more.0 c.add_all.new.numbers.items c.self.invariant
    (front-is c.self.inside.ends.items c.self.inside.numbers.items c.truncate.new.self.items c.deref.result.now c.len.result c.start_of-start.result c.deref.ensures.value (let d = c.self.inside.ends.ok.0 in omega (arith, d, c.len.ensures)) c.start_of-start.ensures c.truncate.ensures.items) c.add_all.ensures.more.1

pub returns-in_err-add_all-clause-err : goal.returns-in_err-add_all-clause-err
returns-in_err-add_all-clause-err c =
    on_err c.from_residual.result (cut-kept c.self.inside.ends.items c.self.inside.numbers.items c.truncate.new.self.items c.add_all.ensures.more.0 c.add_all.new.numbers.items c.self.invariant
    (front-is c.self.inside.ends.items c.self.inside.numbers.items c.truncate.new.self.items c.deref.result.now c.len.result c.start_of-start.result c.deref.ensures.value (let d = c.self.inside.ends.ok.0 in omega (arith, d, c.len.ensures)) c.start_of-start.ensures c.truncate.ensures.items) c.add_all.ensures.more.1 ∙ c.self.view_is)

pub invariant_of-self-in_default : goal.invariant_of-self-in_default
invariant_of-self-in_default c =
    ends-kept c.self.inside.ends.items c.self.inside.numbers.items c.truncate.new.self.items c.add_all.ensures.more.0 c.add_all.new.numbers.items c.self.invariant
    (front-is c.self.inside.ends.items c.self.inside.numbers.items c.truncate.new.self.items c.deref.result.now c.len.result c.start_of-start.result c.deref.ensures.value (let d = c.self.inside.ends.ok.0 in omega (arith, d, c.len.ensures)) c.start_of-start.ensures c.truncate.ensures.items) c.add_all.ensures.more.1

pub returns-in_default-clause-err : goal.returns-in_default-clause-err
returns-in_default-clause-err c =
    cut-kept c.self.inside.ends.items c.self.inside.numbers.items c.truncate.new.self.items c.add_all.ensures.more.0 c.add_all.new.numbers.items c.self.invariant
    (front-is c.self.inside.ends.items c.self.inside.numbers.items c.truncate.new.self.items c.deref.result.now c.len.result c.start_of-start.result c.deref.ensures.value (let d = c.self.inside.ends.ok.0 in omega (arith, d, c.len.ensures)) c.start_of-start.ensures c.truncate.ensures.items) c.add_all.ensures.more.1 ∙ c.self.view_is

pub invariant_of-self-then-len-ge-LIMIT : goal.invariant_of-self-then-len-ge-LIMIT
invariant_of-self-then-len-ge-LIMIT c =
    ends-kept c.self.inside.ends.items c.self.inside.numbers.items c.truncate.new.self.items c.add_all.ensures.more.0 c.add_all.new.numbers.items c.self.invariant
    (front-is c.self.inside.ends.items c.self.inside.numbers.items c.truncate.new.self.items c.deref.result.now c.len.result c.start_of-start.result c.deref.ensures.value (let d = c.self.inside.ends.ok.0 in omega (arith, d, c.len.ensures)) c.start_of-start.ensures c.truncate.ensures.items) c.add_all.ensures.more.1

pub returns-then-len-ge-LIMIT-clause-err : goal.returns-then-len-ge-LIMIT-clause-err
returns-then-len-ge-LIMIT-clause-err c =
    cut-kept c.self.inside.ends.items c.self.inside.numbers.items c.truncate.new.self.items c.add_all.ensures.more.0 c.add_all.new.numbers.items c.self.invariant
    (front-is c.self.inside.ends.items c.self.inside.numbers.items c.truncate.new.self.items c.deref.result.now c.len.result c.start_of-start.result c.deref.ensures.value (let d = c.self.inside.ends.ok.0 in omega (arith, d, c.len.ensures)) c.start_of-start.ensures c.truncate.ensures.items) c.add_all.ensures.more.1 ∙ c.self.view_is

pub invariant_of-self-in_err-push : goal.invariant_of-self-in_err-push
invariant_of-self-in_err-push c =
    subst (λ es. AreEnds es c.add_all.new.numbers.items) (sym c.in_err-push.ensures.items) (ends-kept c.self.inside.ends.items c.self.inside.numbers.items c.truncate.new.self.items c.add_all.ensures.more.0 c.add_all.new.numbers.items c.self.invariant
    (front-is c.self.inside.ends.items c.self.inside.numbers.items c.truncate.new.self.items c.deref.result.now c.len.result c.start_of-start.result c.deref.ensures.value (let d = c.self.inside.ends.ok.0 in omega (arith, d, c.len.ensures)) c.start_of-start.ensures c.truncate.ensures.items) c.add_all.ensures.more.1)

pub returns-in_err-push-clause-err : goal.returns-in_err-push-clause-err
returns-in_err-push-clause-err c =
    on_err c.from_residual-in_err-push.result (ap (λ es. cut 0 es c.add_all.new.numbers.items) c.in_err-push.ensures.items ∙ (cut-kept c.self.inside.ends.items c.self.inside.numbers.items c.truncate.new.self.items c.add_all.ensures.more.0 c.add_all.new.numbers.items c.self.invariant
    (front-is c.self.inside.ends.items c.self.inside.numbers.items c.truncate.new.self.items c.deref.result.now c.len.result c.start_of-start.result c.deref.ensures.value (let d = c.self.inside.ends.ok.0 in omega (arith, d, c.len.ensures)) c.start_of-start.ensures c.truncate.ensures.items) c.add_all.ensures.more.1 ∙ c.self.view_is))

pub invariant_of-self-2 : goal.invariant_of-self-2
invariant_of-self-2 c =
    subst (λ es. AreEnds es c.add_all.new.numbers.items) (sym c.in_ok-push.ensures.items) (ends-added c.self.inside.ends.items c.self.inside.numbers.items c.truncate.new.self.items c.args.list.now c.add_all.new.numbers.items c.self.invariant
    (front-is c.self.inside.ends.items c.self.inside.numbers.items c.truncate.new.self.items c.deref.result.now c.len.result c.start_of-start.result c.deref.ensures.value (let d = c.self.inside.ends.ok.0 in omega (arith, d, c.len.ensures)) c.start_of-start.ensures c.truncate.ensures.items) c.in_ok-add_all.ensures.ok c.in-Ok.end (let a = c.in-Ok.ensures in let b = c.len-2.ensures in let d = c.add_all.new.numbers.ok.0 in omega (arith, a, b, d))
    (let l = c.if-len-ge-LIMIT.false in let a = c.len-3.ensures in let d = c.self.inside.ends.ok.0 in omega (arith, l, a, d)))

pub returns-clause-ok : goal.returns-clause-ok
returns-clause-ok c =
    ap (λ es. cut 0 es c.add_all.new.numbers.items) c.in_ok-push.ensures.items ∙ (cut-added c.self.inside.ends.items c.self.inside.numbers.items c.truncate.new.self.items c.args.list.now c.add_all.new.numbers.items c.self.invariant
    (front-is c.self.inside.ends.items c.self.inside.numbers.items c.truncate.new.self.items c.deref.result.now c.len.result c.start_of-start.result c.deref.ensures.value (let d = c.self.inside.ends.ok.0 in omega (arith, d, c.len.ensures)) c.start_of-start.ensures c.truncate.ensures.items) c.in_ok-add_all.ensures.ok c.in-Ok.end (let a = c.in-Ok.ensures in let b = c.len-2.ensures in let d = c.add_all.new.numbers.ok.0 in omega (arith, a, b, d))
    ∙ ap (λ ls. ls ++ c.args.list.now ∷ []) c.self.view_is)
