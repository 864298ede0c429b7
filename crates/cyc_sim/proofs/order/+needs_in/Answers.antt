use Rattle.std.proofs.Common.{◌≡◌, ℕ, Result, Ok, Err, OnOk, List, ◌++◌, ap, sym, ◌∙◌, append_assoc}
use Rattle.v_design.specs.Expr as expr
use Rattle.v_design.specs.Expr.{nets_of, nets_of_each}
use Rattle.v_design.specs.Seen.{expr_seen}
use Rattle.cyc_sim.specs.Order.{driver_at, numbers_of}
use Rattle.cyc_sim.proofs.Concatenating.{listed, listed-more, listed-all, nets-behind, cat_seen}
use Rattle.cyc_sim.proofs.Ordering.{numbers-append}
use Rattle.cyc_sim.proofs.order.+needs_in.Goals as goal

-- numbers behind numbers, of names behind names
both : (number : List ℕ → _) (a b c : List ℕ) (ms ns : List (List ℕ)) → b ≡ a ++ numbers_of number ms → c ≡ b ++ numbers_of number ns → c ≡ a ++ numbers_of number (ms ++ ns)
both number a b c ms ns p q = q ∙ (ap (λ l. l ++ numbers_of number ns) p ∙ (append_assoc a (numbers_of number ms) (numbers_of number ns) ∙ ap (λ l. a ++ l) (sym (numbers-append number ms ns))))

on_ok : {T E P Q : Type 0} (r : Result T E) → (P → Q) → OnOk r P → OnOk r Q
on_ok (Ok x) f h = f h
on_ok (Err e) f h = h

pub loop-part-preserved : goal.loop-part-preserved
loop-part-preserved t c =
    let number = driver_at c.args.drivers.now in
    rw (listed-more c.deref-part-items.result.now c.loop-part.part-index c.part-item.result c.loop-part-test.true c.part-item.is, nets-behind)
    (both number c.args.needs.now.items c.loop-part.needs.items c.needs_in.new.needs.items _ (nets_of (expr_seen c.part-item.result)) c.loop-part.invariant c.in_ok-needs_in-in-Cat.ensures)

pub returns-after-loop-part : goal.returns-after-loop-part
returns-after-loop-part t c =
    let number = driver_at c.args.drivers.now in
    let old = c.args.needs.now.items in
    let whole : expr_seen c.args.expr.now ≡ expr.Cat (listed c.in-Cat.parts.items) = ap expr_seen c.in-Cat.is ∙ cat_seen c.in-Cat.parts in
    let all : c.loop-part.needs.items ≡ old ++ numbers_of number (nets_of_each (listed c.in-Cat.parts.items))
    = c.loop-part.invariant ∙ ap (λ es. old ++ numbers_of number (nets_of_each es)) (listed-all c.deref-part-items.result.now c.in-Cat.parts.items c.loop-part.part-index c.loop-part-test.false c.deref-part-items.ensures.value) in
    all ∙ ap (λ e. old ++ numbers_of number (nets_of e)) (sym whole)

pub returns-in_ok-needs_in-in-Two : goal.returns-in_ok-needs_in-in-Two
returns-in_ok-needs_in-in-Two t c = rw (c.in-Two.is, ← c.deref-in-Two.ensures, ← c.deref-in-Two-2.ensures)
    (on_ok c.needs_in-in-Two-2.result (both (driver_at c.args.drivers.now) c.args.needs.now.items c.needs_in-in-Two.new.needs.items c.needs_in-in-Two-2.new.needs.items _ _ c.in_ok-needs_in-in-Two.ensures) c.needs_in-in-Two-2.ensures)

pub returns-in_ok-needs_in-in-Pick-2 : goal.returns-in_ok-needs_in-in-Pick-2
returns-in_ok-needs_in-in-Pick-2 t c = rw (c.in-Pick.is, ← c.deref-in-Pick.ensures, ← c.deref-in-Pick-2.ensures, ← c.deref-in-Pick-3.ensures)
    (let number = driver_at c.args.drivers.now in
    let a = c.needs_in-in-Pick.new.needs.items in
    on_ok c.needs_in-in-Pick-3.result
    (λ last. both number c.args.needs.now.items a c.needs_in-in-Pick-3.new.needs.items _ _ c.in_ok-needs_in-in-Pick.ensures (both number a c.needs_in-in-Pick-2.new.needs.items c.needs_in-in-Pick-3.new.needs.items _ _ c.in_ok-needs_in-in-Pick-2.ensures last))
    c.needs_in-in-Pick-3.ensures)
