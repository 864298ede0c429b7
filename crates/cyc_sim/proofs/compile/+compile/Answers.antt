use Rattle.std.proofs.Common.{◌≡◌, ℕ, ◌+◌, ◌<◌, ◌≤◌, Result, Ok, Err, IfOk, List, length, take, get_or, refl, ap, sym, subst, ◌∙◌, arith, Vec, Box, Global}
use Rattle.std.proofs.lemmas.List.{take_more, take_all}
use Rattle.v_design.specs.declared.design.VExpr.{VExpr}
use Rattle.v_design.specs.declared.design.VExpr.TheVariants as variant
use Rattle.v_design.specs.declared.design.VOne.{VOne}
use Rattle.v_design.specs.declared.design.VTwo.{VTwo}
use Rattle.v_design.specs.Expr as expr
use Rattle.v_design.specs.Seen.{expr_seen}
use Rattle.cyc_sim.specs.declared.listing.Listing.{Listing}
use Rattle.cyc_sim.specs.declared.listing.Wire.{Wire}
use Rattle.cyc_sim.specs.Compiled.{Known, IsReady}
use Rattle.cyc_sim.proofs.Compiling.{compiled_bits, compiled_const, compiled_one, compiled_two, compiled_pick, below_more}
use Rattle.cyc_sim.proofs.Concatenating.{listed, listed-push, behind, cat_seen, one_seen, two_seen, pick_seen, CompilesAll, MayCompile, compiled_cat, compiled_empty, compiled_more, may_below}
use Rattle.cyc_sim.proofs.Readying.{compiled-narrow, behind-narrow, ready-chosen, ready-left, ready-one, ready-other, ready-part, ready-right, ready-test}
use Rattle.cyc_sim.proofs.Sizes.{part-smaller, of-smaller, left-smaller, right-smaller, test-smaller, chosen-smaller, other-smaller}
use Rattle.cyc_sim.proofs.compile.+compile.Goals as goal

-- from two facts on `Ok`, a third
ok_two : {T E : Type 0} (r : Result T E) (P Q R : T → Type 0) → ((x : T) → P x → Q x → R x) → IfOk r P → IfOk r Q → IfOk r R
ok_two (Ok x) P Q R f p q = f x p q
ok_two (Err e) P Q R f p q = tt

-- the parts of an expression are ready where it is
cat_ready : (known : Known) (x : VExpr) (v : Vec VExpr Global) → x ≡ variant.Cat v → IsReady known (expr_seen x) → IsReady known (expr.Cat (listed v.items))
cat_ready known x v is r = subst (IsReady known) (ap expr_seen is ∙ cat_seen v) r

one_ready : (known : Known) (x : VExpr) (op : VOne) (a : Box VExpr Global) (y : VExpr) → x ≡ variant.One op a → y ≡ a.value → IsReady known (expr_seen x) → IsReady known (expr_seen y)
one_ready known x op a y is same r = subst (λ e. IsReady known (expr_seen e)) (sym same) (ready-one known op (expr_seen a.value) (subst (IsReady known) (ap expr_seen is ∙ one_seen op a) r))

two_ready : (known : Known) (x : VExpr) (op : VTwo) (a b : Box VExpr Global) → x ≡ variant.Two op a b → IsReady known (expr_seen x) → IsReady known (expr.Two op (expr_seen a.value) (expr_seen b.value))
two_ready known x op a b is r = subst (IsReady known) (ap expr_seen is ∙ two_seen op a b) r

left_ready : (known : Known) (x : VExpr) (op : VTwo) (a b : Box VExpr Global) (y : VExpr) → x ≡ variant.Two op a b → y ≡ a.value → IsReady known (expr_seen x) → IsReady known (expr_seen y)
left_ready known x op a b y is same r = subst (λ e. IsReady known (expr_seen e)) (sym same) (ready-left known op (expr_seen a.value) (expr_seen b.value) (two_ready known x op a b is r))

right_ready : (known : Known) (x : VExpr) (op : VTwo) (a b : Box VExpr Global) (y : VExpr) → x ≡ variant.Two op a b → y ≡ b.value → IsReady known (expr_seen x) → IsReady known (expr_seen y)
right_ready known x op a b y is same r = subst (λ e. IsReady known (expr_seen e)) (sym same) (ready-right known op (expr_seen a.value) (expr_seen b.value) (two_ready known x op a b is r))

pick_ready : (known : Known) (x : VExpr) (a b c : Box VExpr Global) → x ≡ variant.Pick a b c → IsReady known (expr_seen x) → IsReady known (expr.Pick (expr_seen a.value) (expr_seen b.value) (expr_seen c.value))
pick_ready known x a b c is r = subst (IsReady known) (ap expr_seen is ∙ pick_seen a b c) r

moved : (known : Known) (y z : VExpr) → y ≡ z → IsReady known (expr_seen z) → IsReady known (expr_seen y)
moved known y z same r = subst (λ e. IsReady known (expr_seen e)) (sym same) r

pub two-requires-clause-narrow : goal.two-requires-clause-narrow
two-requires-clause-narrow t c =
    compiled-narrow c.args.known.now (expr_seen c.deref-in-Two.result.now) _ _ c.in_ok-left-in-Two.left
    (left_ready c.args.known.now c.args.expr.now c.in-Two.op c.in-Two.left c.in-Two.right c.deref-in-Two.result.now c.in-Two.is c.deref-in-Two.ensures c.requires.ready) c.in_ok-left-in-Two.ensures

pub loop-part-init : goal.loop-part-init
loop-part-init t c = record {
  below = c.requires.below;
  compiled = (refl, refl);
}

-- the parts up to one more
up_to : (known : Known) (items : List VExpr) (i : ℕ) (d : VExpr) (a b : Listing) (w : Wire) → i < length items → d ≡ get_or items i d
    → CompilesAll known (behind (listed (take i items)) (expr_seen d)) a b w → CompilesAll known (listed (take (i + 1) items)) a b w
up_to known items i d a b w l is h = rw (take_more items i d l, listed-push (take i items) (get_or items i d), ← is) h

-- all the parts
all_parts : (known : Known) (items parts : List VExpr) (i : ℕ) (a b : Listing) (w : Wire) → length items ≤ i → items ≡ parts → CompilesAll known (listed (take i items)) a b w → CompilesAll known (listed parts) a b w
all_parts known items parts i a b w l is h = subst (λ es. CompilesAll known (listed es) a b w) (take_all i items l ∙ is) h

pub loop-part-preserved : goal.loop-part-preserved
loop-part-preserved t c =
    let compiled = up_to c.args.known.now c.deref-part-items.result.now c.loop-part.part-index c.part-item.result c.args.listing.now c.behind.new.listing c.in_ok-wire-in-Cat.wire c.loop-part-test.true c.part-item.is
    (compiled_more c.args.known.now _ (expr_seen c.part-item.result) c.args.listing.now c.loop-part.listing c.compile.new.listing c.behind.new.listing c.loop-part.joined c.in_ok-low-in-Cat.low c.in_ok-wire-in-Cat.wire
    c.loop-part.invariant.compiled c.in_ok-low-in-Cat.ensures c.in_ok-wire-in-Cat.ensures) in
    record { below = below_more c.args.known.now c.args.listing.now c.behind.new.listing compiled.extends c.requires.below; compiled = compiled }

pub behind-requires-clause-high : goal.behind-requires-clause-high
behind-requires-clause-high t c =
    may_below c.args.known.now (listed (take c.loop-part.part-index c.deref-part-items.result.now)) c.args.listing.now c.loop-part.listing c.compile.new.listing c.loop-part.joined c.loop-part.invariant.compiled c.in_ok-low-in-Cat.ensures.extends

pub returns-in-Bits : goal.returns-in-Bits
returns-in-Bits t c = rw c.in-Bits.is (ok_two c.part.result _ _ _ (λ w adds width. compiled_bits c.args.known.now _ c.in-Bits.high c.in-Bits.low c.args.listing.now c.part.new.self c.wire_of-in-Bits.result w c.wire_of-in-Bits.ensures adds width) c.part.ensures.adds c.part.ensures.width)

pub returns-in-Const : goal.returns-in-Const
returns-in-Const t c = rw c.in-Const.is (ok_two c.constant.result _ _ _ (λ w adds width. compiled_const c.args.known.now c.in-Const.width c.in-Const.value c.args.listing.now c.constant.new.self w adds width) c.constant.ensures.adds c.constant.ensures.width)

pub returns-in-Some : goal.returns-in-Some
returns-in-Some t c = rw (c.in-Cat.is, cat_seen c.in-Cat.parts)
    (compiled_cat c.args.known.now (listed c.in-Cat.parts.items) c.args.listing.now c.loop-part.listing c.in-Some.joined
    (all_parts c.args.known.now c.deref-part-items.result.now c.in-Cat.parts.items c.loop-part.part-index c.args.listing.now c.loop-part.listing c.in-Some.joined c.loop-part-test.false c.deref-part-items.ensures.value
    (subst (λ o. MayCompile c.args.known.now (listed (take c.loop-part.part-index c.deref-part-items.result.now)) c.args.listing.now c.loop-part.listing o) c.in-Some.is c.loop-part.invariant.compiled)))

pub returns-in-None : goal.returns-in-None
returns-in-None t c = rw (c.in-Cat.is, cat_seen c.in-Cat.parts)
    (ok_two c.constant-in-None.result _ _ _ (λ w adds width. compiled_cat c.args.known.now (listed c.in-Cat.parts.items) c.args.listing.now c.constant-in-None.new.self w
    (all_parts c.args.known.now c.deref-part-items.result.now c.in-Cat.parts.items c.loop-part.part-index c.args.listing.now c.constant-in-None.new.self w c.loop-part-test.false c.deref-part-items.ensures.value
    (compiled_empty c.args.known.now _ c.args.listing.now c.loop-part.listing c.constant-in-None.new.self w
    (subst (λ o. MayCompile c.args.known.now (listed (take c.loop-part.part-index c.deref-part-items.result.now)) c.args.listing.now c.loop-part.listing o) c.in-None.is c.loop-part.invariant.compiled) adds width)))
    c.constant-in-None.ensures.adds c.constant-in-None.ensures.width)

pub returns-in_ok-of-in-One : goal.returns-in_ok-of-in-One
returns-in_ok-of-in-One t c = rw (c.in-One.is, one_seen c.in-One.op c.in-One.of, ← c.deref.ensures)
    (ok_two c.one.result _ _ _ (λ w adds width. compiled_one c.args.known.now c.in-One.op _ c.args.listing.now c.compile-in-One.new.listing c.one.new.self c.in_ok-of-in-One.of w c.in_ok-of-in-One.ensures adds width)
    c.one.ensures.adds c.one.ensures.width)

pub returns-in_ok-right-in-Two : goal.returns-in_ok-right-in-Two
returns-in_ok-right-in-Two t c = rw (c.in-Two.is, two_seen c.in-Two.op c.in-Two.left c.in-Two.right, ← c.deref-in-Two.ensures, ← c.deref-in-Two-2.ensures)
    (ok_two c.two.result _ _ _ (λ w adds width. compiled_two c.args.known.now c.in-Two.op _ _ c.args.listing.now c.compile-in-Two.new.listing c.compile-in-Two-2.new.listing c.two.new.self
    c.in_ok-left-in-Two.left c.in_ok-right-in-Two.right w c.in_ok-left-in-Two.ensures c.in_ok-right-in-Two.ensures (compiled-narrow c.args.known.now _ _ _ c.in_ok-left-in-Two.left (left_ready c.args.known.now c.args.expr.now c.in-Two.op c.in-Two.left c.in-Two.right c.deref-in-Two.result.now c.in-Two.is c.deref-in-Two.ensures c.requires.ready) c.in_ok-left-in-Two.ensures) adds width)
    c.two.ensures.adds c.two.ensures.width)

pub returns-in_ok-other-in-Pick : goal.returns-in_ok-other-in-Pick
returns-in_ok-other-in-Pick t c = rw (c.in-Pick.is, pick_seen c.in-Pick.test c.in-Pick.chosen c.in-Pick.other, ← c.deref-in-Pick.ensures, ← c.deref-in-Pick-2.ensures, ← c.deref-in-Pick-3.ensures)
    (ok_two c.pick.result _ _ _ (λ w adds width. compiled_pick c.args.known.now _ _ _ c.args.listing.now c.compile-in-Pick.new.listing c.compile-in-Pick-2.new.listing c.compile-in-Pick-3.new.listing c.pick.new.self
    c.in_ok-test-in-Pick.test c.in_ok-chosen-in-Pick.chosen c.in_ok-other-in-Pick.other w c.in_ok-test-in-Pick.ensures c.in_ok-chosen-in-Pick.ensures c.in_ok-other-in-Pick.ensures adds width)
    c.pick.ensures.adds c.pick.ensures.width)

pub compile-requires : goal.compile-requires
compile-requires t c = (
  (let h = part-smaller c.args.expr.now c.in-Cat.parts c.deref-part-items.result.now c.loop-part.part-index c.part-item.result c.in-Cat.is c.deref-part-items.ensures.value c.loop-part-test.true c.part-item.is in omega (arith, h)),
  (
    c.loop-part.invariant.below,
    moved c.args.known.now _ _ refl (ready-part c.args.known.now c.deref-part-items.result.now c.loop-part.part-index c.part-item.result c.loop-part-test.true c.part-item.is
        (subst (λ items. IsReady c.args.known.now (expr.Cat (listed items))) (sym c.deref-part-items.ensures.value) (cat_ready c.args.known.now c.args.expr.now c.in-Cat.parts c.in-Cat.is c.requires.ready))),
  ),
)

pub behind-requires-clause-narrow : goal.behind-requires-clause-narrow
behind-requires-clause-narrow t c =
    let known = c.args.known.now in
    let all = subst (λ items. IsReady known (expr.Cat (listed items))) (sym c.deref-part-items.ensures.value) (cat_ready known c.args.expr.now c.in-Cat.parts c.in-Cat.is c.requires.ready) in
    behind-narrow known c.deref-part-items.result.now c.loop-part.part-index c.part-item.result _ _ _ c.loop-part.joined c.in_ok-low-in-Cat.low c.loop-part-test.true c.part-item.is all c.loop-part.invariant.compiled c.in_ok-low-in-Cat.ensures

pub one-requires-clause-narrow : goal.one-requires-clause-narrow
one-requires-clause-narrow t c =
    compiled-narrow c.args.known.now (expr_seen c.deref.result.now) _ _ c.in_ok-of-in-One.of (one_ready c.args.known.now c.args.expr.now c.in-One.op c.in-One.of c.deref.result.now c.in-One.is c.deref.ensures c.requires.ready) c.in_ok-of-in-One.ensures

pub compile-requires-in-One : goal.compile-requires-in-One
compile-requires-in-One t c = (
  (let h = of-smaller c.args.expr.now c.in-One.op c.in-One.of c.deref.result.now c.in-One.is c.deref.ensures in omega (arith, h)),
  (
    c.requires.below,
    one_ready c.args.known.now c.args.expr.now c.in-One.op c.in-One.of c.deref.result.now c.in-One.is c.deref.ensures c.requires.ready,
  ),
)

pub compile-requires-in-Two : goal.compile-requires-in-Two
compile-requires-in-Two t c = ((let h = left-smaller c.args.expr.now c.in-Two.op c.in-Two.left c.in-Two.right c.deref-in-Two.result.now c.in-Two.is c.deref-in-Two.ensures in omega (arith, h)), (c.requires.below, left_ready c.args.known.now c.args.expr.now c.in-Two.op c.in-Two.left c.in-Two.right c.deref-in-Two.result.now c.in-Two.is c.deref-in-Two.ensures c.requires.ready))

pub compile-requires-in-Two-2 : goal.compile-requires-in-Two-2
compile-requires-in-Two-2 t c = (
  (let h = right-smaller c.args.expr.now c.in-Two.op c.in-Two.left c.in-Two.right c.deref-in-Two-2.result.now c.in-Two.is c.deref-in-Two-2.ensures in omega (arith, h)),
  (
    below_more c.args.known.now c.args.listing.now c.compile-in-Two.new.listing c.in_ok-left-in-Two.ensures.extends c.requires.below,
    right_ready c.args.known.now c.args.expr.now c.in-Two.op c.in-Two.left c.in-Two.right c.deref-in-Two-2.result.now c.in-Two.is c.deref-in-Two-2.ensures c.requires.ready,
  ),
)

pub compile-requires-in-Pick : goal.compile-requires-in-Pick
compile-requires-in-Pick t c = ((let h = test-smaller c.args.expr.now c.in-Pick.test c.in-Pick.chosen c.in-Pick.other c.deref-in-Pick.result.now c.in-Pick.is c.deref-in-Pick.ensures in omega (arith, h)), (c.requires.below, moved c.args.known.now c.deref-in-Pick.result.now c.in-Pick.test.value c.deref-in-Pick.ensures (ready-test c.args.known.now _ _ _ (pick_ready c.args.known.now c.args.expr.now c.in-Pick.test c.in-Pick.chosen c.in-Pick.other c.in-Pick.is c.requires.ready))))

pub compile-requires-in-Pick-2 : goal.compile-requires-in-Pick-2
compile-requires-in-Pick-2 t c = (
  (let h = chosen-smaller c.args.expr.now c.in-Pick.test c.in-Pick.chosen c.in-Pick.other c.deref-in-Pick-2.result.now c.in-Pick.is c.deref-in-Pick-2.ensures in omega (arith, h)),
  (
    below_more c.args.known.now c.args.listing.now c.compile-in-Pick.new.listing c.in_ok-test-in-Pick.ensures.extends c.requires.below,
    moved c.args.known.now c.deref-in-Pick-2.result.now c.in-Pick.chosen.value c.deref-in-Pick-2.ensures (ready-chosen c.args.known.now _ _ _ (pick_ready c.args.known.now c.args.expr.now c.in-Pick.test c.in-Pick.chosen c.in-Pick.other c.in-Pick.is c.requires.ready)),
  ),
)

pub compile-requires-in-Pick-3 : goal.compile-requires-in-Pick-3
compile-requires-in-Pick-3 t c = (
  (let h = other-smaller c.args.expr.now c.in-Pick.test c.in-Pick.chosen c.in-Pick.other c.deref-in-Pick-3.result.now c.in-Pick.is c.deref-in-Pick-3.ensures in omega (arith, h)),
  (
    below_more c.args.known.now c.compile-in-Pick.new.listing c.compile-in-Pick-2.new.listing c.in_ok-chosen-in-Pick.ensures.extends
        (below_more c.args.known.now c.args.listing.now c.compile-in-Pick.new.listing c.in_ok-test-in-Pick.ensures.extends c.requires.below),
    moved c.args.known.now c.deref-in-Pick-3.result.now c.in-Pick.other.value c.deref-in-Pick-3.ensures (ready-other c.args.known.now _ _ _ (pick_ready c.args.known.now c.args.expr.now c.in-Pick.test c.in-Pick.chosen c.in-Pick.other c.in-Pick.is c.requires.ready)),
  ),
)
