use Rattle.std.proofs.Common.{◌≡◌, ◌∙◌, ℕ, ◌+◌, ◌-◌, ◌<◌, ◌≤◌, true, not, Some, refl, ap, sym, arith}
use Rattle.std.proofs.lemmas.Bool.Decides.{nat_tests}
use Rattle.rdl_layout.specs.declared.extent.Extent.{Extent}
use Rattle.rdl_layout.specs.Extents.{bars, covers}
use Rattle.rdl_layout.specs.Ground.{tenant_at}
use Rattle.rdl_layout.proofs.ground.Ground.bars.Goals as goal

within : (e : Extent) (k : ℕ) → k < e.length → covers e (e.first + k) ≡ true
within e k l = grind (arith, nat_tests)

offset-of : (e : Extent) (p : ℕ) → covers e p ≡ true → (k : ℕ) × (k < e.length) × (p ≡ e.first + k)
offset-of e p c = let l : e.first ≤ p = grind (arith, nat_tests) in let m : p < e.first + e.length = grind (arith, nat_tests) in (p - e.first, omega arith, omega arith)

pub returns-then-not-may_share : goal.returns-then-not-may_share
returns-then-not-may_share c =
    let e = c.args.extent.now in
    let there : tenant_at c.args.self.now (e.first + c.loop-offset.offset) ≡ Some c.in-Some.there = ap (λ n. tenant_at c.args.self.now (e.first + n)) (sym c.from.ensures) ∙ sym c.in-Some.ensures in
    ((λ t. (e.first + c.loop-offset.offset, within e c.loop-offset.offset c.loop-offset-test.true, ap (bars e.tenant) there ∙ ap not (sym c.may_share.ensures ∙ c.if-not-may_share.true))), (λ h. refl))

pub returns : goal.returns
returns c = (
  (λ t. cc t),
  (λ h.
      let e = c.args.extent.now in
      let k = offset-of e h.0 h.1 in
      let low : k.0 < c.loop-offset.offset = (let l = c.loop-offset-test.false in let m = k.1 in omega (arith, l, m)) in
      sym (c.loop-offset.invariant k.0 low) ∙ (ap (λ p. bars e.tenant (tenant_at c.args.self.now p)) (sym k.2) ∙ h.2)),
)
