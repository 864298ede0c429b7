use Rattle.std.proofs.Common.{◌≡◌, ◌∙◌, get_or, refl, sym, subst}
use Rattle.std.specs.List.{list_any}
use Rattle.rtl_net.specs.Value.{bit_of}
use Rattle.block_plan.specs.Plan.{members_among}
use Rattle.gen_events.specs.Counting.{counts_at}
use Rattle.gen_scene.specs.Lines.{raised}
use Rattle.gen_scene.specs.Worth.{IsRead}
use Rattle.gen_scene.proofs.Raising.{all_bits, bits_more, bits_same, member_counts, member_low, no_bits}
use Rattle.gen_scene.proofs.Worths.{worth1}
use Rattle.gen_scene.proofs.lines.line.Goals as goal

pub field_at-field-requires : goal.field_at-field-requires
field_at-field-requires c =
    let s = c.args.scene.now in
    let ks = c.members-place-items.result.now in
    let e : ks ≡ members_among s.base.now.block.now.fields c.args.reg = c.members-place-items.ensures ∙ c.requires.base.planned.members c.args.reg in
    member_low c.args.net.now s c.args.reg c.loop-place.place-index ks c.requires.base e c.loop-place-test.true

pub loop-place-init : goal.loop-place-init
loop-place-init c = rw c.new-bits.ensures.items (no_bits c.args.net.now c.args.scene.now c.args.halt c.members-place-items.result.now)

pub loop-place-preserved-in_default : goal.loop-place-preserved-in_default
loop-place-preserved-in_default c =
    let s = c.args.scene.now in
    let ks = c.members-place-items.result.now in
    let e : ks ≡ members_among s.base.now.block.now.fields c.args.reg = c.members-place-items.ensures ∙ c.requires.base.planned.members c.args.reg in
    let i = c.loop-place.place-index in
    let counts = member_counts c.args.net.now s c.args.halt c.args.reg i ks c.field_at-field.result.now c.requires.base c.requires.line e c.loop-place-test.true c.field_at-field.ensures in
    bits_same c.args.net.now s c.args.halt ks c.loop-place.bits.items i (get_or ks i 0) _ c.loop-place-test.true refl c.loop-place.invariant counts (sym c.in_default.is ∙ c.line_bits.ensures)

pub loop-place-preserved : goal.loop-place-preserved
loop-place-preserved c =
    let s = c.args.scene.now in
    let ks = c.members-place-items.result.now in
    let e : ks ≡ members_among s.base.now.block.now.fields c.args.reg = c.members-place-items.ensures ∙ c.requires.base.planned.members c.args.reg in
    let i = c.loop-place.place-index in
    let counts = member_counts c.args.net.now s c.args.halt c.args.reg i ks c.field_at-field.result.now c.requires.base c.requires.line e c.loop-place-test.true c.field_at-field.ensures in
    bits_more c.args.net.now s c.args.halt ks c.loop-place.bits.items c.push.new.self.items i (get_or ks i 0) c.in-Some.one _ c.loop-place-test.true refl c.loop-place.invariant counts c.in-Some.ensures c.in_ok-push.ensures.items

pub returns-clause-worth : goal.returns-clause-worth
returns-clause-worth c =
    let s = c.args.scene.now in
    let b = s.base.now.block.now in
    let ks = c.members-place-items.result.now in
    let e : ks ≡ members_among b.fields c.args.reg = c.members-place-items.ensures ∙ c.requires.base.planned.members c.args.reg in
    let a = s.base.now.inlet in
    let net = c.args.net.now in
    let sofar = all_bits net s c.args.halt ks c.loop-place.bits.items c.loop-place.place-index c.loop-place-test.false c.loop-place.invariant in
    let read : IsRead b a net (λ x. list_any (counts_at net x) c.deref.result.now) (λ n v. list_any (raised b v c.args.halt) (members_among b.fields c.args.reg))
    = subst (λ xs. IsRead b a net (λ x. list_any (counts_at net x) xs) (λ n v. list_any (raised b v c.args.halt) (members_among b.fields c.args.reg))) (sym c.deref.ensures.value)
    (subst (λ xs. IsRead b a net (λ x. list_any (counts_at net x) c.loop-place.bits.items) (λ n v. list_any (raised b v c.args.halt) xs)) e sofar) in
    worth1 b a net c.any.new.net c.in_ok-id.id 1 bit_of (λ x. list_any (counts_at net x) c.deref.result.now) (λ n v. list_any (raised b v c.args.halt) (members_among b.fields c.args.reg)) c.in_ok-id.ensures.older c.in_ok-id.ensures.node read
