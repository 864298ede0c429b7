use Rattle.std.proofs.Common.{◌≡◌, ◌<◌, ℕ, ◌++◌, ◌∷◌, [], List, IfOk, OnOk, Option, Result, length, sym, ap, ◌∙◌, subst, arith}
use Rattle.std.proofs.lemmas.Option.{same_Some, slice_get_within}
use Rattle.rtl_net.specs.Value.{under}
use Rattle.rtl_net.specs.Ids.{at}
use Rattle.rtl_net.specs.declared.node.Id.{Id}
use Rattle.block_plan.specs.declared.plan.Plan.{Plan}
use Rattle.rtl_net.specs.Net.{Net, Awaits, CanReset, IsNode, IsWidth, registers_of}
use Rattle.rtl_net.specs.Names.{is_net_name}
use Rattle.rtl_net.specs.declared.node.NetReset.{NetReset}
use Rattle.std.specs.Prelude.{IsTrue}
use Rattle.rtl_net.specs.Ports.{IsNew}
use Rattle.rb_model.specs.declared.block.Field.{Field}
use Rattle.rb_model.specs.Kept.{Kept, register_name, register_width}
use Rattle.block_plan.specs.Kept.{kept_seen}
use Rattle.gen_scene.specs.Bases.{kept_reset, kept_width, kept_word, reset_for, reset_in, reset_of, signal_place}
use Rattle.gen_scene.proofs.ResetPins.{can_reset, kept_is_of, name_is, named, pin_within, reset_is, wide, width_is}
use Rattle.gen_scene.proofs.kept.register.Goals as goal

pub field_at-field-requires : goal.field_at-field-requires
field_at-field-requires c =
    let b = c.args.block.now in
    let q = kept_is_of b (kept_seen c.args.kept) c.requires.own in
    let e : q.number ≡ c.number_of.result = same_Some q.number c.number_of.result (sym q.of ∙ c.number_of.ensures) in
    let low : q.number < length b.fields = slice_get_within b.fields q.number q.field q.here in
    omega (arith, e, low)

pub reset_id-pin-requires : goal.reset_id-pin-requires
reset_id-pin-requires c = pin_within c.args.block.now c.requires.sound c.args.plan.now c.requires.planned c.args.net.now c.args.pins.now c.requires.pins c.number_of.result c.field_at-field.result.now c.field_at-field.ensures

name_eq : (word path : List ℕ) (k : Kept) (f : Field) → word ≡ kept_word k → path ≡ f.path → word ++ path ≡ kept_word k ++ f.path
name_eq word path k f e q = ap (λ w. w ++ path) e ∙ ap (λ p. kept_word k ++ p) q

pub add-requires-clause-named : goal.add-requires-clause-named
add-requires-clause-named c =
    let k = kept_seen c.args.kept in
    subst (λ n. IsTrue (is_net_name n)) (sym (name_eq c.word_of.result.now c.path_of.result.now k c.field_at-field.result.now c.word_of.ensures c.path_of.ensures))
    (named c.args.block.now c.requires.sound k c.number_of.result c.field_at-field.result.now c.number_of.ensures c.field_at-field.ensures)

pub add-requires-clause-new : goal.add-requires-clause-new
add-requires-clause-new c =
    let k = kept_seen c.args.kept in
    subst (IsNew c.args.net.now) (name_is c.args.block.now k c.number_of.result c.field_at-field.result.now c.number_of.ensures c.field_at-field.ensures ∙ sym (name_eq c.word_of.result.now c.path_of.result.now k c.field_at-field.result.now c.word_of.ensures c.path_of.ensures)) c.requires.new

pub add-requires-clause-wide : goal.add-requires-clause-wide
add-requires-clause-wide c = subst IsWidth (sym c.width_of.ensures) (wide c.args.block.now c.requires.sound (kept_seen c.args.kept) c.number_of.result c.field_at-field.result.now c.number_of.ensures c.field_at-field.ensures)

reset_eq : (p : Plan) (pins : List Id) (k : Kept) (f : Field) (pin : Id) (value : Option ℕ) (reset : NetReset) → reset ≡ reset_for pin f.reset_by value → pin ≡ at pins (signal_place p f.reset_by.signal) → value ≡ kept_reset k f → reset ≡ reset_in p pins k f
reset_eq p pins k f pin value reset e q r = e ∙ ap (λ i. reset_for i f.reset_by value) q ∙ ap (reset_for (at pins (signal_place p f.reset_by.signal)) f.reset_by) r

pub add-requires-clause-reset : goal.add-requires-clause-reset
add-requires-clause-reset c =
    let k = kept_seen c.args.kept in
    let f = c.field_at-field.result.now in
    let p = c.args.plan.now in
    let pins = c.args.pins.now in
    subst (λ w. CanReset c.args.net.now w c.reset_for-reset.result) (sym c.width_of.ensures)
    (subst (CanReset c.args.net.now (kept_width k f)) (sym (reset_eq p pins k f c.reset_id-pin.result c.reset_value.result c.reset_for-reset.result c.reset_for-reset.ensures c.reset_id-pin.ensures c.reset_value.ensures))
    (can_reset c.args.block.now c.requires.sound p c.requires.planned c.args.net.now pins c.requires.pins c.number_of.result f c.field_at-field.ensures k c.number_of.ensures))

pub returns-clause-registers : goal.returns-clause-registers
returns-clause-registers c =
    let b = c.args.block.now in
    let k = kept_seen c.args.kept in
    let f = c.field_at-field.result.now in
    let n : c.word_of.result.now ++ c.path_of.result.now ≡ register_name b k = name_eq c.word_of.result.now c.path_of.result.now k f c.word_of.ensures c.path_of.ensures ∙ sym (name_is b k c.number_of.result f c.number_of.ensures c.field_at-field.ensures) in
    let w : c.width_of.result ≡ register_width b k = c.width_of.ensures ∙ sym (width_is b k c.number_of.result f c.number_of.ensures c.field_at-field.ensures) in
    subst (λ m. OnOk c.add.result (registers_of c.add.new.net.nodes ≡ registers_of c.args.net.now.nodes ++ record { name = m; width = register_width b k } ∷ [])) n
    (subst (λ m. OnOk c.add.result (registers_of c.add.new.net.nodes ≡ registers_of c.args.net.now.nodes ++ record { name = c.word_of.result.now ++ c.path_of.result.now; width = m } ∷ [])) w c.add.ensures.registers)

all_same : {E : Type 0} (net : Net) (res : Result Id E) (P : Id → List ℕ → ℕ → NetReset → Type 0) (n m : List ℕ) (w u : ℕ) (r q : NetReset) → n ≡ m → w ≡ u → r ≡ q → IfOk res (λ id. P id n w r) → IfOk res (λ id. P id m u q)
all_same net res P n m w u r q e f g h = subst (λ x. IfOk res (λ id. P id m u x)) g (subst (λ x. IfOk res (λ id. P id m x r)) f (subst (λ x. IfOk res (λ id. P id x w r)) e h))

pub returns-clause-awaits : goal.returns-clause-awaits
returns-clause-awaits c =
    let b = c.args.block.now in
    let k = kept_seen c.args.kept in
    let f = c.field_at-field.result.now in
    let p = c.args.plan.now in
    let pins = c.args.pins.now in
    let n : c.word_of.result.now ++ c.path_of.result.now ≡ register_name b k = name_eq c.word_of.result.now c.path_of.result.now k f c.word_of.ensures c.path_of.ensures ∙ sym (name_is b k c.number_of.result f c.number_of.ensures c.field_at-field.ensures) in
    let w : c.width_of.result ≡ register_width b k = c.width_of.ensures ∙ sym (width_is b k c.number_of.result f c.number_of.ensures c.field_at-field.ensures) in
    let r : c.reset_for-reset.result ≡ reset_of b p pins k
    = reset_eq p pins k f c.reset_id-pin.result c.reset_value.result c.reset_for-reset.result c.reset_for-reset.ensures c.reset_id-pin.ensures c.reset_value.ensures ∙ sym (reset_is b p pins k c.number_of.result f c.number_of.ensures c.field_at-field.ensures) in
    all_same c.add.new.net c.add.result (Awaits c.add.new.net) _ _ _ _ _ _ n w r c.add.ensures.awaits

pub returns-clause-node : goal.returns-clause-node
returns-clause-node c =
    let b = c.args.block.now in
    let k = kept_seen c.args.kept in
    let f = c.field_at-field.result.now in
    let p = c.args.plan.now in
    let pins = c.args.pins.now in
    let n : c.word_of.result.now ++ c.path_of.result.now ≡ register_name b k = name_eq c.word_of.result.now c.path_of.result.now k f c.word_of.ensures c.path_of.ensures ∙ sym (name_is b k c.number_of.result f c.number_of.ensures c.field_at-field.ensures) in
    let w : c.width_of.result ≡ register_width b k = c.width_of.ensures ∙ sym (width_is b k c.number_of.result f c.number_of.ensures c.field_at-field.ensures) in
    let r : c.reset_for-reset.result ≡ reset_of b p pins k
    = reset_eq p pins k f c.reset_id-pin.result c.reset_value.result c.reset_for-reset.result c.reset_for-reset.ensures c.reset_id-pin.ensures c.reset_value.ensures ∙ sym (reset_is b p pins k c.number_of.result f c.number_of.ensures c.field_at-field.ensures) in
    all_same c.add.new.net c.add.result (λ id m u q. IsNode c.add.new.net id u (λ v. under v.node q (v.kept m))) _ _ _ _ _ _ n w r c.add.ensures.node
