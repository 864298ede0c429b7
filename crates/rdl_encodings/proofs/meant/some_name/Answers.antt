use Rattle.std.proofs.Common.{◌≡◌, ◌∙◌, true, false, arith, ap, sym}
use Rattle.rdl_sizes.proofs.Turns.{read-at}
use Rattle.rdl_props.specs.declared.prop.Prop.TheVariants as prop
use Rattle.rdl_layers.specs.Tables.{setting_in}
use Rattle.rdl_encodings.specs.Meant.{names_enum}
use Rattle.rdl_encodings.proofs.Settings.{name_none_all, name_none_more}
use Rattle.rdl_encodings.proofs.meant.some_name.Goals as goal

pub loop-list-init : goal.loop-list-init
loop-list-init c = λ k l. absurd (omega (arith, l))

pub loop-list-preserved : goal.loop-list-preserved
loop-list-preserved c =
    let i = c.loop-list.list-index in
    let es = c.args.entries.now in
    let other = ap (λ xs. names_enum (setting_in prop.Encode xs)) (sym c.deref.ensures.value) ∙ (sym c.names_one.ensures ∙ c.if-names_one.false) in
    name_none_more es i c.list-item.result (read-at es i c.list-item.result c.loop-list-test.true c.list-item.is) other c.loop-list.invariant

pub returns : goal.returns
returns c = λ k h.
    let none = name_none_all c.args.entries.now c.loop-list.list-index c.loop-list-test.false c.loop-list.invariant k in
    let q : false ≡ true = sym none ∙ h in
    q
