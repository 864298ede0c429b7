use Rattle.std.proofs.Common.{◌∙◌, ◌++◌, ap}
use Rattle.rdl_props.specs.declared.prop.Prop.TheVariants as prop
use Rattle.rb_model.specs.declared.kinds.Shown.TheVariants as out
use Rattle.rdl_field_kinds.proofs.Listing.{all-listed, one}
use Rattle.rdl_field_kinds.proofs.outputs.shown.Goals as goal

pub returns : goal.returns
returns c = λ n at.
    let e1 = c.in_ok-add.ensures n at ∙ ap (λ l. l ++ one n prop.Anded out.Anded) c.new-list.ensures.items in
    let e2 = c.in_ok-add-2.ensures n at ∙ ap (λ l. l ++ one n prop.Ored out.Ored) e1 in
    let e3 = c.in_ok-add-3.ensures n at ∙ ap (λ l. l ++ one n prop.Xored out.Xored) e2 in
    let e4 = c.in_ok-add-4.ensures n at ∙ ap (λ l. l ++ one n prop.Incrthreshold out.IncrThreshold) e3 in
    let e5 = c.in_ok-add-5.ensures n at ∙ ap (λ l. l ++ one n prop.Decrthreshold out.DecrThreshold) e4 in
    let e6 = c.in_ok-add-6.ensures n at ∙ ap (λ l. l ++ one n prop.Overflow out.Overflow) e5 in
    let e7 = c.in_ok-add-7.ensures n at ∙ ap (λ l. l ++ one n prop.Underflow out.Underflow) e6 in
    let e8 = c.in_ok-add-8.ensures n at ∙ ap (λ l. l ++ one n prop.Swmod out.SwMod) e7 in
    let e9 = c.in_ok-add-9.ensures n at ∙ ap (λ l. l ++ one n prop.Swacc out.SwAcc) e8 in
    e9 ∙ all-listed n
