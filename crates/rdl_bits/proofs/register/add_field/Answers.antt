use Rattle.std.proofs.Common.{◌≡◌, ◌∙◌, [], ◌∷◌, ◌++◌, true, false, cond, sym, ap, subst}
use Rattle.plain_lemmas.proofs.Lists.{append-none as none-behind}
use Rattle.rdl_tree.specs.declared.item.Kind.TheVariants as kinds
use Rattle.rdl_layers.specs.Fields.{is_a}
use Rattle.rdl_tree.specs.Kinds.{same_kind}
use Rattle.rdl_addr.specs.Fields.{AreFieldsOf}
use Rattle.rdl_bits.proofs.Fielded.{field-kind, fields-push}
use Rattle.rdl_bits.proofs.register.add_field.Goals as goal

pub returns-clause-field : goal.returns-clause-field
returns-clause-field c = λ around beside n ns shown here says text h.
    let e : is_a kinds.Field n ≡ true = ap (same_kind kinds.Field) (sym says.kind) ∙ (sym c.is_field.ensures ∙ c.if-not-is_field.false) in
    let is = c.in-Some.ensures.field around beside n shown here says text (field-kind n e) in
    subst (λ b. AreFieldsOf c.push.new.self.items (ns ++ cond b (n ∷ []) [])) (sym e) (subst (λ fs. AreFieldsOf fs (ns ++ (n ∷ []))) (sym c.in_ok-push.ensures.items) (fields-push c.args.fields.now.items ns c.in-Some.field n h is))

pub returns-then-not-is_field-clause-field : goal.returns-then-not-is_field-clause-field
returns-then-not-is_field-clause-field c = λ around beside n ns shown here says text h.
    let e : is_a kinds.Field n ≡ false = ap (same_kind kinds.Field) (sym says.kind) ∙ (sym c.is_field.ensures ∙ c.if-not-is_field.true) in
    subst (λ b. AreFieldsOf c.args.fields.now.items (ns ++ cond b (n ∷ []) [])) (sym e) (subst (AreFieldsOf c.args.fields.now.items) (sym (none-behind ns)) h)
