use Rattle.std.proofs.Common.{◌∙◌, true≢false, refl, sym}
use Rattle.rdl_fields.proofs.view.add_view.Goals as goal

pub returns : goal.returns
returns c = record {
  field = λ t. record {
    view = record { node = c.args.child; high = c.bits-high.result.0; low = c.bits-high.result.1 };
    of = refl;
    bits = c.bits-high.ensures;
    behind = c.in_ok-push.ensures.items;
  };
  other = λ t. absurd (true≢false (sym (sym c.is_field.ensures ∙ c.if-not-is_field.false) ∙ t));
}

pub returns-then-not-is_field : goal.returns-then-not-is_field
returns-then-not-is_field c = record {
  field = λ t. absurd (true≢false (sym t ∙ (sym c.is_field.ensures ∙ c.if-not-is_field.true)));
  other = λ t. refl;
}
