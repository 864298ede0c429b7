use Rattle.std.proofs.Common.{◌∙◌, ◌≡◌, ◌∷◌, [], true, false, sym, ap}
use Rattle.rdl_values.specs.Faults.{when}
use Rattle.rdl_layers.specs.Phase4.{number_at}
use Rattle.rdl_layers.specs.Settings.{is_assigned}
use Rattle.rdl_merge.proofs.settings.assigned_number.Goals as goal

pub returns-then-has_entry : goal.returns-then-has_entry
returns-then-has_entry c = λ all n h.
    let on : is_assigned n c.args.prop ≡ true = sym (c.has_entry.ensures ∙ h.assigned c.args.prop) ∙ c.if-has_entry.true in
    ap (λ k. k ∷ []) (c.number_in.ensures all n h) ∙ sym (ap (λ b. when b (number_at n c.args.prop)) on)

pub returns-else-has_entry : goal.returns-else-has_entry
returns-else-has_entry c = λ all n h.
    let off : is_assigned n c.args.prop ≡ false = sym (c.has_entry.ensures ∙ h.assigned c.args.prop) ∙ c.if-has_entry.false in
    sym (ap (λ b. when b (number_at n c.args.prop)) off)
