use Rattle.std.proofs.Common.{◌∙◌, ◌+◌, ◌-◌, ◌++◌, ℕ, map, flat_map, sym, ap}
use Rattle.rdl_values.specs.Bodies.{around}
use Rattle.rdl_values.specs.Values.{number_of}
use Rattle.rdl_layers.specs.Settings.{given}
use Rattle.rdl_merge.proofs.texts.form_widths.Goals as goal

pub returns : goal.returns
returns c = λ n dims range shown.
    let ws = c.in_ok-widths.ensures (around n.use_.scope) shown ∙ ap (flat_map (λ e. given (number_of (around n.use_.scope) e))) (sym dims) in
    c.in_ok-add_range.ensures ∙ (λ i. ws i ++ map (λ (r : ℕ × ℕ). r.0 + 1 - r.1) (range i))
