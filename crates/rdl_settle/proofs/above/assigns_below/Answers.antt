use Rattle.std.proofs.Common.{◌∙◌, ◌==◌, ap, length, not, sym}
use Rattle.std.specs.Option.{option_copied}
use Rattle.rdl_settle.specs.Gathered.{has_dynamics}
use Rattle.rdl_settle.proofs.above.assigns_below.Goals as goal

pub returns-in-Some : goal.returns-in-Some
returns-in-Some c = ap not (c.is_empty.ensures ∙ ap (λ ws. length ws == 0) c.dynamics.ensures) ∙ ap has_dynamics (sym (ap option_copied c.in-Some.is) ∙ c.find.ensures)
