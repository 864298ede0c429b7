use Rattle.std.proofs.Common.{◌∙◌, ap, sym}
use Rattle.rdl_values.specs.Phase3.{of_enums, twice_defined}
use Rattle.rdl_failures.specs.Noted.{with_all}
use Rattle.rdl_failures.proofs.Sets.{again, with_all-append}
use Rattle.rdl_bodies.proofs.opening.names_of.Goals as goal

pub returns-clause-noted : goal.returns-clause-noted
returns-clause-noted c = λ b i n a.
    let before = c.args.failures.now in
    c.in_ok-opened.ensures.noted b i (n ∙ ap (λ t. t.bound) (sym c.in_ok-table.ensures)) a ∙ ap (with_all (of_enums b)) (sym (again (twice_defined b) before (c.requires.twice b i))) ∙ sym (with_all-append (twice_defined b) (of_enums b) before)
