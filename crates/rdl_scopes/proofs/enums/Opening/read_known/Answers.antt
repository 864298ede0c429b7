use Rattle.std.proofs.Common.{◌∙◌, ap, sym}
use Rattle.std.specs.Option.{option_copied}
use Rattle.plain_lemmas.proofs.Results.{on_ok-map as on_ok}
use Rattle.rdl_scopes.specs.Opened.{state_of}
use Rattle.rdl_scopes.proofs.Closing.{adds_known}
use Rattle.rdl_scopes.proofs.enums.Opening.read_known.Goals as goal

pub returns-in_ok-again-in-Some : goal.returns-in_ok-again-in-Some
returns-in_ok-again-in-Some c =
    let new = c.in_ok-again-in-Some in
    on_ok c.add.result _ _
    (λ adds items h here. adds_known c.args.closed.now items c.args.at c.args.item.now c.args.outer.now c.in-Some.of.now new.field-0 (state_of c.args.self.now) (state_of c.add.new.self) c.args.failures.now h here (sym c.at.ensures ∙ ap option_copied c.in-Some.is) new.ensures.table new.ensures.values adds)
    c.add.ensures
