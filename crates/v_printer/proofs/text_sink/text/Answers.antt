use Rattle.std.proofs.Common.{◌≡◌, List, ℕ, ◌++◌, ap, sym, ◌∙◌, subst}
use Rattle.v_printer.specs.Layout.{text_of}
use Rattle.v_printer.specs.TextOf.{IsTextOf}
use Rattle.v_printer.proofs.text_sink.text.Goals as goal

pub returns-in-Ok : goal.returns-in-Ok
returns-in-Ok c =
    let same : c.print.new.out.bytes.items ≡ text_of c.args.net.now = c.in-Ok.ensures.whole.appended ∙ ap (λ (l : List ℕ). l ++ text_of c.args.net.now) c.new.ensures.items in
    record { «module» = subst (IsTextOf c.args.net.now) (sym same) c.in-Ok.ensures.module; same = same }
