use Rattle.std.proofs.Common.{◌≡◌, ◌∙◌, ap, sym, subst, get_or}
use Rattle.std.specs.Prelude.{option_and_then}
use Rattle.std.proofs.lemmas.Option.{slice_get-get_or}
use Rattle.rtl_net.specs.Net.{Has}
use Rattle.rtl_net.specs.Fold.{constant, constant_at}
use Rattle.rtl_net.specs.contracts.net.Netlist.{the_view}
use Rattle.rtl_net.proofs.Values.{constant_fits_if}
use Rattle.rtl_net.proofs.net.Netlist.constant.Goals as goal

pub returns-clause-fits : goal.returns-clause-fits
returns-clause-fits c =
    let stands : Has (the_view c.self.inside) c.args.id = subst (λ n. Has n c.args.id) (sym c.self.view_is) c.requires in
    let value : c.constant_of.result ≡ constant_at c.self.inside.nodes c.args.id.0
    = c.constant_of.ensures ∙ ap constant c.index-as_slice-id.is ∙ ap (λ ns. constant (get_or ns c.args.id.0 c.index-as_slice-id.result)) c.as_slice.ensures ∙ sym (ap (option_and_then constant) (slice_get-get_or c.self.inside.nodes c.args.id.0 _ stands.0)) in
    rw (← c.self.view_is) (constant_fits_if (the_view c.self.inside) c.self.invariant.0 c.args.id c.constant_of.result value)
