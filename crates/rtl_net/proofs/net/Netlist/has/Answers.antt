use Rattle.std.specs.List.{list_any}
use Rattle.std.specs.Str.{bytes_eq}
use Rattle.std.proofs.Common.{◌≡◌, ◌∙◌, ap, sym, ◌||◌, false, is_some}
use Rattle.rtl_net.specs.Ports.{register_names, is_named, taken_in}
use Rattle.rtl_net.specs.contracts.net.Netlist.{the_view}
use Rattle.rtl_net.proofs.net.Netlist.has.Goals as goal

pub returns-else-is_some : goal.returns-else-is_some
returns-else-is_some c =
    let none : is_some (taken_in c.self.inside.ports c.args.name.now) ≡ false = ap is_some (sym c.taken.ensures) ∙ sym c.is_some.ensures ∙ c.if-is_some.false in
    c.is_some-else-is_some.ensures ∙ ap is_some c.find.ensures ∙ c.self.invariant.1.at c.args.name.now
    ∙ sym (ap (λ n. is_named n c.args.name.now) (sym c.self.view_is) ∙ ap (λ b. b || list_any (bytes_eq c.args.name.now) (register_names (the_view c.self.inside))) none)
