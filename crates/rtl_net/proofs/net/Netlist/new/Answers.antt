use Rattle.std.proofs.Common.{◌≡◌, true}
use Rattle.rtl_net.specs.Names.{is_identifier}
use Rattle.rtl_net.proofs.Making.{made_new}
use Rattle.rtl_net.proofs.NameLists.{names_none}
use Rattle.rtl_net.proofs.net.Netlist.new.Goals as goal

pub invariant_of-result : goal.invariant_of-result
invariant_of-result c =
    let named : is_identifier c.in_ok-copied.field-0 ≡ true = rw c.in_ok-copied.ensures c.requires in
    rw (c.new.ensures, c.new-2.ensures) (made_new c.in_ok-copied.field-0 named, names_none c.new-3.result c.new-3.ensures)
