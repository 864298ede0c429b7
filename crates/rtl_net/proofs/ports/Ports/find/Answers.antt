use Rattle.std.proofs.Common.{◌∙◌}
use Rattle.rtl_net.specs.Ports.{seat_names}
use Rattle.rtl_net.proofs.NameLists.{found_at}
use Rattle.rtl_net.proofs.ports.Ports.find.Goals as goal

pub returns-clause-found : goal.returns-clause-found
returns-clause-found c = rw (← c.self.view_is) (found_at c.args.name.now (seat_names c.self.inside.seats.items) c.find.result (c.find.ensures ∙ c.self.invariant.at c.args.name.now)).0

pub returns-clause-first : goal.returns-clause-first
returns-clause-first c = rw (← c.self.view_is) (found_at c.args.name.now (seat_names c.self.inside.seats.items) c.find.result (c.find.ensures ∙ c.self.invariant.at c.args.name.now)).1

pub returns-clause-absent : goal.returns-clause-absent
returns-clause-absent c = rw (← c.self.view_is) (found_at c.args.name.now (seat_names c.self.inside.seats.items) c.find.result (c.find.ensures ∙ c.self.invariant.at c.args.name.now)).2
