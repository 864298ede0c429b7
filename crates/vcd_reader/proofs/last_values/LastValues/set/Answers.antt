use Rattle.std.proofs.Common.{length, ap, arith}
use Rattle.vcd_reader.proofs.Values.{values_length, sets_narrow, sets_wide, sets_none}
use Rattle.vcd_reader.proofs.last_values.LastValues.set.Goals as goal

pub index_mut-requires : goal.index_mut-requires
index_mut-requires c = omega (arith, c.requires, c.self.inside.cells.ok.0, ap length c.self.view_is, values_length c.self.inside.cells.items c.self.inside.wide.items)

pub index_mut-requires-in-Some-2 : goal.index_mut-requires-in-Some-2
index_mut-requires-in-Some-2 c = omega (arith, c.requires, c.self.inside.cells.ok.0, ap length c.self.view_is, values_length c.self.inside.cells.items c.self.inside.wide.items)

pub index_mut-requires-in-Some-2-2 : goal.index_mut-requires-in-Some-2-2
index_mut-requires-in-Some-2-2 c = omega (arith, c.requires, c.self.invariant, c.self.inside.wide.ok.0, ap length c.self.view_is, values_length c.self.inside.cells.items c.self.inside.wide.items)

pub index_mut-requires-in-None : goal.index_mut-requires-in-None
index_mut-requires-in-None c = omega (arith, c.requires, c.self.inside.cells.ok.0, ap length c.self.view_is, values_length c.self.inside.cells.items c.self.inside.wide.items)

pub returns-in-Some : goal.returns-in-Some
returns-in-Some c = sets_narrow c.self.inside.cells.items c.self.inside.wide.items c.args.self.now c.args.at c.in-Some.number c.from.result c.args.value c.self.view_is c.if-number-from.true c.from.ensures c.in-Some.is

pub returns-in-Some-2 : goal.returns-in-Some-2
returns-in-Some-2 c = sets_wide c.self.inside.cells.items c.self.inside.wide.items c.args.self.now c.args.at c.in-Some-2.number c.args.value c.self.view_is c.self.invariant c.in-Some-2.is

pub returns-in-None : goal.returns-in-None
returns-in-None c = sets_none c.self.inside.cells.items c.self.inside.wide.items c.args.self.now c.args.at c.args.value c.self.view_is c.in-None.is
