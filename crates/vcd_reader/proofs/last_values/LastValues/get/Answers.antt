use Rattle.std.proofs.Common.{length, ap, arith}
use Rattle.vcd_reader.proofs.Values.{values_length, gets_narrow, gets_wide, gets_none}
use Rattle.vcd_reader.proofs.last_values.LastValues.get.Goals as goal

pub index-cell-requires : goal.index-cell-requires
index-cell-requires c = omega (arith, c.requires, c.self.inside.cells.ok.0, ap length c.self.view_is, values_length c.self.inside.cells.items c.self.inside.wide.items)

pub index-requires : goal.index-requires
index-requires c = omega (arith, c.requires, c.self.invariant, c.self.inside.wide.ok.0, ap length c.self.view_is, values_length c.self.inside.cells.items c.self.inside.wide.items)

pub returns-then-cell-lt-WIDE : goal.returns-then-cell-lt-WIDE
returns-then-cell-lt-WIDE c = gets_narrow c.self.inside.cells.items c.self.inside.wide.items c.args.self.now c.args.at c.index-cell.result.now c.from.result c.self.view_is c.requires c.index-cell.ensures c.if-cell-lt-WIDE.true c.from.ensures

pub returns-then-cell : goal.returns-then-cell
returns-then-cell c = gets_wide c.self.inside.cells.items c.self.inside.wide.items c.args.self.now c.args.at c.index-cell.result.now c.index.result.now c.self.view_is c.requires c.self.invariant c.index-cell.ensures c.if-cell.true c.index.ensures

pub returns-else-cell : goal.returns-else-cell
returns-else-cell c = gets_none c.self.inside.cells.items c.self.inside.wide.items c.args.self.now c.args.at c.index-cell.result.now c.self.view_is c.requires c.index-cell.ensures (omega (arith, c.if-cell-lt-WIDE.false, c.if-cell.false))
