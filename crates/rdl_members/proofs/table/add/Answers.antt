use Rattle.std.proofs.Common.{refl, sym}
use Rattle.rdl_members.proofs.Firsts.{row-added}
use Rattle.rdl_members.proofs.table.add.Goals as goal

pub returns : goal.returns
returns c = row-added c.args.root c.args.row.now (record { body = c.in-Some.body; node = c.args.row.now.node }) c.args.nodes.now.items c.push.new.self.items c.in_ok-push.ensures.items (sym c.in-Some.ensures) refl
