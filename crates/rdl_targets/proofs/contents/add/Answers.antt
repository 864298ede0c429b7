use Rattle.std.proofs.Common.{refl}
use Rattle.rdl_targets.proofs.Contained.{one_put}
use Rattle.rdl_targets.proofs.contents.add.Goals as goal

pub returns : goal.returns
returns c = one_put c.args.body c.args.node.now (record { body = c.args.body; node = c.args.node }) c.args.nodes.now.items c.push.new.self.items c.in_ok-push.ensures.items refl refl
