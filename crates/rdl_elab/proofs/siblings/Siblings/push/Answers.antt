use Rattle.std.proofs.Common.{arith}
use Rattle.rdl_elab.proofs.Numbering.{siblings_more}
use Rattle.rdl_elab.proofs.siblings.Siblings.push.Goals as goal

pub returns-clause-siblings : goal.returns-clause-siblings
returns-clause-siblings c =
    siblings_more c.args.self.now.places c.put.new.self c.args.self.now.nodes.items c.push.new.self.items c.args.node c.len-place.result c.requires (omega (arith, c.len-place.ensures, c.args.self.now.nodes.ok.0)) c.in_ok-put.ensures.put c.in_ok-push.ensures.items
