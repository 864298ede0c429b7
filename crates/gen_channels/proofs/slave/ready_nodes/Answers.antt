use Rattle.std.proofs.Common.{◌==◌}
use Rattle.rtl_net.specs.Value.{bit_of}
use Rattle.rtl_net.proofs.Nets.{IsNode-grows}
use Rattle.gen_channels.specs.Nodes.{kept_seen}
use Rattle.gen_channels.proofs.Says.{says_none}
use Rattle.gen_channels.proofs.slave.ready_nodes.Goals as goal

pub returns-clause-ready : goal.returns-clause-ready
returns-clause-ready c =
    let n0 = c.args.net.now in
    let n1 = c.opposite.new.net in
    let n2 = c.opposite-2.new.net in
    let k = c.args.kept in
    record {
      awready = IsNode-grows n1 n2 c.in_ok-awready.awready 1 (λ v. bit_of ((kept_seen v).aw == 0)) c.opposite-2.ensures.older
          (says_none n0 n1 k.aw c.in_ok-awready.awready (λ v. (kept_seen v).aw) c.opposite.ensures.older c.in_ok-awready.ensures.node c.requires.aw);
      wready = says_none n1 n2 k.w c.in_ok-wready.wready (λ v. (kept_seen v).w) c.opposite-2.ensures.older c.in_ok-wready.ensures.node (IsNode-grows n0 n1 k.w 1 (λ v. (kept_seen v).w) c.opposite.ensures.older c.requires.w);
    }
