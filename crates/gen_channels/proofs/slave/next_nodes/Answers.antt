use Rattle.rtl_net.proofs.Nets.{Grows-trans, IsNode-grows}
use Rattle.gen_channels.specs.Slaves.{moved_seen}
use Rattle.gen_channels.proofs.Growing.{slave-grows}
use Rattle.gen_channels.proofs.slave.next_nodes.Goals as goal

pub data_nexts-requires : goal.data_nexts-requires
data_nexts-requires c = slave-grows c.args.block.now c.args.net.now c.address_nexts.new.net c.args.slave c.address_nexts.ensures.older c.requires.slave

pub write_nexts-requires-clause-slave : goal.write_nexts-requires-clause-slave
write_nexts-requires-clause-slave c =
    let n0 = c.args.net.now in
    let n1 = c.address_nexts.new.net in
    let n2 = c.data_nexts.new.net in
    slave-grows c.args.block.now n0 n2 c.args.slave (Grows-trans n0 n1 n2 c.address_nexts.ensures.older c.data_nexts.ensures.older) c.requires.slave

pub read_nexts-requires : goal.read_nexts-requires
read_nexts-requires c =
    let n0 = c.args.net.now in
    let n1 = c.address_nexts.new.net in
    let n2 = c.data_nexts.new.net in
    let n3 = c.write_nexts.new.net in
    slave-grows c.args.block.now n0 n3 c.args.slave (Grows-trans n0 n2 n3 (Grows-trans n0 n1 n2 c.address_nexts.ensures.older c.data_nexts.ensures.older) c.write_nexts.ensures.older) c.requires.slave

pub returns-clause-nexts : goal.returns-clause-nexts
returns-clause-nexts c =
    let b = c.args.block.now in
    let n1 = c.address_nexts.new.net in
    let n2 = c.data_nexts.new.net in
    let n3 = c.write_nexts.new.net in
    let n4 = c.read_nexts.new.net in
    let g34 = c.read_nexts.ensures.older in
    let g24 = Grows-trans n2 n3 n4 c.write_nexts.ensures.older g34 in
    let g14 = Grows-trans n1 n2 n4 c.data_nexts.ensures.older g24 in
    record {
      aw = IsNode-grows n1 n4 c.in_ok-address.address.aw 1 (λ v. (moved_seen b v).aw) g14 c.in_ok-address.ensures.aw;
      awaddr = IsNode-grows n1 n4 c.in_ok-address.address.awaddr 32 (λ v. (moved_seen b v).awaddr) g14 c.in_ok-address.ensures.awaddr;
      w = IsNode-grows n2 n4 c.in_ok-data.data.w 1 (λ v. (moved_seen b v).w) g24 c.in_ok-data.ensures.w;
      wdata = IsNode-grows n2 n4 c.in_ok-data.data.wdata 32 (λ v. (moved_seen b v).wdata) g24 c.in_ok-data.ensures.wdata;
      wstrb = IsNode-grows n2 n4 c.in_ok-data.data.wstrb 4 (λ v. (moved_seen b v).wstrb) g24 c.in_ok-data.ensures.wstrb;
      b = IsNode-grows n3 n4 c.in_ok-write.write.b 1 (λ v. (moved_seen b v).b) g34 c.in_ok-write.ensures.b;
      bresp = IsNode-grows n3 n4 c.in_ok-write.write.bresp 2 (λ v. (moved_seen b v).bresp) g34 c.in_ok-write.ensures.bresp;
      r = c.in_ok-read.ensures.r;
      rresp = c.in_ok-read.ensures.rresp;
    }
