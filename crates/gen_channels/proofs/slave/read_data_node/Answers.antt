use Rattle.std.proofs.Common.{refl}
use Rattle.rtl_net.proofs.Nets.{Stands-has}
use Rattle.axi_model.specs.Channels.{reads}
use Rattle.gen_channels.specs.Nodes.{kept_seen, pins_seen}
use Rattle.gen_channels.proofs.Nexting.{chosen_is}
use Rattle.gen_channels.proofs.slave.read_data_node.Goals as goal

pub returns-clause-next : goal.returns-clause-next
returns-clause-next c = chosen_is c.args.net.now c.choose.new.net c.args.slave.acts.reads c.args.answer c.args.kept c.in_ok-id.id 32 _ (λ v. reads (pins_seen v) (kept_seen v)) (λ v. v.node c.args.answer.0) (λ v. (kept_seen v).rdata)
    c.choose.ensures.older c.requires.answer.width c.in_ok-id.ensures.node c.requires.slave.acts.reading (record { stands = c.requires.answer; value = λ v s. refl }) c.requires.kept
