use Rattle.replies.proofs.modules.axi_net.Goals as goal

pub returns-clause-agrees : goal.returns-clause-agrees
returns-clause-agrees c = c.axi_text_agrees.ensures _ _ _ c.in_ok-net.ensures.netlist
