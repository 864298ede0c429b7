use Rattle.std.proofs.Common.{◌<◌, ◌^◌, length, subst}
use Rattle.rb_edge.proofs.Flowing.{sent, cut_short, whole_of, part_of, rose_of}
use Rattle.v_printer.proofs.Whole.{text_of_net}
use Rattle.v_printer.proofs.module.print.Goals as goal

pub returns-in_err-put_module-clause-module : goal.returns-in_err-put_module-clause-module
returns-in_err-put_module-clause-module g c = text_of_net c.args.net.now c.nodes-nodes.ensures.made c.requires (subst (λ ns. length ns < 2 ^ 64) c.nodes-nodes.ensures.value c.nodes-nodes.type_inv.0)

pub returns-in_err-put_module-clause-whole : goal.returns-in_err-put_module-clause-whole
returns-in_err-put_module-clause-whole g c = whole_of c.from_residual.result (cut_short c.from_residual.result c.from_residual.ensures.0 c.new-page.ensures c.in_err-put_module.ensures)

pub returns-in_err-put_module-clause-part : goal.returns-in_err-put_module-clause-part
returns-in_err-put_module-clause-part g c = part_of c.from_residual.result (cut_short c.from_residual.result c.from_residual.ensures.0 c.new-page.ensures c.in_err-put_module.ensures)

pub returns-in_err-put_module-clause-later : goal.returns-in_err-put_module-clause-later
returns-in_err-put_module-clause-later g c = c.in_err-put_module.ensures.later

pub returns-in_err-put_module-clause-failed : goal.returns-in_err-put_module-clause-failed
returns-in_err-put_module-clause-failed g c = rose_of c.from_residual.result (cut_short c.from_residual.result c.from_residual.ensures.0 c.new-page.ensures c.in_err-put_module.ensures)

pub returns-clause-module : goal.returns-clause-module
returns-clause-module g c = text_of_net c.args.net.now c.nodes-nodes.ensures.made c.requires (subst (λ ns. length ns < 2 ^ 64) c.nodes-nodes.ensures.value c.nodes-nodes.type_inv.0)

pub returns-clause-whole : goal.returns-clause-whole
returns-clause-whole g c = whole_of c.flush.result (sent c.new-page.ensures c.in_ok-put_module.ensures c.flush.ensures.flows c.flush.ensures.empty)

pub returns-clause-part : goal.returns-clause-part
returns-clause-part g c = part_of c.flush.result (sent c.new-page.ensures c.in_ok-put_module.ensures c.flush.ensures.flows c.flush.ensures.empty)

pub returns-clause-later : goal.returns-clause-later
returns-clause-later g c = (sent c.new-page.ensures c.in_ok-put_module.ensures c.flush.ensures.flows c.flush.ensures.empty).later

pub returns-clause-failed : goal.returns-clause-failed
returns-clause-failed g c = rose_of c.flush.result (sent c.new-page.ensures c.in_ok-put_module.ensures c.flush.ensures.flows c.flush.ensures.empty)
