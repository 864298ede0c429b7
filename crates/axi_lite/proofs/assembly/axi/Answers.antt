use Rattle.std.proofs.Common.{IsTrue, codes, refl, ap, sym, ◌∙◌, subst}
use Rattle.rtl_net.specs.Net.{Net}
use Rattle.rtl_net.specs.Names.{is_identifier}
use Rattle.axi_model.specs.Axi.{AxiKept}
use Rattle.axi_model.specs.Channels.{idle}
use Rattle.axi_model.specs.Transfers.{AreTransfers, moments}
use Rattle.gen_front.proofs.Titles.{module_named}
use Rattle.axi_lite.proofs.Running.{is_netlist}
use Rattle.axi_lite.proofs.assembly.axi.Goals as goal

pub new-requires : goal.new-requires
new-requires c = subst (λ n. IsTrue (is_identifier n)) (sym (c.deref.ensures.value ∙ c.in_ok-name.ensures)) (module_named c.args.block.now c.requires (codes "axi") refl)

pub returns-clause-netlist : goal.returns-clause-netlist
returns-clause-netlist c = is_netlist c.args.block.now c.requires c.build.new.net c.nodes-nodes.ensures.made c.in_ok-build.ensures.built
    (c.in_ok-build.ensures.name ∙ ap (λ (n : Net). n.name) c.in_ok-net.ensures ∙ c.deref.ensures.value ∙ c.in_ok-name.ensures)

pub returns-clause-transfers : goal.returns-clause-transfers
returns-clause-transfers c = λ fields contents vectors outputs within holds fits on run.
    let b = c.args.block.now in
    let net = c.build.new.net in
    let of = is_netlist b c.requires net c.nodes-nodes.ensures.made c.in_ok-build.ensures.built
    (c.in_ok-build.ensures.name ∙ ap (λ (n : Net). n.name) c.in_ok-net.ensures ∙ c.deref.ensures.value ∙ c.in_ok-name.ensures) in
    let k : AxiKept = record { fields = fields; channels = idle } in
    let machine = c.axi_runs.ensures b c.requires k vectors in
    let same = c.one_run.ensures net of.made of.whole.driven contents vectors machine.0 outputs (of.runs k contents vectors machine.0 within holds fits tt machine.1) run in
    subst (λ os. AreTransfers b (moments b vectors os)) same (c.transfers_belong_together.ensures b fields vectors machine.0 on machine.1)
