use Rattle.std.proofs.Common.{IsTrue, codes, refl, ap, sym, ◌∙◌, subst}
use Rattle.rtl_net.specs.Net.{Net}
use Rattle.rtl_net.specs.Names.{is_identifier}
use Rattle.gen_apb.proofs.Running.{is_netlist}
use Rattle.gen_front.proofs.Titles.{module_named}
use Rattle.gen_apb.proofs.assembly.apb.Goals as goal

pub new-requires : goal.new-requires
new-requires c = subst (λ n. IsTrue (is_identifier n)) (sym (c.deref.ensures.value ∙ c.in_ok-name.ensures)) (module_named c.args.block.now c.requires (codes "regs") refl)

pub returns : goal.returns
returns c = is_netlist c.args.block.now c.requires c.build.new.net c.nodes-nodes.ensures.made c.in_ok-build.ensures.built (c.names_differ.ensures c.args.block.now c.requires)
    (c.in_ok-build.ensures.name ∙ ap (λ (n : Net). n.name) c.in_ok-net.ensures ∙ c.deref.ensures.value ∙ c.in_ok-name.ensures)
