use Rattle.std.proofs.Common.{◌∙◌, None, Some, ap, option_map, slice_get}
use Rattle.rdl_tree.specs.declared.node.Node.{out-Node}
use Rattle.rdl_elab.proofs.Numbering.{number-by}
use Rattle.rdl_elab.proofs.siblings.Siblings.number_of.Goals as goal

pub returns-in-Some-find : goal.returns-in-Some-find
returns-in-Some-find c =
    c.number_at.ensures ∙ ap (λ rs. option_map (λ r. (out-Node r).id) (slice_get rs c.in-Some-find.place)) c.deref.ensures.value
    ∙ number-by c.args.self.now.nodes.items c.args.name.now c.in-Some.name c.args.self.now.places (Some c.in-Some-find.place) c.requires c.in-Some.is c.in-Some-find.ensures

pub returns-in-None : goal.returns-in-None
returns-in-None c = number-by c.args.self.now.nodes.items c.args.name.now c.in-Some.name c.args.self.now.places None c.requires c.in-Some.is c.in-None.ensures
