use Rattle.std.proofs.Common.{◌∙◌, ap, subst, sym}
use Rattle.std.specs.Option.{option_copied}
use Rattle.rdl_values.specs.Elaborated.{nodes_of}
use Rattle.rdl_values.specs.Instances.{body}
use Rattle.rdl_layers.specs.Assignments.{locals}
use Rattle.rdl_layers.specs.Judged.{failures_of, legal_on, sound}
use Rattle.rdl_layers.specs.declared.rank.Rank.TheVariants as rank
use Rattle.rdl_assignments.specs.Layers.{AreGiven}
use Rattle.rdl_open_settings.proofs.Own.{no_layers, own_in, own_locals}
use Rattle.rdl_open_settings.proofs.node.add_body.Goals as goal

pub returns-in_default : goal.returns-in_default
returns-in_default c = λ e tree count r n xs scene node id before. absurd (no_layers e tree c.args.layers.now count c.args.number r c.args.spot.now n scene node (sym c.find.ensures ∙ ap option_copied c.in_default.is))

pub returns : goal.returns
returns c = λ e tree count r n xs scene node id before.
    let assigned = sound (failures_of (legal_on n)) (locals (body n)) in
    let given = own_locals e tree c.args.layers.now count c.args.number r c.args.spot.now n scene node c.in-Some.found.now (sym c.find.ensures ∙ ap option_copied c.in-Some.is) in
    c.in_ok-add_given.ensures (nodes_of e) xs 0 assigned rank.Body (subst (λ gs. AreGiven 0 gs assigned) (sym c.deref.ensures.value) given) (own_in e tree c.args.layers.now count c.args.number r c.args.spot.now n scene node id) before
