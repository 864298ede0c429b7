use Rattle.std.proofs.Common.{sym, subst}
use Rattle.rdl_values.specs.Elaborated.{nodes_of}
use Rattle.rdl_layers.specs.Says.{Says}
use Rattle.rdl_layers.specs.Settings.{setting}
use Rattle.rdl_resolve.specs.Aimed.{IsAim}
use Rattle.rdl_resolve.proofs.Named.{says-ref}
use Rattle.rdl_resolve.proofs.aims.aim_of.Goals as goal

pub returns : goal.returns
returns c = λ n among says.
    let e = c.args.known.elab.now in
    let p = c.args.prop in
    let ns = nodes_of e in
    let r = says-ref ns c.in-Ref.path c.in-Ref.item c.in-Ref.scope c.in-Ref.place (setting n p) (subst (λ s. Says ns s (setting n p)) c.in-Ref.is says) in
    let seen = c.in-Some.ensures.seen n p c.in-Ref.path.now c.in-Ref.item.now r.0 c.in-Ref.place among r.1 r.2 in
    let led = c.in_ok-node.ensures e r.0 c.requires.known.clean c.requires.known.members_ seen in
    let aim = c.aimed.ensures e c.in-Ref.path.now r.0 c.requires.known.clean c.requires.known.rows_ led in
    subst (λ m. IsAim e p m c.aimed.result) (sym r.1) aim
