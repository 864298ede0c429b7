use Rattle.std.proofs.Common.{◌∙◌, ◌++◌, [], ap, refl, subst, sym}
use Rattle.rdl_failures.specs.Noted.{Holds, with_all}
use Rattle.rdl_failures.proofs.Sets.{with_all-append}
use Rattle.rdl_layers.specs.Assignments.{defaults}
use Rattle.rdl_layers.specs.Phase4.{of_enums}
use Rattle.rdl_layers.specs.Judged.{all_failures, anywhere, failures_of}
use Rattle.rdl_assignments.specs.Live.{AreThinned, default_set}
use Rattle.rdl_open_settings.specs.Layered.{AreLocals, of_kind}
use Rattle.rdl_open_settings.specs.Texts.{AreThinnedLocals}
use Rattle.rdl_open_settings.proofs.Further.{same_dynamics, same_enums, thinned_defaults, thinned_locals}
use Rattle.rdl_open_settings.proofs.live.further_layers.Goals as goal

pub returns-clause-noted : goal.returns-clause-noted
returns-clause-noted c = λ b h.
    let t = c.args.bodies.now in
    let x = c.args.body.now in
    let start = c.args.failures.now in
    let ds = c.args.dynamics.value.items in
    let l = c.args.live.now in
    let can = c.requires.some in
    let shown = c.visible_in-visible.ensures b h in
    let own = of_kind x.kind b in
    let by_default = all_failures (failures_of anywhere) (defaults b) in
    let thin = subst (AreThinnedLocals x.kind start b) (sym c.deref.ensures.value) (thinned_locals t start x.text x.kind ds l c.requires.judged c.requires.live can.number x can.listed refl b h) in
    let first = c.in_ok-locals.ensures.noted b h.kind_is shown thin in
    let rest = subst (λ ls. AreThinned default_set anywhere c.locals_of.new.failures b [] b.items ls) (sym c.deref-2.ensures.value) (subst (λ fs. AreThinned default_set anywhere fs b [] b.items l.defaults.items) (sym first) (thinned_defaults t start x.text x.kind ds l c.requires.judged c.requires.live can.number x can.listed refl b h own)) in
    let both = c.in_ok-defaults.ensures.noted b shown rest ∙ ap (with_all by_default) first ∙ sym (with_all-append own by_default start) in
    let last = c.in_ok-varying_enums.ensures b h (λ q. subst (λ fs. Holds fs (of_enums b)) (sym both) (same_enums t start x.text x.kind ds l c.requires.judged c.requires.live can.number x can.listed refl b h (own ++ by_default) q)) in
    last ∙ ap (with_all (of_enums b)) both ∙ sym (with_all-append (own ++ by_default) (of_enums b) start) ∙ ap (λ k. with_all (of_kind k b ++ by_default ++ of_enums b) start) (sym h.kind_is)

pub returns-clause-given : goal.returns-clause-given
returns-clause-given c = λ b h.
    let t = c.args.bodies.now in
    let x = c.args.body.now in
    let start = c.args.failures.now in
    let ds = c.args.dynamics.value.items in
    let l = c.args.live.now in
    let can = c.requires.some in
    let shown = c.visible_in-visible.ensures b h in
    let own = of_kind x.kind b in
    let thin = subst (AreThinnedLocals x.kind start b) (sym c.deref.ensures.value) (thinned_locals t start x.text x.kind ds l c.requires.judged c.requires.live can.number x can.listed refl b h) in
    let first = c.in_ok-locals.ensures.noted b h.kind_is shown thin in
    let rest = subst (λ ls. AreThinned default_set anywhere c.locals_of.new.failures b [] b.items ls) (sym c.deref-2.ensures.value) (subst (λ fs. AreThinned default_set anywhere fs b [] b.items l.defaults.items) (sym first) (thinned_defaults t start x.text x.kind ds l c.requires.judged c.requires.live can.number x can.listed refl b h own)) in
    record {
      locals_are = subst (λ k. AreLocals k c.in_ok-locals.locals.items b) (sym h.kind_is) (c.in_ok-locals.ensures.given b h.kind_is shown thin);
      defaults_are = c.in_ok-defaults.ensures.given b shown rest;
      dynamics_are = same_dynamics t start x.text x.kind ds l c.requires.judged c.requires.live can.number x can.listed refl b h;
    }
