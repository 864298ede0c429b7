use Rattle.std.proofs.Common.{◌∙◌, ap, sym}
use Rattle.std.specs.Option.{option_copied}
use Rattle.plain_lemmas.proofs.Results.{on_ok-map as on_ok}
use Rattle.rdl_open_settings.specs.Layered.{of_layers}
use Rattle.rdl_open_settings.specs.Texts.{AreShared}
use Rattle.rdl_open_settings.proofs.Further.{judged_known, some_is, texts_on}
use Rattle.rdl_open_settings.proofs.texts.JudgedTexts.judge.Goals as goal

pub further_layers-requires-clause-live : goal.further_layers-requires-clause-live
further_layers-requires-clause-live c = (c.in_ok-note_live.ensures.live c.args.failures.now c.requires.kept).live c.args.body.now.text c.in-Some-get.live.now (sym c.get.ensures.value ∙ ap option_copied c.in-Some-get.is)

pub further_layers-requires-clause-judged : goal.further_layers-requires-clause-judged
further_layers-requires-clause-judged c =
    let t = c.args.self.now in
    let x = c.args.body.now in
    let known = some_is _ c.in-Some.dynamics (λ d. AreShared t x.text x.kind d.value.items) c.in-Some.is c.in_ok-dynamics.ensures in
    judged_known c.args.bodies.now c.args.failures.now t x.text known.0 x.kind c.in-Some.dynamics.value.items c.requires.kept known.1 known.2 known.3

pub returns-in-Some-get-clause-texts : goal.returns-in-Some-get-clause-texts
returns-in-Some-get-clause-texts c =
    let can = c.requires.some in
    on_ok c.further_layers.result _ _ (λ noted. texts_on c.args.bodies.now c.args.failures.now c.further_layers.new.failures (of_layers can.shown) c.note_live.new.self (noted can.shown can.open_) (c.in_ok-note_live.ensures.live c.args.failures.now c.requires.kept)) c.further_layers.ensures.noted

pub returns-clause-texts : goal.returns-clause-texts
returns-clause-texts c =
    let can = c.requires.some in
    on_ok c.layers_of.result _ _ (λ noted. texts_on c.args.bodies.now c.args.failures.now c.layers_of.new.failures (of_layers can.shown) c.note_live.new.self (noted can.shown can.open_) (c.in_ok-note_live.ensures.live c.args.failures.now c.requires.kept)) c.layers_of.ensures.noted
