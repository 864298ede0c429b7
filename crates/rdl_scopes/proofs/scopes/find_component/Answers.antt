use Rattle.std.proofs.Common.{◌∙◌, sym, ap, refl}
use Rattle.rdl_values.specs.Bodies.{component}
use Rattle.rdl_scopes.proofs.Nested.{cut_off, found_there, not_there, shows_none, stands_at}
use Rattle.rdl_scopes.proofs.scopes.find_component.Goals as goal

pub returns-in_default-clause-found : goal.returns-in_default-clause-found
returns-in_default-clause-found c = λ ts scope h.
    absurd (cut_off ts c.args.components.now c.args.numbers.now c.args.uptos.now scope h c.args.name.now c.loop-level.level 0 c.loop-level-test.true (c.loop-level.invariant ts scope h) (sym c.number_at.ensures ∙ c.in_default.is))

pub returns-in-Some-find_in-clause-found : goal.returns-in-Some-find_in-clause-found
returns-in-Some-find_in-clause-found c = λ ts scope h.
    found_there ts c.args.components.now c.args.numbers.now c.args.uptos.now scope h c.args.name.now c.loop-level.level _ c.loop-level-test.true (c.loop-level.invariant ts scope h) _ (record { level = c.loop-level.level; position = c.in-Some-find_in.position; def = c.in-Some-find_in.def })
    (sym c.number_at.ensures ∙ c.in-Some.is) refl c.in-Some-find_in.ensures.found

pub returns-in-Some-find_in-clause-stands : goal.returns-in-Some-find_in-clause-stands
returns-in-Some-find_in-clause-stands c =
    stands_at c.args.components.now c.args.numbers.now (record { level = c.loop-level.level; position = c.in-Some-find_in.position; def = c.in-Some-find_in.def }) _ c.loop-level-test.true c.in-Some-find_in.ensures.stands

pub loop-level-preserved : goal.loop-level-preserved
loop-level-preserved c = λ ts scope h.
    not_there ts c.args.components.now c.args.numbers.now c.args.uptos.now scope h c.args.name.now c.loop-level.level _ c.loop-level-test.true (c.loop-level.invariant ts scope h) _ (sym c.number_at.ensures ∙ c.in-Some.is) c.in_default-find_in.ensures.found

pub returns-clause-found : goal.returns-clause-found
returns-clause-found c = λ ts scope h.
    c.loop-level.invariant ts scope h ∙ ap (component c.args.name.now) (shows_none ts c.args.components.now c.args.numbers.now c.args.uptos.now scope c.loop-level.level c.loop-level-test.false h)
