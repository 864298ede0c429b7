use Rattle.std.proofs.Common.{◌∙◌, ◌∷◌, sym, ap, subst, take, flat_map}
use Rattle.std.proofs.lemmas.List.{take_all}
use Rattle.rdl_values.specs.Bodies.{around, standing}
use Rattle.rdl_failures.specs.Noted.{with_all}
use Rattle.rdl_failures.specs.Shown.{IsAlike}
use Rattle.rdl_layers.specs.Phase4.{scope_of_enum}
use Rattle.rdl_scopes.specs.Opened.{bodies, state_of}
use Rattle.rdl_scopes.proofs.ByItem.{opened_step}
use Rattle.rdl_assignments.proofs.Turns.{fails_at, items-step, shown-before}
use Rattle.rdl_assignments.proofs.enums.judge_enums.Goals as goal

pub returns-then-not-some_have : goal.returns-then-not-some_have
returns-then-not-some_have c = λ b same e a. ap (λ fs. with_all fs c.args.failures.now) (sym (c.some_have.ensures c.if-not-some_have.true b same))

pub loop-item-preserved : goal.loop-item-preserved
loop-item-preserved c =
    let items = c.args.items.now in
    let i = c.loop-item.item-index in
    let x = c.item-item.result in
    let old = state_of c.loop-item.opening in
    record {
      opened = opened_step c.args.table.bound items i x c.args.outer.now old (state_of c.read.new.self) _ _ c.loop-item-test.true c.item-item.is c.requires.in_order c.loop-item.invariant.opened c.in_ok-read.ensures;
      noted = λ b e a. items-step b items i x c.args.failures.now c.loop-item.failures c.judge_item.new.failures c.loop-item-test.true c.item-item.is (c.loop-item.invariant.noted b e a)
          (c.in_ok-judge_item.ensures (scope_of_enum b (take i items)) (subst (λ t. IsAlike (t ∷ bodies c.args.outer.now) (around (scope_of_enum b (take i items)))) (sym c.table-in-loop-item.ensures) (shown-before b c.args.table.bound (take i items) c.args.outer.now old e c.loop-item.invariant.opened a)));
    }

pub returns : goal.returns
returns c = λ b same e a.
    c.loop-item.invariant.noted b e a ∙ ap (λ is. with_all (flat_map (fails_at b) (standing is)) c.args.failures.now) (take_all c.loop-item.item-index c.args.items.now c.loop-item-test.false ∙ sym same)
