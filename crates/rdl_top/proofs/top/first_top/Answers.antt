use Rattle.std.proofs.Common.{◌∙◌, ◌+◌, Some, take, drop, sym, ap, subst}
use Rattle.std.specs.Option.{option_or}
use Rattle.std.proofs.lemmas.List.{at_drop_all}
use Rattle.rdl_values.specs.Bodies.{standing, standing_from}
use Rattle.rdl_values.specs.Top.{top_at}
use Rattle.rdl_values.specs.Values.{nearest}
use Rattle.rdl_top.specs.Topped.{Means}
use Rattle.rdl_top.proofs.Topping.{first_more, means-none, means-some}
use Rattle.rdl_top.proofs.top.first_top.Goals as goal

pub returns-then-is_some : goal.returns-then-is_some
returns-then-is_some c = λ s e.
    let items = c.args.items.now in
    let w = Some c.args.wanted.now in
    let step = c.loop-position.invariant s e ∙ first_more s items c.loop-position.position c.index-items-position.result c.loop-position-test.true c.index-items-position.is w in
    let here = means-some s items c.top_in-top.result _ _ (sym c.is_some.ensures ∙ c.if-is_some.true) (c.top_in-top.ensures s items) in
    subst (Means s items c.top_in-top.result) (sym (ap (λ is. nearest (top_at w s) (standing is)) e ∙ step)) here

pub loop-position-preserved : goal.loop-position-preserved
loop-position-preserved c = λ s e.
    let items = c.args.items.now in
    let w = Some c.args.wanted.now in
    let step = c.loop-position.invariant s e ∙ first_more s items c.loop-position.position c.index-items-position.result c.loop-position-test.true c.index-items-position.is w in
    step ∙ ap (λ o. option_or o (nearest (top_at w s) (standing_from (take (c.loop-position.position + 1) items) (drop (c.loop-position.position + 1) items)))) (means-none s items c.top_in-top.result _ (sym c.is_some.ensures ∙ c.if-is_some.false) (c.top_in-top.ensures s items))

pub returns : goal.returns
returns c = λ s e.
    let items = c.args.items.now in
    let w = Some c.args.wanted.now in
    ap (λ is. nearest (top_at w s) (standing is)) e ∙ c.loop-position.invariant s e ∙ at_drop_all (λ is. nearest (top_at w s) (standing_from (take c.loop-position.position items) is)) items c.loop-position.position c.loop-position-test.false
