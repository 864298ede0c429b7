use Rattle.std.proofs.Common.{◌≡◌, ◌∙◌, ℕ, ◌<◌, not, true, Option, None, Some, List, [], ◌∷◌, length, get_or, drop, sym, ap, subst, arith, length-append}
use Rattle.std.specs.Option.{is_some, unwrap_or}
use Rattle.plain_lemmas.proofs.Options.{is_some-false as none-from}
use Rattle.plain_lemmas.proofs.Results.{if_ok-map as if-ok}
use Rattle.topological_order.specs.Levels.{rank_at}
use Rattle.rdl_refs.specs.Graph.{Edges, IsCircleOf}
use Rattle.rdl_refs.specs.Walk.{IsWalk}
use Rattle.rdl_refs.proofs.Ending.{need-unranked, unranked-need-refers}
use Rattle.rdl_refs.proofs.Gets.{some-from}
use Rattle.plain_lemmas.proofs.Lists.{any-default}
use Rattle.rdl_refs.proofs.Walks.{circle-found, first-within, path-room, walk-more, walk-short}
use Rattle.rdl_refs.proofs.graph.circle_from.Goals as goal

pub loop-path-preserved : goal.loop-path-preserved
loop-path-preserved c =
    let edges = c.args.edges.now in
    let levels = c.requires.levels in
    let w = c.loop-path.invariant in
    let thing = c.loop-path.thing in
    let next = c.next-thing.result in
    let here : thing < length c.loop-path.marks.items = (let a = w.unranked.0 in let b = w.sized in let s = levels.sized in omega (arith, a, b, s)) in
    let free : rank_at c.loop-path.marks.items thing ≡ None = any-default c.loop-path.marks.items thing None c.index.result.now here ∙ (sym c.index.ensures ∙ none-from c.index.result.now (c.is_none.ensures ∙ ap not c.loop-path-test.true)) in
    let w' = walk-more edges _ _ c.loop-path.path.items thing next w free (unranked-need-refers edges _ thing next c.next-thing.ensures) (need-unranked edges _ _ levels c.requires.within thing next c.next-thing.ensures) levels.sized in
    let len : c.len-in-loop-path.result ≡ length c.loop-path.path.items = c.len-in-loop-path.ensures ∙ c.loop-path.path.ok.0 in
    rw (c.in_ok-push.ensures.items, c.of.ensures, len) w'

pub loop-path-smaller : goal.loop-path-smaller
loop-path-smaller c =
    let short = walk-short c.args.edges.now _ _ _ _ (loop-path-preserved c) in
    let longer = ap length c.in_ok-push.ensures.items in
    let one = length-append c.loop-path.path.items (c.loop-path.thing ∷ []) in
    omega (arith, short, longer, one)

-- the place at which the thing stands
marked : (edges : Edges) (ranks marks : List (Option ℕ)) (path : List ℕ) (thing first : ℕ) (one two : Option ℕ) → IsWalk edges ranks marks path thing → length ranks ≡ length edges
    → one ≡ get_or marks thing one → is_some one ≡ true → two ≡ get_or marks thing two → first ≡ unwrap_or two 0 → rank_at marks thing ≡ Some first
marked edges ranks marks path thing first one two w sized at_one some at_two is =
    let here : thing < length marks = (let a = w.unranked.0 in let b = w.sized in omega (arith, a, b, sized)) in
    let e : rank_at marks thing ≡ one = any-default marks thing None one here ∙ sym at_one in
    let f : rank_at marks thing ≡ two = any-default marks thing None two here ∙ sym at_two in
    f ∙ (some-from two 0 (ap is_some (sym f ∙ e) ∙ some) ∙ ap Some (sym is))

pub of-requires : goal.of-requires
of-requires c =
    let w = c.loop-path.invariant in
    let thing = c.loop-path.thing in
    let here : thing < length c.loop-path.marks.items = (let a = w.unranked.0 in let b = w.sized in let s = c.requires.levels.sized in omega (arith, a, b, s)) in
    let free : rank_at c.loop-path.marks.items thing ≡ None = any-default c.loop-path.marks.items thing None c.index.result.now here ∙ (sym c.index.ensures ∙ none-from c.index.result.now (c.is_none.ensures ∙ ap not c.loop-path-test.true)) in
    let l = path-room c.args.edges.now _ _ c.loop-path.path.items thing w free c.requires.levels.sized in
    let few = c.len.ensures.few in let n = c.len.ensures.len in let d = c.loop-path.path.ok.0 in
    omega (arith, l, few, n, d, c.len-in-loop-path.ensures)

pub split_at-requires : goal.split_at-requires
split_at-requires c =
    let mark = marked c.args.edges.now _ _ c.loop-path.path.items c.loop-path.thing c.unwrap_or-first.result c.index.result.now c.index-2.result.now c.loop-path.invariant c.requires.levels.sized c.index.ensures c.loop-path-test.ensures c.index-2.ensures (c.unwrap_or-first.ensures ∙ ap (λ o. unwrap_or o 0) c.get.ensures) in
    let l = first-within c.args.edges.now _ _ _ _ _ c.loop-path.invariant mark in let e = ap length c.deref.ensures.value in omega (arith, l, e)

pub returns : goal.returns
returns c =
    let mark = marked c.args.edges.now _ _ c.loop-path.path.items c.loop-path.thing c.unwrap_or-first.result c.index.result.now c.index-2.result.now c.loop-path.invariant c.requires.levels.sized c.index.ensures c.loop-path-test.ensures c.index-2.ensures (c.unwrap_or-first.ensures ∙ ap (λ o. unwrap_or o 0) c.get.ensures) in
    let found = circle-found c.args.edges.now _ _ _ _ _ c.loop-path.invariant mark in
    let found' : IsCircleOf c.args.edges.now c.split_at.result.1.now = subst (IsCircleOf c.args.edges.now) (sym (c.split_at.ensures.back ∙ ap (drop c.unwrap_or-first.result) c.deref.ensures.value)) found in
    if-ok c.copied.result _ (λ r. IsCircleOf c.args.edges.now r.items) (λ r e. subst (IsCircleOf c.args.edges.now) (sym e) found') c.copied.ensures
