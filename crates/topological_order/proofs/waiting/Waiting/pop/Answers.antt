use Rattle.std.proofs.Common.{◌-◌, Some, refl, ap, sym, ◌∙◌, arith}
use Rattle.std.specs.Vec.{with_item}
use Rattle.std.proofs.Math.ListN.{set}
use Rattle.plain_lemmas.proofs.Lists.{any-default}
use Rattle.topological_order.specs.Waiting.{behind, last_of}
use Rattle.topological_order.proofs.Shorter.{first-stands, last-within, first-within, of-within, rings-popped, some-still}
use Rattle.topological_order.proofs.waiting.Waiting.pop.Goals as goal

pub index-first-requires : goal.index-first-requires
index-first-requires c =
    let w = c.args.self.now in
    let (queue, r, some) = c.requires in
    let a = c.index.ensures ∙ any-default w.lasts.items c.args.of c.index.result.now 0 (of-within w queue c.args.of r some).0 in
    let l = last-within w queue c.args.of r some in let d = w.nexts.ok.0 in
    omega (arith, a, l, d)

pub index-requires-2 : goal.index-requires-2
index-requires-2 c =
    let w = c.args.self.now in
    let (queue, r, some) = c.requires in
    let a = c.index.ensures ∙ any-default w.lasts.items c.args.of c.index.result.now 0 (of-within w queue c.args.of r some).0 in
    let l = last-within w queue c.args.of r some in
    let b = c.index-first.ensures ∙ (any-default w.nexts.items c.index.result.now c.index-first.result.now 0 (omega (arith, a, l)) ∙ ap (behind w) a) in
    let m = first-within w queue c.args.of r some in let d = w.nexts.ok.0 in
    omega (arith, b, m, d)

pub index_mut-requires : goal.index_mut-requires
index_mut-requires c =
    let w = c.args.self.now in
    let (queue, r, some) = c.requires in
    let a = c.index.ensures ∙ any-default w.lasts.items c.args.of c.index.result.now 0 (of-within w queue c.args.of r some).0 in
    let l = last-within w queue c.args.of r some in let d = w.nexts.ok.0 in
    omega (arith, a, l, d)

pub returns-clause-first : goal.returns-clause-first
returns-clause-first c = λ queue r.
    let w = c.args.self.now in
    let some = some-still w c.requires.0 queue c.args.of c.requires.1 r c.requires.2 in
    let a = c.index.ensures ∙ any-default w.lasts.items c.args.of c.index.result.now 0 (of-within w queue c.args.of r some).0 in
    let l = last-within w queue c.args.of r some in
    let b = c.index-first.ensures ∙ (any-default w.nexts.items c.index.result.now c.index-first.result.now 0 (omega (arith, a, l)) ∙ ap (behind w) a) in
    first-stands w queue c.args.of r some ∙ ap Some (sym b)

pub returns-clause-rings : goal.returns-clause-rings
returns-clause-rings c = λ queue r.
    let w = c.args.self.now in
    let some = some-still w c.requires.0 queue c.args.of c.requires.1 r c.requires.2 in
    let (in_lasts, in_counts) = of-within w queue c.args.of r some in
    let a = c.index.ensures ∙ any-default w.lasts.items c.args.of c.index.result.now 0 in_lasts in
    let l = last-within w queue c.args.of r some in
    let b = c.index-first.ensures ∙ (any-default w.nexts.items c.index.result.now c.index-first.result.now 0 (omega (arith, a, l)) ∙ ap (behind w) a) in
    let m = first-within w queue c.args.of r some in
    let d = c.index-2.ensures ∙ (any-default w.nexts.items c.index-first.result.now c.index-2.result.now 0 (omega (arith, b, m)) ∙ ap (behind w) b) in
    rings-popped w (record { counts = with_item w.counts c.args.of (c.index_mut-2.result.now - 1); lasts = w.lasts; nexts = with_item w.nexts c.index.result.now c.index-2.result.now }) queue c.args.of r some
    (ap (λ n. set w.counts.items c.args.of (n - 1)) (c.index_mut-2.ensures.value ∙ any-default w.counts.items c.args.of c.index_mut-2.result.now 0 in_counts)) refl
    (ap (λ k. set w.nexts.items k c.index-2.result.now) a ∙ ap (set w.nexts.items (last_of w c.args.of)) d)
