use Rattle.std.proofs.Common.{◌+◌, length, get_or, refl, ap, sym, ◌∙◌, inl, inr, arith}
use Rattle.std.specs.Vec.{with_item}
use Rattle.std.proofs.Math.ListN.{set}
use Rattle.std.proofs.lemmas.Bool.{cases_eq}
use Rattle.plain_lemmas.proofs.Lists.{any-default}
use Rattle.topological_order.proofs.Rings.{rings-pushed}
use Rattle.topological_order.proofs.Shorter.{last-within, room}
use Rattle.topological_order.proofs.waiting.Waiting.push.Goals as goal

pub link-requires-clause-last : goal.link-requires-clause-last
link-requires-clause-last c = λ some.
    let w = c.args.self.now in
    let (queue, r, free) = c.requires.rings in
    let counted = r.counts in let lasting = r.lasts in let to = c.requires.to in
    let a = c.index-count.ensures ∙ any-default w.counts.items c.args.to c.index-count.result.now 0 (omega (arith, counted, to)) in
    let b = c.index.ensures ∙ any-default w.lasts.items c.args.to c.index.result.now 0 (omega (arith, lasting, to)) in
    let s = r.sized c.args.to in
    let l = last-within w queue c.args.to r (elim (cases_eq (length (queue c.args.to)) 0) [ inl e ↦ absurd (some (omega (arith, a, s, e))) | inr ne ↦ omega (arith, ne) ]) in
    omega (arith, b, l)

pub overflow_add-count : goal.overflow_add-count
overflow_add-count c =
    let w = c.args.self.now in
    let (queue, r, free) = c.requires.rings in
    let counted = r.counts in let to = c.requires.to in let few = c.requires.few in
    let a = c.index-count.ensures ∙ any-default w.counts.items c.args.to c.index-count.result.now 0 (omega (arith, counted, to)) in
    let l = room w queue c.args.to c.args.thing r free c.requires.thing in
    omega (arith, a, l, few)

pub returns-clause-rings : goal.returns-clause-rings
returns-clause-rings c = λ queue r free.
    let w = c.args.self.now in
    let counted = r.counts in let lasting = r.lasts in let to = c.requires.to in
    let a = c.index-count.ensures ∙ any-default w.counts.items c.args.to c.index-count.result.now 0 (omega (arith, counted, to)) in
    let b = c.index.ensures ∙ any-default w.lasts.items c.args.to c.index.result.now 0 (omega (arith, lasting, to)) in
    rings-pushed w (record { counts = with_item w.counts c.args.to (c.index-count.result.now + 1); lasts = with_item w.lasts c.args.to c.args.thing; nexts = c.link.new.nexts }) queue c.args.to c.args.thing r free c.requires.to c.requires.thing (ap (λ n. set w.counts.items c.args.to (n + 1)) a) refl
    (λ e. c.link.ensures.alone (a ∙ e))
    (λ some. c.link.ensures.last (λ e. some (sym a ∙ e))
    ∙ ap (λ l. set (set w.nexts.items c.args.thing (get_or w.nexts.items l 0)) l c.args.thing) b)
