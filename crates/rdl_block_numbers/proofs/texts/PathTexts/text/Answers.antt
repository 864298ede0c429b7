use Rattle.std.proofs.Common.{◌≡◌, ◌-◌, Some, ap, sym, ◌∙◌, length, take, drop, get_or, slice_get, arith}
use Rattle.plain_lemmas.proofs.Lists.{any-default}
use Rattle.rdl_block_numbers.specs.Ends.{start_at}
use Rattle.rdl_block_numbers.proofs.Cuts.{length-cut, cut-at, rise-within}
use Rattle.rdl_block_numbers.proofs.texts.PathTexts.text.Goals as goal

pub start_of-start-requires : goal.start_of-start-requires
start_of-start-requires c =
    let a = ap length c.self.view_is in let b = length-cut 0 c.self.inside.ends.items c.self.inside.bytes.items in let d = ap length c.deref.ensures.value in
    omega (arith, a, b, d, c.requires)

pub index-requires : goal.index-requires
index-requires c =
    let a = ap length c.self.view_is in let b = length-cut 0 c.self.inside.ends.items c.self.inside.bytes.items in let d = c.self.inside.ends.ok.0 in
    omega (arith, a, b, d, c.requires)

pub part-requires-clause-rise : goal.part-requires-clause-rise
part-requires-clause-rise c =
    let a = ap length c.self.view_is in let b = length-cut 0 c.self.inside.ends.items c.self.inside.bytes.items in
    let h = rise-within 0 c.self.inside.ends.items (length c.self.inside.bytes.items) c.args.at c.self.invariant (omega (arith, a, b, c.requires)) in
    let l = h.0 in let s = c.start_of-start.ensures ∙ ap (λ es. start_at 0 es c.args.at) c.deref.ensures.value in let e = c.index.ensures ∙ any-default c.self.inside.ends.items c.args.at c.index.result.now 0 (omega (arith, a, b, c.requires)) in
    omega (arith, l, s, e)

pub part-requires-clause-within : goal.part-requires-clause-within
part-requires-clause-within c =
    let a = ap length c.self.view_is in let b = length-cut 0 c.self.inside.ends.items c.self.inside.bytes.items in
    let h = rise-within 0 c.self.inside.ends.items (length c.self.inside.bytes.items) c.args.at c.self.invariant (omega (arith, a, b, c.requires)) in
    let l = h.1 in let s = ap length c.deref-2.ensures.value in let e = c.index.ensures ∙ any-default c.self.inside.ends.items c.args.at c.index.result.now 0 (omega (arith, a, b, c.requires)) in
    omega (arith, l, s, e)

pub returns : goal.returns
returns c =
    let ends = c.self.inside.ends.items in
    let bytes = c.self.inside.bytes.items in
    let at = c.args.at in
    let a = ap length c.self.view_is in let b = length-cut 0 ends bytes in
    let start : c.start_of-start.result ≡ start_at 0 ends at = c.start_of-start.ensures ∙ ap (λ es. start_at 0 es at) c.deref.ensures.value in
    let is = c.part.ensures
    ∙ (ap (λ ns. take (c.index.result.now - c.start_of-start.result) (drop c.start_of-start.result ns)) c.deref-2.ensures.value
    ∙ (ap (λ e. take (e - c.start_of-start.result) (drop c.start_of-start.result bytes)) (c.index.ensures ∙ any-default ends at c.index.result.now 0 (omega (arith, a, b, c.requires)))
    ∙ ap (λ s. take (get_or ends at 0 - s) (drop s bytes)) start)) in
    ap (λ ts. slice_get ts at) (sym c.self.view_is) ∙ (cut-at 0 ends bytes at (omega (arith, a, b, c.requires)) ∙ ap Some (sym is))
