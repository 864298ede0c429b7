use Rattle.std.proofs.Common.{ap, sym, ◌∙◌, length, slice_get, arith}
use Rattle.rdl_block_numbers.proofs.Cuts.{length-cut, cut-past}
use Rattle.rdl_block_numbers.proofs.texts.PathTexts.get.Goals as goal

pub returns-then-at-len : goal.returns-then-at-len
returns-then-at-len c =
    let l = c.if-at-len.true in let a = c.len.ensures in let d = c.self.inside.ends.ok.0 in
    sym (ap (λ ts. slice_get ts c.args.at) (sym c.self.view_is) ∙ cut-past 0 c.self.inside.ends.items c.self.inside.bytes.items c.args.at (omega (arith, l, a, d)))

pub text-requires : goal.text-requires
text-requires c =
    let l = c.if-at-len.false in let a = c.len.ensures in let d = c.self.inside.ends.ok.0 in
    let v = ap length c.self.view_is in let b = length-cut 0 c.self.inside.ends.items c.self.inside.bytes.items in
    omega (arith, l, a, d, v, b)

pub returns : goal.returns
returns c = sym c.text.ensures
