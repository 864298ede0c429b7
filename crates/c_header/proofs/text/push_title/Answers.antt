use Rattle.std.proofs.Common.{◌∙◌, ◌++◌, ap, codes}
use Rattle.c_header.specs.Names.{first_bytes}
use Rattle.c_header.proofs.Joined.{three}
use Rattle.c_header.proofs.text.push_title.Goals as goal

pub returns : goal.returns
returns c =
    let old = c.args.text.now.items in
    c.in_ok-extend_from_slice-3.ensures.items ∙ ap (λ xs. xs ++ codes " */\n") (c.in_ok-extend_from_slice-2.ensures.items ∙ (λ i. c.in_ok-extend_from_slice.ensures.items i ++ c.first_bytes.ensures i))
    ∙ three old (codes "/* Registers of ") (first_bytes c.args.top.now) (codes " */\n")
