use Rattle.std.proofs.Common.{◌≡◌, ◌∙◌, sym, subst}
use Rattle.rdl_fields.specs.Primary.{TellsPrimary}
use Rattle.rdl_block_numbers.proofs.Parents.{above, first-up, has-row}
use Rattle.rdl_block_numbers.proofs.numbers.primary_of.Goals as goal

pub returns-in_default : goal.returns-in_default
returns-in_default c = λ e r up clean are parent.
    absurd (has-row e c.args.rows.now are c.args.node _ parent (sym c.row_of.ensures ∙ c.in_default.is))

pub returns : goal.returns
returns c = λ e r up clean are parent.
    let a = above e c.args.rows.now are c.args.node _ parent c.in-Some.row (sym c.row_of.ensures ∙ c.in-Some.is) in
    let same : a.line.node ≡ r = sym (first-up r up a.line.node a.line.ancestors a.up_is) in
    subst (λ n. TellsPrimary e n c.primary.result) same (c.primary.ensures e c.args.node a.line clean a.here a.row)
