use Rattle.std.proofs.Common.{◌∙◌, sym, ap, subst}
use Rattle.rdl_values.specs.Lineages.{lineages_of}
use Rattle.rdl_nodes.specs.Rows.{IsParent}
use Rattle.rdl_block_numbers.specs.Listed as lists
use Rattle.rdl_block_numbers.proofs.Parents.{above, has-row}
use Rattle.rdl_block_numbers.proofs.listed.in_primary.Goals as goal

pub returns-in_default-row_of : goal.returns-in_default-row_of
returns-in_default-row_of c = λ e up clean are parent.
    absurd (has-row e c.args.rows.now are c.in-Some.parent up (subst (λ o. IsParent (lineages_of e) o up) c.in-Some.is parent) (sym c.row_of.ensures ∙ c.in_default-row_of.is))

pub returns : goal.returns
returns c = λ e up clean are parent.
    let a = above e c.args.rows.now are c.in-Some.parent up (subst (λ o. IsParent (lineages_of e) o up) c.in-Some.is parent) c.in-Some-row_of.row (sym c.row_of.ensures ∙ c.in-Some-row_of.is) in
    c.is_primary.ensures e c.in-Some.parent a.line clean a.here a.row ∙ sym (ap lists.in_primary a.up_is)
