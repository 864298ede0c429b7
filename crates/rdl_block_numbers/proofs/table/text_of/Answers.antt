use Rattle.std.proofs.Common.{◌∙◌, subst}
use Rattle.rdl_values.specs.Lineages.{lineages_of}
use Rattle.rdl_nodes.specs.Rows.{IsParent}
use Rattle.rdl_block_numbers.specs.Texts.{below}
use Rattle.rdl_block_numbers.proofs.Placing.{below-text}
use Rattle.rdl_block_numbers.proofs.table.text_of.Goals as goal

pub returns-in_default : goal.returns-in_default
returns-in_default c = λ e k l are at row texts.
    c.in_ok-alone.ensures e k l at row (subst (λ o. IsParent (lineages_of e) o l.ancestors) c.in_default.is row.parent)

pub returns : goal.returns
returns c = λ e k l are at row texts.
    c.in_ok-text.ensures ∙ ((λ i. below (c.front_of-front.ensures i) (row.says.name i) (row.says.index i))
    ∙ below-text e c.args.rows.now are k l at c.args.texts.now texts c.in-Some.parent (subst (λ o. IsParent (lineages_of e) o l.ancestors) c.in-Some.is row.parent))
