use Rattle.std.proofs.Common.{◌∙◌, Some, ap, subst}
use Rattle.rdl_values.specs.Elaborated.{nodes_of}
use Rattle.rdl_values.specs.Lineages.{lineages_of}
use Rattle.rdl_nodes.specs.Rows.{IsParent}
use Rattle.rdl_fields.specs.Primary.{TellsPrimary}
use Rattle.rdl_block_numbers.specs.Named.{or_zero}
use Rattle.rdl_block_numbers.proofs.Viewing.{no-row, of-alias, of-none}
use Rattle.rdl_block_numbers.proofs.numbers.viewed_at.Goals as goal

pub returns-in_default : goal.returns-in_default
returns-in_default c = λ e k l r up clean are names row line own. absurd (no-row e l r up c.args.row.now.parent row.parent c.in_default.is line)

pub returns-in_default-primary_of : goal.returns-in_default-primary_of
returns-in_default-primary_of c = λ e k l r up clean are names row line own.
    let parent = subst (IsParent (lineages_of e) (Some c.in-Some.parent)) line (subst (λ o. IsParent (lineages_of e) o l.ancestors) c.in-Some.is row.parent) in
    let none = subst (TellsPrimary e r) c.in_default-primary_of.is (c.primary_of.ensures e r up clean are parent) in
    own ∙ of-none (nodes_of e) r l.node none

pub returns : goal.returns
returns c = λ e k l r up clean are names row line own.
    let parent = subst (IsParent (lineages_of e) (Some c.in-Some.parent)) line (subst (λ o. IsParent (lineages_of e) o l.ancestors) c.in-Some.is row.parent) in
    let tells = subst (TellsPrimary e r) c.in-Some-primary_of.is (c.primary_of.ensures e r up clean are parent) in
    c.or_zero.ensures ∙ (ap or_zero c.find.ensures ∙ of-alias e clean c.args.fields.now names r l.node c.in-Some-primary_of.primary tells _ row.says.name)
