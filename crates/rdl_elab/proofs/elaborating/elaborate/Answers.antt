use Rattle.std.proofs.Common.{◌∙◌, subst, sym}
use Rattle.std.specs.Option.{option_copied}
use Rattle.rdl_values.specs.Elaboration.{Elaborates, Refuses}
use Rattle.rdl_elab.proofs.Refused.{clean_survey, refuses}
use Rattle.rdl_elab.proofs.elaborating.elaborate.Goals as goal

pub tree_of-requires : goal.tree_of-requires
tree_of-requires c = clean_survey (option_copied c.bytes_of.result) c.args.source.now c.in_ok-surveyed.surveyed c.in_ok-surveyed.ensures (sym c.is_clean.ensures ∙ c.if-not-is_clean.false)

pub returns-then-not-is_clean : goal.returns-then-not-is_clean
returns-then-not-is_clean c =
    subst (λ w. Refuses w c.args.source.now c.in_ok-list.list.items) c.bytes_of.ensures
    (refuses (option_copied c.bytes_of.result) c.args.source.now c.in_ok-surveyed.surveyed c.in_ok-list.list.items c.in_ok-surveyed.ensures c.in_ok-list.ensures (sym c.is_clean.ensures ∙ c.if-not-is_clean.true))

pub returns : goal.returns
returns c = subst (λ w. Elaborates w c.args.source.now c.in_ok-tree.tree) c.bytes_of.ensures (c.in_ok-tree.ensures (option_copied c.bytes_of.result) c.in_ok-surveyed.ensures)
