use Rattle.std.proofs.Common.{◌≡◌, ◌∙◌, not, ap, arith}
use Rattle.rdl_base.specs.declared.rule.Rule.TheVariants as rule
use Rattle.rdl_values.specs.Faults.{at_, when}
use Rattle.rdl_failures.specs.Noted.{with_all}
use Rattle.rdl_refs.specs.Follows.{is_in_alias, is_missing}
use Rattle.rdl_rules.specs.ReferenceRules as rules
use Rattle.rdl_ref_items.proofs.Items.{item-counted}
use Rattle.rdl_reset_rules.proofs.Turns.{three-put}
use Rattle.rdl_reset_rules.proofs.references.judge_item.Goals as goal

pub item_width-requires : goal.item_width-requires
item_width-requires c = let low = item-counted c.args.props.now c.requires.known.clean c.requires.item.0 c.args.item c.requires.item.1 in let all = c.requires.known.facts_.all_nodes in omega (arith, low, all)

pub returns : goal.returns
returns c = λ i h.
    let e = c.args.props.now in
    let fit = c.fits-is_other.ensures ∙ ap (rules.fits (rules.fit_of c.args.prop) c.args.width) (c.item_width.ensures e i c.requires.known.facts_ h) in
    let missing = c.is_missing-missing.ensures i h in
    let aliased = c.is_in_alias-in_alias.ensures e i c.requires.known.clean c.requires.known.rows_ h in
    three-put (when (not (rules.fits (rules.fit_of c.args.prop) c.args.width (rules.item_width i))) (at_ rule.R3 c.args.place)) (when (is_missing i) (at_ rule.R4 c.args.place)) (when (is_in_alias i) (at_ rule.R5 c.args.place)) c.args.failures.now c.note.new.self c.note-2.new.self c.note-3.new.self
    (c.in_ok-note.ensures.put ∙ (λ j. with_all (when (not (fit j)) (at_ rule.R3 c.args.place)) c.args.failures.now))
    (c.in_ok-note-2.ensures.put ∙ (λ j. with_all (when (missing j) (at_ rule.R4 c.args.place)) c.note.new.self))
    (c.in_ok-note-3.ensures.put ∙ (λ j. with_all (when (aliased j) (at_ rule.R5 c.args.place)) c.note-2.new.self))
