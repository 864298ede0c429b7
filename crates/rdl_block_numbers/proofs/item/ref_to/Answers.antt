use Rattle.std.proofs.Common.{◌∙◌, sym, ap}
use Rattle.rdl_tree.specs.declared.item.Kind.TheVariants as kinds
use Rattle.rdl_tree.specs.Kinds.{same_kind}
use Rattle.rb_model.specs.declared.kinds.RefItem.TheVariants as ref
use Rattle.rdl_rules.specs.Feeds as feeds
use Rattle.rdl_block_numbers.proofs.Meant.{to-other, to-signal}
use Rattle.rdl_block_numbers.proofs.item.ref_to.Goals as goal

pub returns-then-is_signal : goal.returns-then-is_signal
returns-then-is_signal c = λ all i kind what number. ap ref.Signal number ∙ to-signal all i (ap (same_kind kinds.Signal) (sym kind) ∙ (sym c.is_signal.ensures ∙ c.if-is_signal.true))

pub returns : goal.returns
returns c = λ all i kind what number. c.ref_of.ensures ∙ ((λ j. feeds.ref_of (what j) (number j)) ∙ to-other all i (ap (same_kind kinds.Signal) (sym kind) ∙ (sym c.is_signal.ensures ∙ c.if-is_signal.false)))
