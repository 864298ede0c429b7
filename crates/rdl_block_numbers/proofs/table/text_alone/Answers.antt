use Rattle.std.proofs.Common.{◌≡◌, ◌∙◌, true, false, refl, sym, ap}
use Rattle.rdl_tree.specs.declared.item.Kind.TheVariants as kinds
use Rattle.rdl_tree.specs.Kinds.{same_kind}
use Rattle.rdl_values.specs.Instances.{kind_of}
use Rattle.rdl_block_numbers.specs.Texts.{step_text}
use Rattle.rdl_block_numbers.proofs.Placing.{alone-text}
use Rattle.rdl_block_numbers.proofs.table.text_alone.Goals as goal

pub returns-then-not-is_signal : goal.returns-then-not-is_signal
returns-then-not-is_signal c = λ e k l at row none.
    let kind : same_kind kinds.Signal (kind_of l.node) ≡ false = ap (same_kind kinds.Signal) (sym row.says.kind) ∙ (sym c.is_signal.ensures ∙ c.if-not-is_signal.true) in
    c.new-bytes.ensures.items ∙ (alone-text e k l at none false kind).1 refl

pub returns : goal.returns
returns c = λ e k l at row none.
    let kind : same_kind kinds.Signal (kind_of l.node) ≡ true = ap (same_kind kinds.Signal) (sym row.says.kind) ∙ (sym c.is_signal.ensures ∙ c.if-not-is_signal.false) in
    c.in_ok-text.ensures ∙ ((λ i. step_text (row.says.name i) (row.says.index i)) ∙ (alone-text e k l at none true kind).0 refl)
