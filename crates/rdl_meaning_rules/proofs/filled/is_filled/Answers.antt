use Rattle.std.proofs.Common.{◌≡◌, ◌∙◌, ◌||◌, ◌∷◌, true, false, sym, ap}
use Rattle.std.specs.List.{list_any}
use Rattle.rdl_tree.specs.declared.item.Kind.TheVariants as kinds
use Rattle.rdl_tree.specs.Kinds.{same_kind}
use Rattle.rdl_values.specs.Instances.{children}
use Rattle.rdl_values.specs.Lineages.{lineages_of}
use Rattle.rdl_layers.specs.Fields.{is_a}
use Rattle.rdl_meaning_rules.specs.Filled.{holds_register}
use Rattle.rdl_meaning_rules.proofs.Levels.{deep-at, holds-next}
use Rattle.rdl_meaning_rules.proofs.Rows.{known}
use Rattle.rdl_meaning_rules.proofs.filled.is_filled.Goals as goal

pub returns-then-is_register : goal.returns-then-is_register
returns-then-is_register c = λ e k l at kind inside from.
    let reg : is_a kinds.Reg l.node ≡ true = ap (same_kind kinds.Reg) (sym kind) ∙ (sym c.is_register.ensures ∙ c.if-is_register.true) in
    c.if-is_register.true ∙ (sym (ap (λ b. b || list_any holds_register (children l.node)) reg) ∙ holds-next l.node (deep-at e k l at))

pub returns-else-is_register : goal.returns-else-is_register
returns-else-is_register c = λ e k l at kind inside from.
    let no : is_a kinds.Reg l.node ≡ false = ap (same_kind kinds.Reg) (sym kind) ∙ (sym c.is_register.ensures ∙ c.if-is_register.false) in
    c.is_one_filled.ensures (lineages_of e) (l.node ∷ l.ancestors) (children l.node) holds_register inside (known e k l c.args.filled.now at from)
    ∙ (sym (ap (λ b. b || list_any holds_register (children l.node)) no) ∙ holds-next l.node (deep-at e k l at))
