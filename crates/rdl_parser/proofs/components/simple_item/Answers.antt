use Rattle.std.proofs.Common.{[], ◌∷◌, refl, ap, sym, ◌∙◌, length, arith}
use Rattle.rb_grammar.proofs.Following.{◌⟫◌, ◌⟫|◌}
use Rattle.rb_grammar.proofs.Barring.{Here, Without}
use Rattle.rb_grammar.proofs.Steps.{entering, staying, opening, taking, seen}
use Rattle.rdl_tree.specs.declared.token.Terminal.TheVariants as terminals
use Rattle.rdl_tree.specs.Tree as tree
use Rattle.rdl_expressions.proofs.Firsts.{right}
use Rattle.rdl_base.specs.declared.keyword.Keyword.TheVariants as words
use Rattle.rb_grammar.proofs.Factoring.{packing}
use Rattle.rb_grammar.proofs.Returning.{then_reads, then_shorter}
use Rattle.rdl_parser.proofs.Items.{moved, moved_item, item_name_step}
use Rattle.rdl_parser.proofs.components.simple_item.Goals as goal

pub returns-then-is_at-clause-tree : goal.returns-then-is_at-clause-tree
returns-then-is_at-clause-tree c = c.made.ensures.tree _ tree.none

pub returns-then-is_at-clause-reads : goal.returns-then-is_at-clause-reads
returns-then-is_at-clause-reads c = then_reads _ _ (opening right (Here (terminals.Reserved words.Alias)) refl (sym c.if-is_at.ensures) ⟫ entering ⟫ opening right (Without (terminals.Reserved words.Internal ∷ [])) refl (c.requires, tt)) c.made.ensures.reads

pub returns-then-is_at-clause-stops : goal.returns-then-is_at-clause-stops
returns-then-is_at-clause-stops c = λ h. opening right (Here (terminals.Reserved words.Alias)) refl (sym c.if-is_at.ensures) ⟫ entering ⟫ opening right (Without (terminals.Reserved words.Internal ∷ [])) refl (c.requires, tt) ⟫| c.made.ensures.stops h

pub returns-in-Some-clause-tree : goal.returns-in-Some-clause-tree
returns-in-Some-clause-tree c = c.enumeration.ensures.tree _ _ c.in-Some.ensures

pub returns-in-Some-clause-shorter : goal.returns-in-Some-clause-shorter
returns-in-Some-clause-shorter c = then_shorter _ _ _ _ (omega (arith, ap length c.in-Some.ensures.list)) c.enumeration.ensures.shorter

pub returns-in-Some-clause-reads : goal.returns-in-Some-clause-reads
returns-in-Some-clause-reads c = then_reads _ _ (opening right (Here (terminals.Reserved words.Enum)) refl (seen c.in-Some.ensures) ⟫ entering ⟫ taking right c.in-Some.ensures refl ⟫ packing 1) c.enumeration.ensures.reads

pub returns-in-Some-clause-stops : goal.returns-in-Some-clause-stops
returns-in-Some-clause-stops c = λ h. opening right (Here (terminals.Reserved words.Enum)) refl (seen c.in-Some.ensures) ⟫ entering ⟫ taking right c.in-Some.ensures refl ⟫ packing 1 ⟫| c.enumeration.ensures.stops h

pub returns-in-Some-word-clause-tree : goal.returns-in-Some-word-clause-tree
returns-in-Some-word-clause-tree c = c.default_at.ensures.tree _ _ (rw c.in_default.ensures.list at c.in-Some-word.ensures) refl

pub returns-in-Some-word-clause-shorter : goal.returns-in-Some-word-clause-shorter
returns-in-Some-word-clause-shorter c = then_shorter _ _ _ _ (omega (arith, ap length c.in_default.ensures.list, ap length c.in-Some-word.ensures.list)) c.default_at.ensures.shorter

pub returns-in-Some-word-clause-reads : goal.returns-in-Some-word-clause-reads
returns-in-Some-word-clause-reads c = then_reads _ _ (staying c.in_default.ensures.list ⟫ opening right (Here (terminals.Reserved words.Default)) refl (seen c.in-Some-word.ensures) ⟫ entering ⟫ taking right c.in-Some-word.ensures refl) c.default_at.ensures.reads

pub returns-in-Some-word-clause-stops : goal.returns-in-Some-word-clause-stops
returns-in-Some-word-clause-stops c = λ h. staying c.in_default.ensures.list ⟫ opening right (Here (terminals.Reserved words.Default)) refl (seen c.in-Some-word.ensures) ⟫ entering ⟫ taking right c.in-Some-word.ensures refl ⟫| c.default_at.ensures.stops h

pub returns-in-Some-name-clause-tree : goal.returns-in-Some-name-clause-tree
returns-in-Some-name-clause-tree c = c.item_from.ensures.tree _ (rw (← c.in_default.ensures.list, ← c.in_default-word.ensures.list) c.in-Some-name.ensures)

pub returns-in-Some-name-clause-shorter : goal.returns-in-Some-name-clause-shorter
returns-in-Some-name-clause-shorter c = then_shorter _ _ _ _ (omega (arith, ap length c.in_default.ensures.list, ap length c.in_default-word.ensures.list, ap length c.in-Some-name.ensures.1.list)) c.item_from.ensures.shorter

pub returns-in-Some-name-clause-reads : goal.returns-in-Some-name-clause-reads
returns-in-Some-name-clause-reads c = then_reads _ _ (staying (c.in_default-word.ensures.list ∙ c.in_default.ensures.list) ⟫ item_name_step c.in-Some-name.ensures.1) c.item_from.ensures.reads

pub returns-in-Some-name-clause-stops : goal.returns-in-Some-name-clause-stops
returns-in-Some-name-clause-stops c = λ h. staying (c.in_default-word.ensures.list ∙ c.in_default.ensures.list) ⟫ item_name_step c.in-Some-name.ensures.1 ⟫| c.item_from.ensures.stops h

pub returns-clause-tree : goal.returns-clause-tree
returns-clause-tree c = moved_item _ _ (c.in_default-name.ensures.list ∙ (c.in_default-word.ensures.list ∙ c.in_default.ensures.list)) c.local_item.ensures.tree

pub returns-clause-shorter : goal.returns-clause-shorter
returns-clause-shorter c = then_shorter _ _ _ _ (omega (arith, ap length c.in_default.ensures.list, ap length c.in_default-word.ensures.list, ap length c.in_default-name.ensures.list)) c.local_item.ensures.shorter

pub returns-clause-reads : goal.returns-clause-reads
returns-clause-reads c = then_reads _ _ (opening right (Without (terminals.Reserved words.Internal ∷ terminals.Reserved words.Alias ∷ terminals.Reserved words.Enum ∷ terminals.Reserved words.Default ∷ terminals.Name ∷ [])) refl (c.requires, (sym c.if-is_at.ensures, (c.in_default.ensures.token, (moved (terminals.Reserved words.Default) c.in_default.ensures.list c.in_default-word.ensures.token, (moved terminals.Name (c.in_default-word.ensures.list ∙ c.in_default.ensures.list) c.in_default-name.ensures.token, tt))))) ⟫ staying (c.in_default-name.ensures.list ∙ (c.in_default-word.ensures.list ∙ c.in_default.ensures.list))) c.local_item.ensures.reads

pub returns-clause-stops : goal.returns-clause-stops
returns-clause-stops c = λ h. opening right (Without (terminals.Reserved words.Internal ∷ terminals.Reserved words.Alias ∷ terminals.Reserved words.Enum ∷ terminals.Reserved words.Default ∷ terminals.Name ∷ [])) refl (c.requires, (sym c.if-is_at.ensures, (c.in_default.ensures.token, (moved (terminals.Reserved words.Default) c.in_default.ensures.list c.in_default-word.ensures.token, (moved terminals.Name (c.in_default-word.ensures.list ∙ c.in_default.ensures.list) c.in_default-name.ensures.token, tt))))) ⟫ staying (c.in_default-name.ensures.list ∙ (c.in_default-word.ensures.list ∙ c.in_default.ensures.list)) ⟫| c.local_item.ensures.stops h
