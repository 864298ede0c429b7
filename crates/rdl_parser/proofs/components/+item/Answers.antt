use Rattle.std.proofs.Common.{◌≡◌, [], ◌∷◌, refl, ap, sym, ◌∙◌, length, arith, Err, append-nil, append_assoc}
use Rattle.rb_grammar.specs.declared.stop.Stop.TheVariants.{Syntax}
use Rattle.rb_grammar.proofs.Following.{◌⟫◌, ◌⟫|◌}
use Rattle.rb_grammar.proofs.Barring.{Without}
use Rattle.rb_grammar.proofs.Steps.{entering, staying, opening, taking, missing, calling, calling_stops, halting, passed}
use Rattle.rdl_tree.specs.declared.token.Terminal.TheVariants as terminals
use Rattle.rdl_tree.specs.Tree as tree
use Rattle.rdl_expressions.proofs.Firsts.{right}
use Rattle.rb_grammar.proofs.Factoring.{reading, reading_stops}
use Rattle.rb_grammar.proofs.Returning.{then_reads, then_shorter, in_any_case, no_syntax}
use Rattle.rdl_base.specs.declared.keyword.Keyword.TheVariants as words
use Rattle.rdl_expressions.specs.Following.{kinds}
use Rattle.rdl_expressions.proofs.Words.{no_kind}
use Rattle.rdl_expressions.proofs.Phrases.{adding}
use Rattle.rdl_parser.proofs.Items.{moved, moved_item, internal_step, kind_step, inner_kind_step, named_tree, bare_tree}
use Rattle.rdl_parser.proofs.components.+item.Goals as goal

pub named_def-returns-in_err-params-clause-stops : goal.named_def-returns-in_err-params-clause-stops
named_def-returns-in_err-params-clause-stops t c = λ h. reading_stops right _ (c.in_err-params.ensures.stops (ap Err (passed _ _ c.from_residual.ensures.1 h))) refl

pub named_def-returns-in_err-items-clause-stops : goal.named_def-returns-in_err-items-clause-stops
named_def-returns-in_err-items-clause-stops t c = λ h. reading right _ c.in_ok-params.ensures.reads refl ⟫| calling_stops right (c.in_err-items.ensures.stops (ap Err (passed _ _ c.from_residual-in_err-items.ensures.1 h))) refl

pub named_def-returns-in_err-insts-clause-stops : goal.named_def-returns-in_err-insts-clause-stops
named_def-returns-in_err-insts-clause-stops t c = λ h. reading right _ c.in_ok-params.ensures.reads refl ⟫ calling right c.in_ok-items.ensures.reads refl ⟫| c.in_err-insts.ensures.stops (ap Err (passed _ _ c.from_residual-in_err-insts.ensures.1 h))

pub named_def-returns-clause-tree : goal.named_def-returns-clause-tree
named_def-returns-clause-tree t c = λ k u ts us vs s e i n. named_tree _ _ _ _ _ s e i n c.in_ok-params.ensures.tree c.in_ok-items.ensures.tree c.in_ok-insts.ensures.tree

pub named_def-returns-clause-reads : goal.named_def-returns-clause-reads
named_def-returns-clause-reads t c = reading right _ c.in_ok-params.ensures.reads refl ⟫ calling right c.in_ok-items.ensures.reads refl ⟫ c.in_ok-insts.ensures.reads

pub bare_def-returns-in_err-items-clause-stops : goal.bare_def-returns-in_err-items-clause-stops
bare_def-returns-in_err-items-clause-stops t c = λ h. calling_stops right (c.in_err-items.ensures.stops (ap Err (passed _ _ c.from_residual.ensures.1 h))) refl

pub bare_def-returns-in_err-list-clause-stops : goal.bare_def-returns-in_err-list-clause-stops
bare_def-returns-in_err-list-clause-stops t c = λ h. calling right c.in_ok-items.ensures.reads refl ⟫ reading right _ c.skip_internal.ensures.reads refl ⟫| calling_stops right (c.in_err-list.ensures.stops (ap Err (passed _ _ c.from_residual-in_err-list.ensures.1 h))) refl

pub bare_def-returns-in_err-_end-clause-stops : goal.bare_def-returns-in_err-_end-clause-stops
bare_def-returns-in_err-_end-clause-stops t c = λ h. calling right c.in_ok-items.ensures.reads refl ⟫ reading right _ c.skip_internal.ensures.reads refl ⟫ calling right c.in_ok-list.ensures.reads refl ⟫| halting right c.in_err-_end.ensures.err refl

pub bare_def-returns-clause-tree : goal.bare_def-returns-clause-tree
bare_def-returns-clause-tree t c = λ k u ts us s e i at. bare_tree _ _ _ _ _ s e i at c.in_ok-items.ensures.tree c.skip_internal.ensures.tree c.in_ok-list.ensures.tree c.in_ok-_end.ensures.ok c.no_parameters.ensures c.no_arguments.ensures

pub bare_def-returns-clause-reads : goal.bare_def-returns-clause-reads
bare_def-returns-clause-reads t c = calling right c.in_ok-items.ensures.reads refl ⟫ reading right _ c.skip_internal.ensures.reads refl ⟫ calling right c.in_ok-list.ensures.reads refl ⟫ taking right c.in_ok-_end.ensures.ok refl

pub def-returns-in_default-clause-tree : goal.def-returns-in_default-clause-tree
def-returns-in_default-clause-tree t c = λ k u ts us s e i at. c.bare_def.ensures.tree k u ts us s e (rw c.in_default.ensures.list i) at

pub def-returns-in_default-clause-shorter : goal.def-returns-in_default-clause-shorter
def-returns-in_default-clause-shorter t c = then_shorter _ _ _ _ (omega (arith, ap length c.in_default.ensures.list)) c.bare_def.ensures.shorter

pub def-returns-in_default-clause-reads : goal.def-returns-in_default-clause-reads
def-returns-in_default-clause-reads t c = then_reads _ _ (missing right c.in_default.ensures refl) c.bare_def.ensures.reads

pub def-returns-in_default-clause-stops : goal.def-returns-in_default-clause-stops
def-returns-in_default-clause-stops t c = λ h. missing right c.in_default.ensures refl ⟫| c.bare_def.ensures.stops h

pub def-returns-clause-tree : goal.def-returns-clause-tree
def-returns-clause-tree t c = λ k u ts us s e i at. c.named_def.ensures.tree k u ts us _ s e i c.in-Some.ensures

pub def-returns-clause-shorter : goal.def-returns-clause-shorter
def-returns-clause-shorter t c = then_shorter _ _ _ _ (omega (arith, ap length c.in-Some.ensures.1.list)) c.named_def.ensures.shorter

pub def-returns-clause-reads : goal.def-returns-clause-reads
def-returns-clause-reads t c = then_reads _ _ (taking right c.in-Some.ensures.1 refl) c.named_def.ensures.reads

pub def-returns-clause-stops : goal.def-returns-clause-stops
def-returns-clause-stops t c = λ h. taking right c.in-Some.ensures.1 refl ⟫| c.named_def.ensures.stops h

pub body-returns-in_err-_open-clause-stops : goal.body-returns-in_err-_open-clause-stops
body-returns-in_err-_open-clause-stops t c = λ h. entering ⟫| halting right c.in_err-_open.ensures.err refl

pub body-more-init : goal.body-more-init
body-more-init t c = record {
  tree = λ us vs u is d i. rw c.room-items.ensures (tree.body c.in_ok-_open.ensures.ok d i);
  reads = entering ⟫ taking right c.in_ok-_open.ensures.ok refl;
  shorter = omega (arith, ap length c.in_ok-_open.ensures.ok.list);
}

pub body-returns-in-Some-clause-tree : goal.body-returns-in-Some-clause-tree
body-returns-in-Some-clause-tree t c = rw c.into_bump_slice.ensures (rw append-nil at (c.more.invariant.tree _ _ _ [] tree.no_item c.in-Some.ensures))

pub body-returns-in-Some-clause-reads : goal.body-returns-in-Some-clause-reads
body-returns-in-Some-clause-reads t c = c.more.invariant.reads ⟫ taking right c.in-Some.ensures refl

pub body-returns-in_err-add_item-clause-stops : goal.body-returns-in_err-add_item-clause-stops
body-returns-in_err-add_item-clause-stops t c = λ h. c.more.invariant.reads ⟫ missing right c.in_default.ensures refl ⟫| calling_stops right (c.in_err-add_item.ensures.stops (ap Err (passed _ _ c.from_residual-in_err-add_item.ensures.1 h))) refl

pub body-more-preserved : goal.body-more-preserved
body-more-preserved t c = let a = c.in_ok-add_item.ensures.tree in record {
  tree = λ us vs u is d i. rw (a.list, append_assoc) (c.more.invariant.tree us vs u (a.one ∷ is) (tree.next_item (rw c.in_default.ensures.list at a.derives) d) i);
  reads = c.more.invariant.reads ⟫ missing right c.in_default.ensures refl ⟫ calling right c.in_ok-add_item.ensures.reads refl;
  shorter = omega (arith, ap length c.in_default.ensures.list, c.in_ok-add_item.ensures.shorter, c.more.invariant.shorter);
}

pub add_item-returns-in-Err-clause-stops : goal.add_item-returns-in-Err-clause-stops
add_item-returns-in-Err-clause-stops t c = λ h. let e : c.in-Err.stop ≡ Syntax = cc in c.in-Err.ensures.stops (ap Err e)

pub add_item-returns-in-Ok-clause-tree : goal.add_item-returns-in-Ok-clause-tree
add_item-returns-in-Ok-clause-tree t c = adding _ _ _ _ c.in-Ok.ensures.tree c.add.ensures.items

pub add_item-returns-in-Ok-clause-shorter : goal.add_item-returns-in-Ok-clause-shorter
add_item-returns-in-Ok-clause-shorter t c = in_any_case _ c.in-Ok.ensures.shorter

pub add_item-returns-in-Ok-clause-reads : goal.add_item-returns-in-Ok-clause-reads
add_item-returns-in-Ok-clause-reads t c = in_any_case _ c.in-Ok.ensures.reads

pub add_item-returns-in-Ok-clause-stops : goal.add_item-returns-in-Ok-clause-stops
add_item-returns-in-Ok-clause-stops t c = λ h. absurd (no_syntax _ c.add.ensures.memory h)

pub item-returns-in-Some-clause-tree : goal.item-returns-in-Some-clause-tree
item-returns-in-Some-clause-tree t c = c.internal_item.ensures.tree _ _ c.in-Some.ensures

pub item-returns-in-Some-clause-shorter : goal.item-returns-in-Some-clause-shorter
item-returns-in-Some-clause-shorter t c = then_shorter _ _ _ _ (omega (arith, ap length c.in-Some.ensures.list)) c.internal_item.ensures.shorter

pub item-returns-in-Some-clause-reads : goal.item-returns-in-Some-clause-reads
item-returns-in-Some-clause-reads t c = then_reads _ _ (internal_step c.in-Some.ensures) c.internal_item.ensures.reads

pub item-returns-in-Some-clause-stops : goal.item-returns-in-Some-clause-stops
item-returns-in-Some-clause-stops t c = λ h. internal_step c.in-Some.ensures ⟫| c.internal_item.ensures.stops h

pub item-returns-in_default-word_of-clause-tree : goal.item-returns-in_default-word_of-clause-tree
item-returns-in_default-word_of-clause-tree t c = moved_item _ _ (c.in_default-word_of.ensures.list ∙ c.in_default.ensures.list) c.simple_item.ensures.tree

pub item-returns-in_default-word_of-clause-shorter : goal.item-returns-in_default-word_of-clause-shorter
item-returns-in_default-word_of-clause-shorter t c = then_shorter _ _ _ _ (omega (arith, ap length c.in_default.ensures.list, ap length c.in_default-word_of.ensures.list)) c.simple_item.ensures.shorter

pub item-returns-in_default-word_of-clause-reads : goal.item-returns-in_default-word_of-clause-reads
item-returns-in_default-word_of-clause-reads t c = then_reads _ _ (entering ⟫ staying c.in_default.ensures.list ⟫ opening right (Without (terminals.Reserved words.Internal ∷ kinds)) refl (moved (terminals.Reserved words.Internal) (sym c.in_default.ensures.list) c.in_default.ensures.token, no_kind c.in_default-word_of.ensures) ⟫ staying c.in_default-word_of.ensures.list) c.simple_item.ensures.reads

pub item-returns-in_default-word_of-clause-stops : goal.item-returns-in_default-word_of-clause-stops
item-returns-in_default-word_of-clause-stops t c = λ h. entering ⟫ staying c.in_default.ensures.list ⟫ opening right (Without (terminals.Reserved words.Internal ∷ kinds)) refl (moved (terminals.Reserved words.Internal) (sym c.in_default.ensures.list) c.in_default.ensures.token, no_kind c.in_default-word_of.ensures) ⟫ staying c.in_default-word_of.ensures.list ⟫| c.simple_item.ensures.stops h

pub item-returns-clause-tree : goal.item-returns-clause-tree
item-returns-clause-tree t c = c.def.ensures.tree _ _ _ _ tree.none c.kind_of.ensures (rw c.in_default.ensures.list at c.in-Some-word_of.ensures.stands) refl

pub item-returns-clause-shorter : goal.item-returns-clause-shorter
item-returns-clause-shorter t c = then_shorter _ _ _ _ (omega (arith, ap length c.in_default.ensures.list, ap length c.in-Some-word_of.ensures.stands.list)) c.def.ensures.shorter

pub item-returns-clause-reads : goal.item-returns-clause-reads
item-returns-clause-reads t c = then_reads _ _ (staying c.in_default.ensures.list ⟫ kind_step _ c.in-Some-word_of.ensures.of_sort c.in-Some-word_of.ensures.stands) c.def.ensures.reads

pub item-returns-clause-stops : goal.item-returns-clause-stops
item-returns-clause-stops t c = λ h. staying c.in_default.ensures.list ⟫ kind_step _ c.in-Some-word_of.ensures.of_sort c.in-Some-word_of.ensures.stands ⟫| c.def.ensures.stops h

pub internal_item-returns-in_default-clause-tree : goal.internal_item-returns-in_default-clause-tree
internal_item-returns-in_default-clause-tree t c = λ u ts i. c.made.ensures.tree ts (rw c.in_default.ensures.list (tree.some i))

pub internal_item-returns-in_default-clause-shorter : goal.internal_item-returns-in_default-clause-shorter
internal_item-returns-in_default-clause-shorter t c = then_shorter _ _ _ _ (omega (arith, ap length c.in_default.ensures.list)) c.made.ensures.shorter

pub internal_item-returns-in_default-clause-reads : goal.internal_item-returns-in_default-clause-reads
internal_item-returns-in_default-clause-reads t c = then_reads _ _ (opening right (Without kinds) refl (no_kind c.in_default.ensures) ⟫ staying c.in_default.ensures.list) c.made.ensures.reads

pub internal_item-returns-in_default-clause-stops : goal.internal_item-returns-in_default-clause-stops
internal_item-returns-in_default-clause-stops t c = λ h. opening right (Without kinds) refl (no_kind c.in_default.ensures) ⟫ staying c.in_default.ensures.list ⟫| c.made.ensures.stops h

pub internal_item-returns-clause-tree : goal.internal_item-returns-clause-tree
internal_item-returns-clause-tree t c = λ u ts i. c.def.ensures.tree _ _ _ _ (tree.some i) c.kind_of.ensures c.in-Some.ensures.stands refl

pub internal_item-returns-clause-shorter : goal.internal_item-returns-clause-shorter
internal_item-returns-clause-shorter t c = then_shorter _ _ _ _ (omega (arith, ap length c.in-Some.ensures.stands.list)) c.def.ensures.shorter

pub internal_item-returns-clause-reads : goal.internal_item-returns-clause-reads
internal_item-returns-clause-reads t c = then_reads _ _ (inner_kind_step _ c.in-Some.ensures.of_sort c.in-Some.ensures.stands) c.def.ensures.reads

pub internal_item-returns-clause-stops : goal.internal_item-returns-clause-stops
internal_item-returns-clause-stops t c = λ h. inner_kind_step _ c.in-Some.ensures.of_sort c.in-Some.ensures.stands ⟫| c.def.ensures.stops h
