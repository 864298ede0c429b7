use Rattle.std.proofs.Common.{Some, sym, subst}
use Rattle.rdl_values.specs.Elaborated.{top_name}
use Rattle.rdl_addr.specs.Layout.{Placed}
use Rattle.rdl_addr.specs.Rules.{registers}
use Rattle.rdl_rules.specs.Numbers.{numbered}
use Rattle.rdl_block_words.specs.Entries.{AreEntriesOf}
use Rattle.rdl_block_words.proofs.tree.all_words.Goals as goal

pub by_address-requires : goal.by_address-requires
by_address-requires c =
    let e = c.args.props.now in
    let ps = registers (Some (top_name e)) e.source.now in
    (e, ps, subst (λ xs. AreEntriesOf e xs (numbered (λ (p : Placed). p.node) ps)) (sym c.deref.ensures.value) c.in_ok-entries.ensures)

pub by_address-requires-2 : goal.by_address-requires-2
by_address-requires-2 c =
    let e = c.args.props.now in
    let ps = registers (Some (top_name e)) e.source.now in
    (e, ps, subst (λ xs. AreEntriesOf e xs (numbered (λ (p : Placed). p.node) ps)) (sym c.deref-2.ensures.value) c.in_ok-entries.ensures)
