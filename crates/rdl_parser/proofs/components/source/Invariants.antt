use Rattle.std.proofs.Common.{List, ◌++◌, length}
use Rattle.rdl_tree.specs.declared.item.Item.{Item}
use Rattle.rdl_tree.specs.declared.token.Token.{Token}
use Rattle.rdl_tree.specs.Tree.{DerivesItems}
use Rattle.rdl_parser.proofs.Sources.{Leads}
use Rattle.rdl_parser.proofs.components.source.Given as goal

abbrev pub invariant-more : goal.invariant-more
invariant-more l = record {
  tree : (us : List Token) (is : List Item) → DerivesItems l.parser us is → DerivesItems l.fn.parser us (l.items.items ++ is);
  leads : Leads l.fn.parser l.parser;
}

abbrev pub decreases-more : goal.decreases-more
decreases-more l = length l.parser
