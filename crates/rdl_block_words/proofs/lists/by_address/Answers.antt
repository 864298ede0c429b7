use Rattle.std.proofs.Common.{rules}
use Rattle.std.proofs.lemmas.List.Sorted.{IsNonDecreasingBy-from_sort_by_key}
use Rattle.rb_model.specs.declared.block.Word.{Word}
use Rattle.rdl_block_words.proofs.Risen.{mapped-up}
use Rattle.rdl_block_words.proofs.lists.by_address.Goals as goal

pub returns-clause-rising : goal.returns-clause-rising
returns-clause-rising c = mapped-up (λ (w : Word). w.address) c.sort_by_key.new.self.items (IsNonDecreasingBy-from_sort_by_key (λ (w : Word). w.address) c.sort_by_key.new.self.items c.in_ok-sort_by_key.ensures.sorted (λ a r q k. search rules))
