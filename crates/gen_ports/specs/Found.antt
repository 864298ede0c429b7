-- The word of a block at an address, as nodes.
use Rattle.std.specs.Prelude.{◌==◌, is_some, unwrap_or}
use Rattle.rtl_net.specs.Value.{bit_of}
use Rattle.rtl_net.specs.Net.{Net, IsNode}
use Rattle.rtl_net.specs.declared.node.Id.{Id}
use Rattle.rb_model.specs.declared.block.Block.{Block}
use Rattle.rb_model.specs.Run.{word_at}
use Rattle.gen_decode.specs.declared.words.Decoded.{Decoded}

-- whether the node's value is a word's address, and the number of the word
pub record FindsWord (b : Block) (net : Net) (address : Id) (d : Decoded) : Type 0 where
  pub hit : IsNode net d.hit 1 (λ v. bit_of (is_some (word_at b.reads (v.node address.0))))
  pub word : IsNode net d.word 16 (λ v. unwrap_or (word_at b.reads (v.node address.0)) 0)
