use Rattle.std.proofs.Common.{map, ◌∙◌, ap}
use Rattle.rb_model.specs.declared.block.Block.{Block}
use Rattle.rb_model.specs.declared.block.Word.{Word}
use Rattle.gen_ports.proofs.Finding.{finds_word}
use Rattle.gen_ports.proofs.words.word_node.Goals as goal

pub returns-clause-word : goal.returns-clause-word
returns-clause-word c = finds_word c.args.block.now c.decode.new.net c.args.address c.deref-2.result.now c.in_ok-found.found (c.deref-2.ensures.value ∙ c.in_ok-words.ensures ∙ ap (λ ws. map (λ (w : Word). w.address) ws) (c.deref.ensures.value ∙ ap (λ (b : Block). b.reads) c.block.view_is)) c.in_ok-found.ensures.hit c.in_ok-found.ensures.word
