use Rattle.std.proofs.Common.{◌≡◌, ◌++◌, map}
use Rattle.rdl_tree.specs.declared.node.Elab.{Elab}
use Rattle.rdl_values.specs.Instances.{upto}
use Rattle.rdl_addr.specs.Bits.{bits_of}
use Rattle.rdl_addr.specs.Layout.{Placed}
use Rattle.rdl_rules.specs.Numbers.{Numbered}
use Rattle.rdl_rules.specs.Words.{word_of}
use Rattle.rdl_block_words.specs.Shapes.{IsShapeOf}
use Rattle.rdl_fields.specs.Views.{AreViewsOf}
use Rattle.rdl_block_words.proofs.word.add_words.Given as goal

abbrev pub invariant-loop-number : goal.invariant-loop-number
invariant-loop-number l = (e : Elab) (r : Numbered Placed) → IsShapeOf l.shape r → AreViewsOf e l.views (bits_of r.register.node) → l.words.items ≡ l.initial.words.items ++ map (word_of r) (upto l.number)
