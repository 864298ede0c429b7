use Rattle.std.proofs.Common.{[], ◌∷◌, length}
use Rattle.rb_grammar.specs.Readings.{Same}
use Rattle.rb_grammar.specs.Forms.{Non, Many, ◌then◌}
use Rattle.v_syntax.specs.Grammar.{grammar, quoted}
use Rattle.v_syntax.specs.Grammar as rules
use Rattle.v_parser.specs.Reading.{after_ports}
use Rattle.v_parser.proofs.Loops.{PortsSoFar}
use Rattle.v_parser.proofs.cursor.Parser.more_ports.Given as goal

abbrev pub invariant-more : goal.invariant-more
invariant-more l = record {
  tree : PortsSoFar l.fn.self l.self l.fn.ports.items l.ports.items l.fn.declared.items l.declared.items;
  reads : Same grammar after_ports (Many (quoted "," then Non rules.Port) ∷ []) l.fn.self (Many (quoted "," then Non rules.Port) ∷ []) l.self;
}

abbrev pub decreases-more : goal.decreases-more
decreases-more l = length l.self
