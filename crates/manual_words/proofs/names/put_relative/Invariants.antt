use Rattle.std.proofs.Common.{◌+◌, length, option_copied, ℕ, Option, None, Some, List}
use Rattle.manual_words.specs.Names.{pieces_of, relative, seen_from}
use Rattle.html_text.specs.Writing.{at}
use Rattle.html_text.proofs.Looping.{Goes}
use Rattle.manual_words.proofs.Seen.{bytes_in}
use Rattle.manual_words.proofs.names.put_relative.Given as goal

abbrev pub invariant-loop-rest : goal.invariant-loop-rest
invariant-loop-rest g l = Goes (at (g.K.Sink.told l.fn.out) (g.K.Sink.faults l.fn.out) l.fn.pen) (at (g.K.Sink.told l.out) (g.K.Sink.faults l.out) l.pen)
    (relative l.dotted l.named l.fn.own l.fn.path) (seen_from l.dotted l.same l.first l.index l.left (pieces_of (option_copied l.rest)))

abbrev pub decreases-loop-rest : goal.decreases-loop-rest
decreases-loop-rest g l = bytes_in (option_copied l.rest)
