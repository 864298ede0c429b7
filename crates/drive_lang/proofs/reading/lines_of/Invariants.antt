use Rattle.std.proofs.Common.{◌≡◌, ◌+◌, ◌≤◌, length, option_copied}
use Rattle.drive_lang.specs.Lines.{lines_behind, lines_of}
use Rattle.rb_model.specs.declared.block.Block.{Block}
use Rattle.drive_names.specs.Names.{AreNamesOf}
use Rattle.drive_lang.specs.Scripts.{behind, lines_from, most_vectors}
use Rattle.drive_lang.proofs.LineByLine.{bytes_in}
use Rattle.drive_lang.proofs.reading.lines_of.Given as goal

abbrev pub invariant-loop-rest : goal.invariant-loop-rest
invariant-loop-rest l = record {
  lines : (b : Block) → AreNamesOf b l.names → lines_from b 1 most_vectors (lines_of l.fn.bytes) ≡ behind l.lines.items (lines_from b (l.number + 1) l.room (lines_behind (option_copied l.rest)));
  short : l.number + bytes_in (option_copied l.rest) ≤ length l.fn.bytes + 1;
}

abbrev pub decreases-loop-rest : goal.decreases-loop-rest
decreases-loop-rest l = bytes_in (option_copied l.rest)
