use Rattle.std.proofs.Common.{◌≡◌, ℕ, ◌≤◌, List, take}
use Rattle.command_line.specs.Words.{texts}
use Rattle.replies.specs.Outcome.{AreRead}
use Rattle.replies.specs.Checked.{bytes_of, limited}
use Rattle.replies.proofs.checking.load_all.Given as goal

abbrev pub invariant-loop-file : goal.invariant-loop-file
invariant-loop-file g l = record {
  read : AreRead (g.S.Shelf.contents l.fn.shelf) (limited (texts (take l.file-index l.files))) (bytes_of l.sources.items);
  unchanged : g.S.Shelf.contents l.shelf ≡ g.S.Shelf.contents l.fn.shelf;
  later : (any : List ℕ) → g.S.Shelf.faults l.fn.shelf any ≤ g.S.Shelf.faults l.shelf any;
}
