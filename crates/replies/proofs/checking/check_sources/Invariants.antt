use Rattle.std.proofs.Common.{option_copied, take}
use Rattle.command_line.specs.Words.{texts}
use Rattle.replies.specs.Answer.{texts_of}
use Rattle.replies.specs.Outcome.{IsChecked}
use Rattle.replies.specs.Checked.{bytes_of}
use Rattle.replies.proofs.checking.check_sources.Given as goal

abbrev pub invariant-loop-at : goal.invariant-loop-at
invariant-loop-at l = IsChecked (option_copied l.top) (texts (take l.at l.files)) (bytes_of (take l.at l.sources)) l.answer.status (texts_of l.answer)
