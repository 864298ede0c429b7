use Rattle.gen_access.specs.Words.{acts_through}
use Rattle.gen_access.proofs.Marked.{MarkedTo}
use Rattle.gen_access.proofs.reached.reached_words.Given as goal

abbrev pub invariant-loop-word : goal.invariant-loop-word
invariant-loop-word l = MarkedTo l.block (acts_through l.way) l.words l.marks.items l.word-index
