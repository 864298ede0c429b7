use Rattle.std.proofs.Common.{drop}
use Rattle.rdl_values.specs.Values.{Around}
use Rattle.rdl_failures.specs.Shown.{IsShown}
use Rattle.rdl_scopes.proofs.Entered.{IsJudgedTo}
use Rattle.rdl_scopes.proofs.entries.judge_entries.Given as goal

abbrev pub invariant-loop-entry : goal.invariant-loop-entry
invariant-loop-entry l = (around : Around) → IsShown l.visible around → IsJudgedTo around l.entries l.valued.items l.before (drop l.entry-index l.entries)
