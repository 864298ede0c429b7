use Rattle.std.proofs.Common.{List}
use Rattle.v_design.specs.WellFormed.{names}
use Rattle.v_syntax.specs.Tokens.{placed}
use Rattle.v_check.specs.Found.{Finds, StandsBefore}
use Rattle.v_check.specs.Nets.{AreNets, IsUndeclared, nets_seen, token_places}
use Rattle.v_check.specs.declared.nets.Net.{Net}
use Rattle.v_check.proofs.undeclared.undeclared.Given as goal

abbrev pub invariant-loop-index : goal.invariant-loop-index
invariant-loop-index l = (ns : List Net) → AreNets l.table ns
    → Finds (StandsBefore (IsUndeclared (names (nets_seen ns)) l.before (placed l.bytes l.tokens)) (token_places (placed l.bytes l.tokens)) l.index) l.found
