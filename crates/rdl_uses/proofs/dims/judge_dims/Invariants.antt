use Rattle.std.proofs.Common.{flat_map, take}
use Rattle.rdl_values.specs.Values.{Around}
use Rattle.rdl_failures.specs.Noted.{IsNoted}
use Rattle.rdl_failures.specs.Shown.{IsShown}
use Rattle.rdl_uses.specs.Parts.{AreDims, fails_of}
use Rattle.rdl_uses.proofs.dims.judge_dims.Given as goal

abbrev pub invariant-loop-expr : goal.invariant-loop-expr
invariant-loop-expr l = record {
  dims : (around : Around) → IsShown l.visible around → AreDims around (take l.expr-index l.exprs) l.dims;
  noted : (around : Around) → IsShown l.visible around → IsNoted (flat_map (fails_of around) (take l.expr-index l.exprs)) l.dims.clean l.initial.failures l.failures;
}
