use Rattle.std.proofs.Common.{◌<◌, ◌+◌, ◌++◌, drop, length, arith}
use Rattle.std.proofs.lemmas.Bool.Decides.{nat_tests}
use Rattle.std.proofs.lemmas.Grind.{common_steps}
use Rattle.rdl_tree.proofs.Tying.{derived_fits}
use Rattle.rdl_parser.proofs.Judged.{wrong_cut, too_deep_fits, place_in, rule_in}
use Rattle.rdl_parser.proofs.reading.read_cut.Goals as goal

pub returns-in-Ok : goal.returns-in-Ok
returns-in-Ok c = (c.args.deep, too_deep_fits _ _ c.requires (derived_fits _ _ c.in-Ok.ensures.tree), grind (arith, common_steps))

pub returns-in-Err-Syntax-2 : goal.returns-in-Err-Syntax-2
returns-in-Err-Syntax-2 c =
    let some : 0 < length c.in-Err-Syntax.left.now = grind (arith, nat_tests, c.is_empty.ensures, c.if-is_empty.false) in
    rw c.wrong.ensures
    (c.in-Err-Syntax.left.now ++ drop (c.args.deep + 1) c.args.tokens.now, wrong_cut _ _ _ c.requires (rw c.in-Err-Syntax.field-0-is at c.in-Err-Syntax.ensures.stops) some, place_in _ _ c.args.end some, rule_in _ _ some)
