use Rattle.std.proofs.Common.{◌≡◌, ◌+◌, get_or, subst, IfSome}
use Rattle.vcd_reader.specs.Codes.{code_key}
use Rattle.vcd_reader.proofs.Places.{found}
use Rattle.vcd_reader.proofs.code_set.CodeSet.find_short.Goals as goal

pub returns-clause-number : goal.returns-clause-number
returns-clause-number c =
    let code = c.args.code.now in
    found c.self.inside.places.items c.self.inside.codes c.args.self.now code c.find_short.result c.self.invariant c.self.view_is c.find_short.ensures.code
    (subst (λ p. IfSome c.find_short.result (λ n. get_or p (code_key code) 0 ≡ n + 1)) c.deref.ensures.value c.find_short.ensures.place)
