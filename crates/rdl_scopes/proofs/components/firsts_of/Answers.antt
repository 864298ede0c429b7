use Rattle.std.proofs.Common.{sym, subst, take, ◌+◌, arith}
use Rattle.std.proofs.lemmas.List.{length-take-le, take_all}
use Rattle.rdl_scopes.specs.Named.{Knows}
use Rattle.rdl_scopes.proofs.FoundComponents.{knows_more, knows_other}
use Rattle.rdl_scopes.proofs.components.firsts_of.Goals as goal
use Rattle.rdl_scopes.proofs.components.firsts_of.Goals.{in-Some+in_ok-put, in_default}

pub loop-at-preserved : goal.loop-at-preserved
loop-at-preserved c = elim c.match-component_name.branch [
  | in-Some+in_ok-put w ↦ subst (λ t. Knows t (take (c.loop-at.at + 1) c.args.items.now)) (sym w.firsts-is)
      (knows_more c.loop-at.firsts w.put.new.self c.args.items.now c.loop-at.at c.index-items-at.result w.in-Some.name.now c.loop-at-test.true c.index-items-at.is w.in-Some.ensures (length-take-le c.loop-at.at c.args.items.now (omega (arith, c.loop-at-test.true))) c.loop-at.invariant w.in_ok-put.ensures.put)
  | in_default w ↦ subst (λ t. Knows t (take (c.loop-at.at + 1) c.args.items.now)) (sym w.firsts-is)
      (knows_other c.loop-at.firsts c.args.items.now c.loop-at.at c.index-items-at.result c.loop-at-test.true c.index-items-at.is w.in_default.ensures c.loop-at.invariant)
]

pub returns : goal.returns
returns c = subst (Knows c.loop-at.firsts) (take_all c.loop-at.at c.args.items.now c.loop-at-test.false) c.loop-at.invariant
