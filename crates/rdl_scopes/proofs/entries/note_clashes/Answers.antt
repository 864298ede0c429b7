use Rattle.rdl_scopes.proofs.Entered.{clash_step, names_step, numbers_step}
use Rattle.rdl_scopes.proofs.entries.note_clashes.Goals as goal

pub loop-at-preserved : goal.loop-at-preserved
loop-at-preserved c =
    let es = c.args.entries.now in
    let i = c.loop-at.at in
    let l = c.loop-at-test.true in
    record {
      known = names_step es i _ c.loop-at.names c.put.new.self l c.loop-at.invariant.known c.in_ok-again.ensures.put;
      numbered = numbers_step es i _ c.loop-at.numbers.keys c.insert.new.self.keys l c.loop-at.invariant.numbered c.in_ok-fresh.ensures.keys;
      noted = clash_step es i _ c.loop-at.names c.loop-at.numbers.keys c.in_ok-again.again c.in_ok-fresh.fresh _ _ _ _ _ l c.loop-at.invariant.known c.loop-at.invariant.numbered c.in_ok-again.ensures.again c.in_ok-fresh.ensures.added c.loop-at.invariant.noted c.in_ok-clean.ensures;
    }
