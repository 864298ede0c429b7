use Rattle.std.proofs.Common.{◌∙◌, [], ◌∷◌, ◌++◌, ap}
use Rattle.c_header.specs.Enumerators.{enumerator_path}
use Rattle.c_header.specs.Names.{natural}
use Rattle.c_header.proofs.Taken.{map-step}
use Rattle.c_header.proofs.enumerations.push_naturals.Goals as goal

pub loop-at-preserved : goal.loop-at-preserved
loop-at-preserved c =
    let old = c.loop-at.into.items in
    map-step (λ x. natural c.args.begin.now (enumerator_path c.args.encoding.now x.0)) c.args.encoding.now.entries c.loop-at.at (c.enumerator_at.result.0.now, c.enumerator_at.result.1) c.args.into.now.items old c.push.new.self.items
    c.enumerator_at.ensures c.loop-at.invariant (c.in_ok-push.ensures.items ∙ ap (λ n. old ++ n ∷ []) c.in_ok-bytes.ensures)
