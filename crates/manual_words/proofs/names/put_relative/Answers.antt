use Rattle.std.proofs.Common.{◌∙◌, ap, option_copied}
use Rattle.manual_words.specs.Names.{pieces_of, relative, seen_from}
use Rattle.html_text.specs.Writing.{at}
use Rattle.html_text.proofs.Looping.{begins, done, step}
use Rattle.manual_words.proofs.Seen.{seen_step}
use Rattle.manual_words.proofs.names.put_relative.Goals as goal

pub loop-rest-init : goal.loop-rest-init
loop-rest-init g c = begins (at (g.K.Sink.told c.args.out.now) (g.K.Sink.faults c.args.out.now) c.args.pen.now) (relative c.args.dotted c.args.named c.args.own.now c.args.path.now)

pub loop-rest-preserved : goal.loop-rest-preserved
loop-rest-preserved g c =
    step _ (ap (λ o. seen_from c.args.dotted c.loop-rest.same c.loop-rest.first c.loop-rest.index c.loop-rest.left.now (pieces_of (option_copied o))) c.in-Some.is
    ∙ seen_step _ _ _ _ _ _ _ _ _ _ _ c.cut.ensures.pieces c.is_own-same.ensures c.next_index-index.ensures c.behind_first-left.ensures) c.loop-rest.invariant c.put_place.ensures
