use Rattle.std.proofs.Common.{◌∙◌, ap}
use Rattle.rdl_layout.proofs.Listing.{ground-more, none-found, one-found}
use Rattle.rdl_layout.proofs.claim.clashing.Goals as goal
use Rattle.rdl_layout.proofs.claim.clashing.Goals.{then-bars+in_ok-push, else-bars}

pub loop-claim-preserved : goal.loop-claim-preserved
loop-claim-preserved c =
    let claims = c.args.claims.now in
    let i = c.loop-claim.claim-index in
    let old = c.loop-claim.invariant in
    record {
      ground = ground-more c.args.rule claims i _ c.loop-claim.ground c.add.new.self c.loop-claim.faults.items c.if-bars.faults.items c.bars.result c.loop-claim-test.true c.requires old.ground old.faults c.bars.ensures c.in_ok-add.ensures;
      faults = elim c.if-bars.branch [
        | then-bars+in_ok-push w ↦
            one-found c.args.rule claims i _ c.loop-claim.ground c.add.new.self c.loop-claim.faults.items c.if-bars.faults.items c.bars.result c.loop-claim-test.true c.requires old.ground old.faults c.bars.ensures c.in_ok-add.ensures
            w.if-bars.true (ap (λ v. v.items) w.faults-is ∙ w.in_ok-push.ensures.items)
        | else-bars w ↦
            none-found c.args.rule claims i _ c.loop-claim.ground c.add.new.self c.loop-claim.faults.items c.if-bars.faults.items c.bars.result c.loop-claim-test.true c.requires old.ground old.faults c.bars.ensures c.in_ok-add.ensures
            w.if-bars.false (ap (λ v. v.items) w.faults-is)
      ];
    }
