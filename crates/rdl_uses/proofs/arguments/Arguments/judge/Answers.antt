use Rattle.std.proofs.Common.{◌∙◌, ◌||◌, ap, take}
use Rattle.rdl_values.proofs.Named.{firsts_at}
use Rattle.rdl_failures.proofs.Noting.{standing_noted_at}
use Rattle.rdl_values.specs.Overlaid.{plain_of}
use Rattle.rdl_values.specs.Places.{is_found}
use Rattle.rdl_uses.proofs.BoundValues.{bad_arg}
use Rattle.rdl_uses.proofs.Touching.{bad_over, given-more, unknown-over}
use Rattle.rdl_uses.proofs.arguments.Arguments.judge.Goals as goal

pub loop-index-preserved : goal.loop-index-preserved
loop-index-preserved c =
    let args = c.args.list.now in
    let i = c.loop-index.index in
    let l = c.loop-index-test.true in
    let o = c.find-found.result in
    record {
      places = firsts_at (λ a. a.name.text.now) args i _ l c.loop-index.places c.put.new.self c.loop-index.invariant.places c.in_ok-again.ensures.put;
      given = λ ps h k. c.in_ok-put_found.ensures k ∙ ap (λ b. is_found o k || b) (c.loop-index.invariant.given ps h k) ∙ given-more (plain_of ps) args i _ l o (c.find-found.ensures (plain_of ps) h) k;
      noted = λ ps h. standing_noted_at (bad_arg ps) args i _ l _ _ _ _ _ (c.loop-index.invariant.noted ps h)
          (bad_over ps (take i args) _ _ c.loop-index.places _ _ _ _ _ (unknown-over ps _ o c.is_none.result c.is_none.ensures (c.find-found.ensures (plain_of ps) h)) c.in_ok-again.ensures.again c.loop-index.invariant.places c.in_ok-clean.ensures);
    }
