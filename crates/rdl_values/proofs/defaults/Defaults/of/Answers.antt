use Rattle.std.proofs.Common.{[], subst, sym, take}
use Rattle.std.proofs.lemmas.List.{take_all, take_more}
use Rattle.rdl_values.specs.Kept.{AreDefaultsOf}
use Rattle.rdl_values.specs.Overlaid.{overlaid, plain_of}
use Rattle.rdl_values.specs.Reads.{IsLike}
use Rattle.rdl_values.proofs.Reading.{like_none}
use Rattle.rdl_values.proofs.defaults.Defaults.of.Goals as goal

pub loop-param-init : goal.loop-param-init
loop-param-init c = record {
  defaults = c.new-defaults.ensures;
  shown = like_none c.new-shown.result c.new-shown.ensures;
}

pub loop-param-preserved : goal.loop-param-preserved
loop-param-preserved c =
    let ps = c.args.params.now in
    let i = c.loop-param.param-index in
    let front = sym (take_more ps i _ c.loop-param-test.true) in
    let more = c.in_ok-read.ensures (take i ps) c.loop-param.invariant.defaults c.loop-param.invariant.shown in
    record {
      defaults = subst (AreDefaultsOf c.read.new.self) front more.0;
      shown = subst (λ qs. IsLike c.read.new.shown (overlaid (plain_of qs) [])) front more.1;
    }

pub returns : goal.returns
returns c = subst (AreDefaultsOf c.loop-param.defaults) (take_all c.loop-param.param-index c.args.params.now c.loop-param-test.false) c.loop-param.invariant.defaults
