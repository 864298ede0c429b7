use Rattle.std.proofs.Common.{[], take}
use Rattle.rdl_values.specs.Kept.{AreDefaultsOf}
use Rattle.rdl_values.specs.Overlaid.{overlaid, plain_of}
use Rattle.rdl_values.specs.Reads.{IsLike}
use Rattle.rdl_values.proofs.defaults.Defaults.of.Given as goal

abbrev pub invariant-loop-param : goal.invariant-loop-param
invariant-loop-param l = record {
  defaults : AreDefaultsOf l.defaults (take l.param-index l.params);
  shown : IsLike l.shown (overlaid (plain_of (take l.param-index l.params)) []);
}
