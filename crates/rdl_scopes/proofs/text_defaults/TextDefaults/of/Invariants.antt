use Rattle.rdl_scopes.specs.Defaulted.{AreTextDefaults}
use Rattle.rdl_scopes.proofs.text_defaults.TextDefaults.of.Given as goal

abbrev pub invariant-loop-at : goal.invariant-loop-at
invariant-loop-at l = AreTextDefaults l.defaults l.items
