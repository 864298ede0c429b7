use Rattle.std.proofs.Common.{◌≡◌, ◌++◌, map, take}
use Rattle.block_effects.specs.declared.kinds.Effect.TheVariants as effect
use Rattle.block_effects.proofs.listing.push_shown.Given as goal

abbrev pub invariant-loop-output : goal.invariant-loop-output
invariant-loop-output l = l.into.items ≡ l.initial.into.items ++ map effect.Shows (take l.output-index l.shown)
