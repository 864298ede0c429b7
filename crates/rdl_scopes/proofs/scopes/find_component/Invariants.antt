use Rattle.std.proofs.Common.{◌≡◌, List, drop}
use Rattle.rdl_values.specs.Bodies.{Scope, component}
use Rattle.rdl_values.specs.Values.{Names}
use Rattle.rdl_scopes.specs.Scopes.{Shows}
use Rattle.rdl_scopes.proofs.scopes.find_component.Given as goal

abbrev pub invariant-loop-level : goal.invariant-loop-level
invariant-loop-level l = (tables : List Names) (scope : Scope) → Shows tables l.components l.numbers l.uptos scope → component l.name scope ≡ component l.name (drop l.level scope)
