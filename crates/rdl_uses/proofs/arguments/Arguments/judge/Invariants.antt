use Rattle.std.proofs.Common.{◌≡◌, ℕ, List, take}
use Rattle.rdl_tree.specs.declared.item.Param.{Param as AnyParam}
use Rattle.rdl_values.specs.Firsts.{AreFirsts}
use Rattle.rdl_failures.specs.Noted.{IsNoted}
use Rattle.rdl_values.specs.Kept.{AreDefaults}
use Rattle.rdl_values.specs.Overlaid.{plain_of}
use Rattle.rdl_values.specs.Places.{has_place}
use Rattle.rdl_uses.specs.Arguments.{is_given}
use Rattle.rdl_uses.specs.Bound.{bad_args, names_of_args}
use Rattle.rdl_uses.proofs.arguments.Arguments.judge.Given as goal

abbrev pub invariant-loop-index : goal.invariant-loop-index
invariant-loop-index l = record {
  places : AreFirsts l.places (names_of_args (take l.index l.list));
  given : (ps : List AnyParam) → AreDefaults l.defaults (plain_of ps) → (k : ℕ) → has_place l.given k ≡ is_given (plain_of ps) (take l.index l.list) k;
  noted : (ps : List AnyParam) → AreDefaults l.defaults (plain_of ps) → IsNoted (bad_args ps (take l.index l.list)) l.clean l.initial.failures l.failures;
}
