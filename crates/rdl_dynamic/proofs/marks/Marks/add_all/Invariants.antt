use Rattle.std.proofs.Common.{◌≡◌, ◌&&◌, ◌==◌, ◌||◌, ℕ, Bool, take}
use Rattle.std.specs.List.{list_any}
use Rattle.rdl_props.specs.declared.prop.Prop.{Prop}
use Rattle.rdl_dynamic.specs.Marks.{is_marked}
use Rattle.rdl_dynamic.proofs.marks.Marks.add_all.Given as goal

abbrev pub invariant-loop-node : goal.invariant-loop-node
invariant-loop-node l = (other : ℕ) (f : Prop → Bool) → is_marked l.self other f ≡ (is_marked l.initial.self other f || (list_any (λ k. k == other) (take l.node-index l.nodes) && f l.prop))
