-- What holds the uses of a body.
use Rattle.std.specs.Prelude.{◌≡◌}
use Rattle.rdl_values.specs.Paths as paths
use Rattle.rdl_values.specs.Paths.{nowhere, at_root, in_node}
use Rattle.rdl_uses.specs.Parts.{StandsAt}
use Rattle.rdl_uses.specs.declared.holder.Holder.{Holder}
use Rattle.rdl_uses.specs.declared.holder.Holder.TheVariants as holder
use Rattle.rdl_uses.specs.declared.holder.Parent.{Parent}

abbrev pub IsHolder : Holder → paths.Parent → Type 0
IsHolder holder.Root nowhere = ⊥
IsHolder holder.Root at_root = Unit {0}
IsHolder holder.Root (in_node p k) = ⊥
IsHolder (holder.Node outer) nowhere = ⊥
IsHolder (holder.Node outer) at_root = ⊥
IsHolder (holder.Node outer) (in_node p k) = k ≡ outer

pub record IsParent (h : Parent) (p : paths.Parent) : Type 0 where
  pub holder : IsHolder h.holder p
  pub standing : StandsAt h.standing p
