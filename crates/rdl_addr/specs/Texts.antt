-- The texts that instances come from.
use Rattle.std.specs.Prelude.{◌≡◌}
use Rattle.rdl_tree.specs.declared.item.Inst.{Inst}
use Rattle.rdl_values.specs.Bodies.{around}
use Rattle.rdl_values.specs.Instances.{Instance}
use Rattle.rdl_values.specs.Uses.{form_of}
use Rattle.rdl_values.specs.Values.{Around}

-- The instance comes from this text, whose expressions see this.
pub record IsText (i : Inst) (env : Around) (n : Instance) : Type 0 where
  pub form : n.use_.form ≡ form_of i
  pub dims : n.use_.dims ≡ i.dims.now
  pub visible : around n.use_.scope ≡ env
