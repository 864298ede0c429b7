-- The items that the settings of a node name.
use Rattle.std.specs.Prelude.{ℕ, List}
use Rattle.rdl_props.specs.declared.prop.Prop.{Prop}
use Rattle.rdl_tree.specs.declared.node.Elab.{Elab}
use Rattle.rdl_refs.specs.declared.refs.Target.{Target}
use Rattle.rdl_refs.specs.Answers.{TargetAt}
use Rattle.rdl_refs.specs.Tables.{item_at}

-- the targets of the node of a number
abbrev pub NameItems : Elab → ℕ → List Target → Type 0
NameItems e k ts = (p : Prop) → TargetAt e k p (item_at p ts)
