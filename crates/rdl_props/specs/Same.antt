-- Two properties and two groups compared.
use Rattle.std.specs.Prelude.{Bool}
use denote.Enum.Bare.{sameb}
use Rattle.rdl_props.specs.declared.prop.Prop.{Prop}
use Rattle.rdl_props.specs.contracts.prop.Prop as of_prop
use Rattle.rdl_props.specs.declared.groups.Group.{Group}
use Rattle.rdl_props.specs.contracts.groups.Group as of_group

-- two properties are the same
abbrev pub same_prop : Prop → Prop → Bool
same_prop = sameb of_prop.the_type

-- two groups are the same
abbrev pub same_group : Group → Group → Bool
same_group = sameb of_group.the_type
