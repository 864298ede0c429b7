-- The kinds that a row names.
use Rattle.std.specs.Prelude.{List}
use Rattle.rdl_tree.specs.declared.item.Kind.{Kind}
use Rattle.rdl_props.specs.declared.table.On.{On}
use Rattle.rdl_props.specs.declared.table.On.TheVariants as on
use Rattle.rdl_props.specs.Table.{all_but_signal, every, only}

abbrev pub kinds_on : On → List Kind
kinds_on on.All = every
kinds_on on.NoSignal = all_but_signal
kinds_on (on.Only k) = only k
