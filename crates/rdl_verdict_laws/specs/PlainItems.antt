-- Items apart from where the parts of their tree lie in memory.
use Rattle.std.specs.Prelude.{map}
use Rattle.rdl_verdict_laws.specs.PlainInstances.{plain_instance}
use Rattle.rdl_refs.specs.Items.{Item}

abbrev pub plain_item : Item → Item
plain_item i = record { node = plain_instance i.node; ancestors = map plain_instance i.ancestors; what = i.what }
