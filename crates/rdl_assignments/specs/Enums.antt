-- Failures of one item of a body.
use Rattle.std.specs.Prelude.{List, [], flat_map}
use Rattle.rdl_base.specs.declared.fault.Fault.{Fault}
use Rattle.rdl_values.specs.Bodies.{Scope}
use Rattle.rdl_values.specs.Views as view
use Rattle.rdl_values.specs.Views.{ItemIs}
use Rattle.rdl_layers.specs.Phase4.{of_entry}

-- of the assignments to the entries of an enumeration, with these bodies round it
abbrev pub fails_in : Scope → ItemIs → List Fault
fails_in scope (view.enumeration n es) = flat_map (of_entry scope) es
fails_in scope _ = []
