-- Bodies, uses and instances apart from where the parts of their tree lie in memory.
use Rattle.std.specs.Prelude.{map, option_map}
use Rattle.rdl_verdict_laws.specs.Plain.{plain_name, plain_path, plain_expr, plain_pair, plain_entry, plain_inst, plain_insts, plain_arg, plain_set, plain_item, plain_def}
use Rattle.rdl_values.specs.Bodies.{Layer, Scope, Closure, Body}
use Rattle.rdl_values.specs.Instances.{Instance}
use Rattle.rdl_values.specs.Lineages.{Lineage}
use Rattle.rdl_values.specs.Uses.{Form, Use, Seen}
use Rattle.rdl_values.specs.Views as view
use Rattle.rdl_values.specs.Views.{ItemIs}

abbrev pub plain_view : ItemIs → ItemIs
plain_view (view.definition d) = view.definition (plain_def d)
plain_view (view.enumeration n es) = view.enumeration (plain_name n) (map plain_entry es)
plain_view (view.made alias of insts) = view.made (option_map plain_name alias) (plain_name of) (plain_insts insts)
plain_view (view.default_ s) = view.default_ (plain_set s)
plain_view (view.local s) = view.local (plain_set s)
plain_view (view.dynamic p s) = view.dynamic (plain_path p) (plain_set s)

abbrev pub plain_layer : Layer → Layer
plain_layer l = record { node = l.node; before = map plain_item l.before; names = l.names }

abbrev pub plain_scope : Scope → Scope
plain_scope s = map plain_layer s

abbrev pub plain_closure : Closure → Closure
plain_closure c = record { def = plain_def c.def; scope = plain_scope c.scope }

abbrev pub plain_body : Body → Body
plain_body b = record { node = b.node; kind = b.kind; items = map plain_item b.items; names = b.names; outer = plain_scope b.outer }

abbrev pub plain_form : Form → Form
plain_form f = record { range = option_map plain_pair f.range; reset = option_map plain_expr f.reset; at = option_map plain_expr f.at; stride = option_map plain_expr f.stride; align = option_map plain_expr f.align }

abbrev pub plain_use : Use → Use
plain_use u = record { inst = option_map plain_inst u.inst; name = plain_name u.name; dims = map plain_expr u.dims; form = plain_form u.form; args = map plain_arg u.args; alias = option_map plain_name u.alias; type_place = u.type_place; closure = option_map plain_closure u.closure; scope = plain_scope u.scope }

abbrev pub plain_seen : Seen → Seen
plain_seen s = record { parent = s.parent; above = map plain_body s.above; earlier = map plain_use s.earlier; use_ = plain_use s.use_ }

abbrev pub plain_instance : Instance → Instance
plain_instance n = record { above = map plain_body n.above; path = n.path; use_ = plain_use n.use_; closure = plain_closure n.closure; bound = n.bound }

abbrev pub plain_lineage : Lineage → Lineage
plain_lineage n = record { node = plain_instance n.node; ancestors = map plain_instance n.ancestors }
