use Rattle.std.proofs.Common.{◌≡◌, ◌∙◌, flat_map, filter, slice_get, Option, None, Some, true≢false, sym, subst, ap, arith}
use Rattle.rdl_tree.specs.declared.item.Kind.TheVariants as kind
use Rattle.rdl_values.specs.Elaborated.{nodes_of}
use Rattle.rdl_layers.specs.Fields.{is_a, is_alias, is_alias_of}
use Rattle.rdl_rules.specs.Numbers.{registers}
use Rattle.rdl_rules.specs.RegisterRules.{of_register}
use Rattle.rdl_nodes.proofs.Members.{in-from, in-to}
use Rattle.rdl_field_rules.specs.Judged.{register_failures}
use Rattle.rdl_field_rules.proofs.Agreeing.{collected, defined}
use Rattle.rdl_field_rules.proofs.Told.{primary-alone}
use Rattle.rdl_field_rules.proofs.laws.registers_agree.Goals as goal

pub returns : goal.returns
returns c = λ e rows clean h f.
    let all = nodes_of e in
    let primary = primary-alone e clean rows h c.primaries_stand.ensures in (
      (λ i. in-to (flat_map (of_register all) (registers all)) f (collected all primary f (in-from (flat_map (register_failures all) (registers all)) f i))),
      (λ i. in-to (flat_map (register_failures all) (registers all)) f (defined all primary f (in-from (flat_map (of_register all) (registers all)) f i))),
    )
