use Rattle.std.proofs.Common.{◌∙◌, ap, subst, sym}
use Rattle.rdl_props.specs.declared.prop.Prop.TheVariants as prop
use Rattle.rdl_values.specs.Elaborated.{nodes_of}
use Rattle.rdl_layers.specs.Says.{Says}
use Rattle.rdl_layers.specs.Settings.{setting}
use Rattle.rdl_encodings.specs.Meant.{names_enum}
use Rattle.rdl_encodings.proofs.Settings.{encoded-as, enum_said, no_enum}
use Rattle.rdl_encodings.proofs.meant.enum_of.Goals as goal

pub returns-in-EnumOf : goal.returns-in-EnumOf
returns-in-EnumOf c = λ e n clean open_ there entries serves.
    let name = c.in-EnumOf.name in
    let says = subst (λ s. Says (nodes_of e) s (setting n prop.Encode)) (sym c.in-EnumOf.ensures) (c.entries_say.ensures.settings (nodes_of e) n c.args.entries.now entries prop.Encode) in
    let named = enum_said (nodes_of e) name c.in-EnumOf.scope (setting n prop.Encode) says in
    encoded-as n name.now named.scope named.is
    ∙ c.meant_from.ensures e named.scope (record { clean = clean; open_ = open_; node = n; there = there; prop = prop.Encode; named = named.is; seen_from = named.number }) (serves (ap names_enum (sym c.in-EnumOf.ensures)))

pub returns-in_default : goal.returns-in_default
returns-in_default c = λ e n clean open_ there entries serves.
    no_enum (nodes_of e) n c.setting_of.result c.in_default.not-EnumOf (subst (λ s. Says (nodes_of e) s (setting n prop.Encode)) (sym c.setting_of.ensures) (c.entries_say.ensures.settings (nodes_of e) n c.args.entries.now entries prop.Encode))
