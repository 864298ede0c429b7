use Rattle.std.proofs.Common.{◌≡◌, ◌∙◌, None, Some, subst, sym}
use Rattle.rdl_props.specs.declared.prop.Prop.TheVariants as prop
use Rattle.rdl_values.specs.Bodies.{around}
use Rattle.rdl_values.specs.Elaborated.{nodes_of}
use Rattle.rdl_layers.specs.Says.{Says}
use Rattle.rdl_layers.specs.Settings.{setting}
use Rattle.rdl_bodies.specs.Sited.{HaveNames}
use Rattle.rdl_bodies.specs.declared.bodies.Body.{Body}
use Rattle.rdl_facts.proofs.Wide.{enum_said, no_enum, of_enum}
use Rattle.rdl_facts.proofs.encoded.has_wide_entry.Goals as goal

pub returns-in-Some : goal.returns-in-Some
returns-in-Some c = λ e n clean open_ numbers there entries width.
    let t = c.args.tree.now in
    let x = c.in-Some.body in
    let name = c.in-EnumOf.name in
    let says = subst (λ s. Says (nodes_of e) s (setting n prop.Encode)) (sym c.in-EnumOf.ensures) (c.entries_say.ensures.settings (nodes_of e) n c.args.entries.now entries prop.Encode) in
    let named = enum_said (nodes_of e) name c.in-EnumOf.scope (setting n prop.Encode) says in
    let shown = c.body_round.ensures e name.now named.scope (record { clean = clean; open_ = open_; node = n; there = there; prop = prop.Encode; named = named.is; seen_from = named.number }) in
    let both : Some shown.0 ≡ Some x = sym shown.1 ∙ c.in-Some.is in
    let same : shown.0 ≡ x = cc in
    let have = subst (λ (y : Body). HaveNames t.bodies.list.items y.numbers.now (around named.scope)) same shown.2 in
    c.is_wide.ensures ∙ of_enum n c.args.width c.greatest.result name.now named.scope named.is width (c.greatest.ensures t.bodies (around named.scope) numbers have)

pub returns-in-None : goal.returns-in-None
returns-in-None c = λ e n clean open_ numbers there entries width.
    let name = c.in-EnumOf.name in
    let says = subst (λ s. Says (nodes_of e) s (setting n prop.Encode)) (sym c.in-EnumOf.ensures) (c.entries_say.ensures.settings (nodes_of e) n c.args.entries.now entries prop.Encode) in
    let named = enum_said (nodes_of e) name c.in-EnumOf.scope (setting n prop.Encode) says in
    let shown = c.body_round.ensures e name.now named.scope (record { clean = clean; open_ = open_; node = n; there = there; prop = prop.Encode; named = named.is; seen_from = named.number }) in
    let both : Some shown.0 ≡ None = sym shown.1 ∙ c.in-None.is in
    cc

pub returns-in_default : goal.returns-in_default
returns-in_default c = λ e n clean open_ numbers there entries width.
    no_enum (nodes_of e) n c.setting_of.result c.in_default.not-EnumOf (subst (λ s. Says (nodes_of e) s (setting n prop.Encode)) (sym c.setting_of.ensures) (c.entries_say.ensures.settings (nodes_of e) n c.args.entries.now entries prop.Encode))
