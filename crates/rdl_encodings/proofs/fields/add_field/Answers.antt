use Rattle.std.proofs.Common.{◌≡◌, ◌∙◌, [], ◌∷◌, ◌++◌, ap, arith, cond, subst, sym, true}
use Rattle.rdl_tree.specs.declared.item.Kind.TheVariants as kinds
use Rattle.rdl_tree.specs.declared.node.Node.{out-Node}
use Rattle.rdl_tree.specs.Kinds.{same_kind}
use Rattle.rdl_props.specs.declared.prop.Prop.TheVariants as prop
use Rattle.rdl_values.specs.Elaborated.{nodes_of}
use Rattle.rdl_nodes.proofs.Members.{get-made, get-within, in-to, place-in}
use Rattle.rdl_layers.specs.Fields.{is_a}
use Rattle.rdl_layers.specs.Settings.{applied_to}
use Rattle.rdl_layers.specs.Tables.{entries_at, setting_in}
use Rattle.rdl_merge.specs.Merged.{AreEntries}
use Rattle.rdl_sizes.proofs.Facts.{count-is, nodes-many}
use Rattle.rdl_encodings.specs.Meant.{names_enum}
use Rattle.rdl_encodings.specs.Numbered.{AreNumbered}
use Rattle.rdl_encodings.proofs.Rows.{kind-turned, negated}
use Rattle.rdl_encodings.proofs.Settings.{entries-read}
use Rattle.rdl_encodings.proofs.fields.add_field.Goals as goal

pub returns-in_default : goal.returns-in_default
returns-in_default c = λ e n fs scene here kind_ h.
    let low = get-within (nodes_of e) (out-Node c.args.node.now).id n here in
    let nodes = nodes-many e in
    let count = count-is e scene.clean in
    let all = scene.all_nodes in
    absurd (omega (arith, low, nodes, count, all, c.in_default.ensures.lookup.3))

pub returns : goal.returns
returns c = λ e n fs scene here kind_ h.
    let id = (out-Node c.args.node.now).id in
    let es = c.args.entries.now in
    let at = c.in-Some.ensures.lookup.3 in
    let read : entries_at es id ≡ c.deref.result.now = entries-read es id c.in-Some.list.now (get-made es id c.in-Some.list.now c.in-Some.list.now at.0 (sym (at.1 c.in-Some.list.now))) ∙ sym c.deref.ensures.value in
    let field : is_a kinds.Field n ≡ true = ap (same_kind kinds.Field) (sym kind_) ∙ (sym (kind-turned (out-Node c.args.node.now).kind) ∙ negated _ c.if-ne.ensures) in
    let told = subst (λ xs. AreEntries (nodes_of e) xs (applied_to n)) read (scene.told.each id n here) in
    let encoded = c.enum_of-at.ensures e n scene.clean scene.open_ (in-to (nodes_of e) n (place-in (nodes_of e) id n here)) told (λ t. scene.serves id (ap (λ xs. names_enum (setting_in prop.Encode xs)) read ∙ t)) in
    subst (λ b. AreNumbered c.add.new.self c.args.enums.now (fs ++ cond b (n ∷ []) [])) (sym field) (c.in_ok-add.ensures fs n h encoded)
