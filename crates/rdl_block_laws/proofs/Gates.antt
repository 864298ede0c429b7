-- The gates of views.
use Rattle.std.proofs.Common.{ℕ, IsTrue, [], map, Some, refl, subst}
use Rattle.rdl_props.specs.declared.prop.Prop.TheVariants as prop
use Rattle.rdl_tree.specs.declared.node.Elab.{Elab}
use Rattle.rdl_values.specs.Elaborated.{nodes_of, top_name}
use Rattle.rdl_values.specs.Instances.{Instance}
use Rattle.rdl_values.specs.Lineages.{lineages_of, nodes_in}
use Rattle.rdl_values.specs.Verdict.{IsListOf}
use Rattle.rdl_nodes.proofs.Lineages.{all_nodes}
use Rattle.rdl_layers.specs.Fields.{fields_of}
use Rattle.rdl_layers.proofs.Formed.{setting_formed}
use Rattle.rdl_nodes.proofs.Members.{In, flat-in, map-in, place-in}
use Rattle.rdl_refs.specs.Answers.{IsBound}
use Rattle.rb_model.specs.declared.block.Block.{Block}
use Rattle.rb_model.specs.declared.block.View.{View}
use Rattle.rb_model.specs.References.{AreWide, Each, gate_refs}
use Rattle.rb_model.specs.SoundField.{is_gate_fed}
use Rattle.rdl_rules.specs.Answers.{meaning_fails}
use Rattle.rdl_rules.specs.Block.{IsBlockOf}
use Rattle.rdl_rules.specs.Fields.{view_of}
use Rattle.rdl_rules.specs.Numbers.{registers}
use Rattle.rdl_sound_laws.proofs.Fed.{gate-fed}
use Rattle.rdl_sound_laws.proofs.Faultless.{leads}
use Rattle.rdl_block_laws.proofs.Items.{gate-at}
use Rattle.rdl_block_laws.proofs.FieldPlaces.{each-of, field-node}

module _ (e : Elab) (waits : ℕ) (b : Block) (block : IsBlockOf (Some (top_name e)) e.source.now waits b) where
  -- what holds of the view of each field of a register
  each-view : (P : View → Type 0) → ((r f : Instance) → In (registers (nodes_of e)) r → In (fields_of r) f → P (view_of (lineages_of e) r f)) → Each P b.views
  each-view P h = each-of P b.views (λ k v at.
      let all = lineages_of e in
      let i = subst (λ vs. In vs v) block.views_ (place-in b.views k v at) in
      let r = flat-in (λ r. map (view_of all r) (fields_of r)) (registers (nodes_in all)) v i in
      let f = map-in (view_of all r.0) (fields_of r.0) v r.2 in
      subst P f.2 (h r.0 f.0 (subst (λ ns. In (registers ns) r.0) (all_nodes (Some (top_name e)) e.source.now) r.1) f.1))

  node : (r f : Instance) → In (registers (nodes_of e)) r → In (fields_of r) f → In (nodes_of e) f
  node r f i h = field-node (Some (top_name e)) e.source.now r i f h

  pub all-fed : IsBound e → Each (λ v. IsTrue (is_gate_fed v.gate)) b.views
  all-fed bound = each-view (λ v. IsTrue (is_gate_fed v.gate)) (λ r f i h. gate-fed (lineages_of e) f prop.Swwe prop.Swwel (setting_formed f) refl refl (leads e bound f (node r f i h)))

  pub all-bits : IsListOf (meaning_fails e) [] → Each (λ v. AreWide b 1 (gate_refs v.gate)) b.views
  all-bits none = each-view (λ v. AreWide b 1 (gate_refs v.gate)) (λ r f i h. gate-at e none waits b block f (node r f i h) prop.Swwe prop.Swwel refl refl)
