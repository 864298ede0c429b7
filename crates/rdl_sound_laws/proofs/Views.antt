-- The views of a block.
use Rattle.std.proofs.Common.{◌≡◌, ◌∙◌, ℕ, Bool, true, false, [], map, slice_get, Contains, Some, refl, sym, subst}
use Rattle.rdl_tree.specs.declared.node.Elab.{Elab}
use Rattle.rdl_values.specs.Elaborated.{nodes_of, top_name}
use Rattle.rdl_values.specs.Instances.{Instance}
use Rattle.rdl_values.specs.Lineages.{lineages_of, nodes_in}
use Rattle.rdl_values.specs.Verdict.{IsListOf}
use Rattle.rdl_nodes.proofs.Lineages.{all_nodes}
use Rattle.rdl_layers.specs.Answers.{IsSettled}
use Rattle.rdl_layers.specs.Fields.{fields_of, is_alias}
use Rattle.rdl_nodes.proofs.Members.{In, flat-in, in-to, map-in}
use Rattle.rb_model.specs.declared.block.Block.{Block}
use Rattle.rb_model.specs.declared.block.Field.{Field}
use Rattle.rb_model.specs.declared.block.View.{View}
use Rattle.rb_model.specs.References.{Each}
use Rattle.rdl_rules.specs.Answers.{meaning_fails}
use Rattle.rdl_rules.specs.Block.{IsBlockOf}
use Rattle.rdl_rules.specs.Fields.{view_of}
use Rattle.rdl_rules.specs.Numbers.{registers}
use Rattle.rdl_sound_laws.proofs.Shown.{each-of}
use Rattle.rdl_sound_laws.specs.Fielded.{HasOneForm, HavePrimaries}
use Rattle.rdl_sound_laws.proofs.Aliases.{all-alias-fields}
use Rattle.rdl_sound_laws.proofs.Fields.{own-field}

module _ (e : Elab) (settled : IsSettled e) (clean : IsListOf (meaning_fails e) []) (waits : ℕ) (b : Block) (block : IsBlockOf (Some (top_name e)) e.source.now waits b) (one : (n : Instance) → Contains (nodes_of e) n → HasOneForm n) (mates : HavePrimaries (nodes_of e)) where
  abbrev pub Of : View → Type 0
  Of v = (f : Field) × (slice_get b.fields v.field ≡ Some f) × (v.alias ≡ false → v.path ≡ f.path)

  of-field : (r f : Instance) → Contains (registers (nodes_of e)) r → Contains (fields_of r) f → Of (view_of (lineages_of e) r f)
  of-field r f i h = by (is_alias r) refl
    where
      by : (t : Bool) → is_alias r ≡ t → Of (view_of (lineages_of e) r f)
      by false own = let v = own-field (Some (top_name e)) e.source.now waits b r f block i own h in (v.has.field, v.has.of, λ q. v.path_)
      by true alias =
          let m = mates r i alias in
          let v = all-alias-fields e settled clean waits b block one r m.0 f i alias m.1 m.2 h in
          (v.field, v.of, λ q. absurd (let two : true ≡ false = sym alias ∙ q in cc two))

  pub all-of : Each Of b.views
  all-of = each-of Of b.views (λ v h.
      let all = lineages_of e in
      let i = subst (λ vs. In vs v) block.views_ h in
      let r = flat-in (λ r. map (view_of all r) (fields_of r)) (registers (nodes_in all)) v i in
      let f = map-in (view_of all r.0) (fields_of r.0) v r.2 in
      subst Of f.2 (of-field r.0 f.0 (in-to (registers (nodes_of e)) r.0 (subst (λ ns. In (registers ns) r.0) (all_nodes (Some (top_name e)) e.source.now) r.1)) (in-to (fields_of r.0) f.0 f.1)))
