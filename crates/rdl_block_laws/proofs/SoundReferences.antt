-- What all fields of a block refer to.
use Rattle.std.proofs.Common.{◌≡◌, ℕ, false, List, [], Option, Some, slice_get, subst}
use Rattle.rdl_tree.specs.declared.item.Source.{Source}
use Rattle.rdl_tree.specs.declared.node.Elab.{Elab}
use Rattle.rdl_values.specs.Elaborated.{nodes_of, top_name}
use Rattle.rdl_values.specs.Verdict.{IsListOf}
use Rattle.rdl_nodes.proofs.Members.{In, place-in}
use Rattle.rdl_refs.specs.Answers.{IsBound}
use Rattle.rb_model.specs.declared.block.Block.{Block}
use Rattle.rb_model.specs.declared.block.Field.{Field}
use Rattle.rb_model.specs.declared.block.Reg.{Reg}
use Rattle.rb_model.specs.declared.block.Signal.{Signal}
use Rattle.rb_model.specs.References.{Each, WithSome}
use Rattle.rb_model.specs.SoundField.{RefersWell}
use Rattle.rdl_rules.specs.Answers.{meaning_fails}
use Rattle.rdl_rules.specs.Block.{IsBlockOf}
use Rattle.rdl_rules.specs.Numbers.{all_fields}
use Rattle.rdl_sound_laws.proofs.Found.{field-in}
use Rattle.rdl_block_laws.proofs.Items.{refers}
use Rattle.rdl_block_laws.proofs.FieldPlaces.{IsOf, each-of, in-register, of-place}
use Rattle.rdl_block_laws.proofs.Resets.{reset-in}

pub in-registers : (wanted : Option (List ℕ)) (s : Source) (waits : ℕ) (b : Block) → IsBlockOf wanted s waits b → Each (λ f. (r : Reg) × (slice_get b.regs f.reg ≡ Some r) × (r.alias ≡ false)) b.fields
in-registers wanted s waits b block = each-of (λ f. (r : Reg) × (slice_get b.regs f.reg ≡ Some r) × (r.alias ≡ false)) b.fields (in-register wanted s waits b block)

module _ (e : Elab) (waits : ℕ) (b : Block) (none : IsListOf (meaning_fails e) []) (block : IsBlockOf (Some (top_name e)) e.source.now waits b) where
  node : (k : ℕ) (f : Field) (o : IsOf (Some (top_name e)) e.source.now k f) → In (nodes_of e) o.node
  node k f o = field-in (Some (top_name e)) e.source.now o.node (place-in (all_fields (nodes_of e)) k o.node o.here)

  pub all-refer : Each (RefersWell b) b.fields
  all-refer = each-of (RefersWell b) b.fields (λ k f at. let o = of-place (Some (top_name e)) e.source.now waits b block k f at in subst (RefersWell b) o.is (refers e none waits b block o.above o.node (node k f o)))

  pub all-reset : IsBound e → Each (λ f. WithSome f.reset_by.signal (λ s. (g : Signal) × (slice_get b.signals s ≡ Some g) × (g.width ≡ 1))) b.fields
  all-reset bound = each-of Reset b.fields (λ k f at.
      let o = of-place (Some (top_name e)) e.source.now waits b block k f at in
      subst Reset o.is (reset-in e none bound waits b block o.above.register o.lineage o.node (node k f o)))
    where
      Reset : Field → Type 0
      Reset f = WithSome f.reset_by.signal (λ s. (g : Signal) × (slice_get b.signals s ≡ Some g) × (g.width ≡ 1))
