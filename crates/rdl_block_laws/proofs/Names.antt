-- The fields of registers, by their names.
use Rattle.std.proofs.Common.{◌≡◌, ◌∙◌, ℕ, not, List, [], ◌∷◌, ◌++◌, Some, refl, sym, ap, subst}
use Rattle.plain_lemmas.proofs.Lists.{each-filter}
use Rattle.rdl_tree.specs.declared.item.Kind.TheVariants as kind
use Rattle.rdl_tree.specs.declared.item.Source.{Source}
use Rattle.rdl_tree.specs.declared.node.Elab.{Elab}
use Rattle.rdl_values.specs.Bodies.{Path, Step, below_top}
use Rattle.rdl_values.specs.Elaborated.{index_of, last_index, nodes_of, top_name}
use Rattle.rdl_values.specs.Instances.{Instance, children, kind_of}
use Rattle.rdl_values.specs.Paths.{in_node, path_in}
use Rattle.rdl_values.specs.Uses.{Use}
use Rattle.rdl_values.proofs.Given.{IsChildOf, children-given}
use Rattle.rdl_nodes.proofs.Apart.{Apart}
use Rattle.rdl_nodes.proofs.Paths.{Differ}
use Rattle.rdl_layers.specs.Fields.{fields_of, is_a, is_alias}
use Rattle.rdl_nodes.proofs.Members.{In, each-in, in-place}
use Rattle.rdl_sound_laws.proofs.Closed.{one-node}
use Rattle.rdl_sizes.proofs.Facts.{lineage-at}
use Rattle.rdl_rules.specs.Numbers.{all_fields, primaries, registers}
use Rattle.rdl_fields.proofs.Lists.{filter-in, filter-true}
use Rattle.rdl_members.proofs.Sharing.{no-index}
use Rattle.rdl_sound_laws.proofs.Distinct.{apart-filter}
use Rattle.rdl_sound_laws.proofs.Names.{IsRegister, all_registers, fields_apart, registers_apart, same_front}
use Rattle.rdl_block_laws.proofs.FieldPlaces.{field-node}

last-step : (ss : List Step) (t : Step) → last_index (ss ++ (t ∷ [])) ≡ t.index
last-step [] t = refl
last-step (s ∷ []) t = refl
last-step (s ∷ u ∷ ss) t = last-step (u ∷ ss) t

abbrev steps_in : Path → List Step
steps_in (below_top ss) = ss
steps_in _ = []

abbrev step_from : List ℕ → List ℕ → Step
step_from name index = record { name = name; index = index }

abbrev step_of : Instance → Step
step_of c = step_from c.use_.name.text.now []

module _ (e : Elab) where
  abbrev s : Source
  s = e.source.now

  -- no two fields have one path
  pub own-apart : Apart Differ (all_fields (nodes_of e))
  own-apart = fields_apart (Some (top_name e)) s (primaries (nodes_of e)) (each-filter (IsRegister (Some (top_name e)) s) (λ r. not (is_alias r)) (registers (nodes_of e)) (all_registers (Some (top_name e)) s)) (apart-filter Differ (λ r. not (is_alias r)) (registers (nodes_of e)) (registers_apart (Some (top_name e)) s))

  register-is : (r : Instance) → In (registers (nodes_of e)) r → IsRegister (Some (top_name e)) s r
  register-is r i = each-in (IsRegister (Some (top_name e)) s) (registers (nodes_of e)) r (all_registers (Some (top_name e)) s) i

  -- a field's path is its register's, and its name
  field-path : (r : Instance) (i : In (registers (nodes_of e)) r) (f : Instance) → In (fields_of r) f → f.path ≡ below_top ((register-is r i).steps ++ (step_of f ∷ []))
  field-path r i f h =
      let h_reg = register-is r i in
      let child = filter-in (is_a kind.Field) (children r) f h in
      let by = each-in (IsChildOf r) (children r) f (children-given r) child in
      let step = step_from by.by.use_.name.text.now by.given_.index in
      let whole : f.path ≡ below_top (h_reg.steps ++ (step ∷ [])) = by.given_.path_is ∙ (ap (λ p. path_in p step) by.in_body ∙ ap (λ p. path_in (in_node p (kind_of r)) step) h_reg.path_is) in
      let at = in-place (nodes_of e) r h_reg.node in
      let l = lineage-at e at.0 r at.2 in
      let bare : index_of f.path ≡ [] = no-index e at.0 l.0 l.1 f (subst (λ (n : Instance). In (children n) f) (sym l.2) child) (filter-true (is_a kind.Field) (children r) f h) in
      let index : by.given_.index ≡ [] = sym (last-step h_reg.steps step) ∙ (ap index_of (sym whole) ∙ bare) in
      let name : by.by.use_.name.text.now ≡ f.use_.name.text.now = ap (λ (u : Use). u.name.text.now) (sym by.given_.use_is) in
      whole ∙ (λ j. below_top (h_reg.steps ++ (step_from (name j) (index j) ∷ [])))

  -- so a name is that of one field
  pub one-name : (r : Instance) → In (registers (nodes_of e)) r → (f g : Instance) → In (fields_of r) f → In (fields_of r) g → f.use_.name.text.now ≡ g.use_.name.text.now → f ≡ g
  one-name r i f g h k same =
      one-node (Some (top_name e)) s f g (field-node (Some (top_name e)) s r i f h) (field-node (Some (top_name e)) s r i g k)
      (field-path r i f h ∙ (ap (λ t. below_top ((register-is r i).steps ++ (step_from t [] ∷ []))) same ∙ sym (field-path r i g k)))

  -- and a field is one register's
  pub one-register : (r q : Instance) → In (registers (nodes_of e)) r → In (registers (nodes_of e)) q → (f : Instance) → In (fields_of r) f → In (fields_of q) f → r ≡ q
  one-register r q i j f h k =
      let a = register-is r i in
      let b = register-is q j in
      let steps : a.steps ≡ b.steps = same_front a.steps b.steps (step_of f) (step_of f) (ap steps_in (sym (field-path r i f h) ∙ field-path q j f k)) in
      one-node (Some (top_name e)) s r q a.node b.node (a.path_is ∙ (ap below_top steps ∙ sym b.path_is))
