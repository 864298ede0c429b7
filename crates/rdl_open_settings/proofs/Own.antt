-- What a node is set to by its own instance and by the body of its definition, and its widths.
use Rattle.std.proofs.Common.{◌≡◌, ◌∙◌, ◌⊎◌, inl, inr, ℕ, List, [], ◌++◌, None, Some, MatchOption, slice_get, refl, sym, ap, subst, append-nil}
use Rattle.std.specs.Borrow.{Bor}
use Rattle.std.specs.Option.{option_copied}
use Rattle.rdl_tree.specs.declared.item.Inst.{Inst}
use Rattle.rdl_tree.specs.declared.item.Kind.TheVariants as kind
use Rattle.rdl_tree.specs.declared.node.Elab.{Elab}
use Rattle.rdl_tree.specs.declared.node.Node.{Node, out-Node}
use Rattle.rdl_values.specs.Bodies.{around}
use Rattle.rdl_values.specs.Chained.{chained}
use Rattle.rdl_values.specs.Elaborated.{nodes_of}
use Rattle.rdl_values.specs.Instances.{Instance, body, kind_of}
use Rattle.rdl_values.specs.Uses.{form_of}
use Rattle.rdl_failures.specs.Shown.{IsAlike}
use Rattle.rdl_layers.specs.Assignments.{locals}
use Rattle.rdl_layers.specs.Judged.{failures_of, legal_on, sound}
use Rattle.rdl_layers.specs.Settings.{Applied, from_instance}
use Rattle.rdl_layers.specs.declared.props.PropSetting.{PropSetting}
use Rattle.rdl_assignments.specs.Layers.{AreGiven}
use Rattle.rdl_merge.specs.Merged.{AreEntries, AreIn}
use Rattle.rdl_merge.specs.Widths.{IsOfText}
use Rattle.rdl_bodies.specs.declared.bodies.Body.{Body}
use Rattle.rdl_open_bodies.specs.Spots.{IsOpenAt}
use Rattle.rdl_open_bodies.specs.declared.spots.OpenTree.{OpenTree}
use Rattle.rdl_open_bodies.specs.declared.spots.Spot.{Spot}
use Rattle.rdl_open_settings.specs.Layered.{HasLayers, layers_at}
use Rattle.rdl_open_settings.specs.declared.layers.Layers.{Layers}
use Rattle.rdl_open_settings.specs.declared.table.LayerTable.{LayerTable}
use Rattle.rdl_open_settings.specs.Completed.{IsKnownAt, IsNode, IsScene}
use Rattle.rdl_open_settings.proofs.Numbered.{locals_in}
use Rattle.rdl_open_settings.proofs.Round.{node_known}

module _ (e : Elab) (tree : OpenTree) (r : Node) (o : Spot) (n : Instance) (h : IsNode e tree r o n) where
  -- the node has no instance
  pub no_inst : (out-Node r).inst ≡ None → (kind_of n ≡ kind.Addrmap) × (n.use_.form.reset ≡ None)
  no_inst none =
      let is : n.use_.inst ≡ None = sym h.says.inst ∙ ap option_copied none in
      let p = subst (λ i. MatchOption i ((kind_of n ≡ kind.Addrmap) × (n.use_.dims ≡ []) × (n.use_.form.range ≡ None) × (n.use_.form.reset ≡ None)) (λ j. (n.use_.dims ≡ j.dims.now) × (n.use_.form ≡ form_of j))) is h.spot.parts in
      (p.0, p.3)

  -- the instance that it has
  pub own_inst : (i : Bor Inst) → (out-Node r).inst ≡ Some i → (n.use_.dims ≡ i.now.dims.now) × (n.use_.form ≡ form_of i.now)
  own_inst i some =
      let is : n.use_.inst ≡ Some i.now = sym h.says.inst ∙ ap option_copied some in
      subst (λ j. MatchOption j ((kind_of n ≡ kind.Addrmap) × (n.use_.dims ≡ []) × (n.use_.form.range ≡ None) × (n.use_.form.reset ≡ None)) (λ j. (n.use_.dims ≡ j.dims.now) × (n.use_.form ≡ form_of j))) is h.spot.parts

  pub of_text : (i : Bor Inst) → (out-Node r).inst ≡ Some i → IsOfText i.now n
  of_text i some = let p = own_inst i some in record { dims = p.0; range = ap (λ f. f.range) p.1 }

  pub own_reset : (i : Bor Inst) → (out-Node r).inst ≡ Some i → n.use_.form.reset ≡ option_copied i.now.reset
  own_reset i some = ap (λ f. f.reset) (own_inst i some).1

  -- what the use sees
  pub use_sees : (x : Body) → slice_get tree.bodies.list.items o.within ≡ Some x → IsAlike (chained tree.bodies.tables.items x.numbers.now) (around n.use_.scope)
  use_sees x at =
      let both : Some h.spot.use_.open_ ≡ Some x = sym h.spot.use_.here ∙ at in
      let same : h.spot.use_.open_ ≡ x = cc in
      subst (λ y. IsAlike (chained tree.bodies.tables.items y.numbers.now) (around n.use_.scope)) same h.spot.use_.alike

  pub use_open : slice_get tree.bodies.list.items o.within ≡ None → ⊥
  use_open none = let both : Some h.spot.use_.open_ ≡ None = sym h.spot.use_.here ∙ none in cc

  pub no_reset : (all : List Instance) (es : List PropSetting) (xs : List Applied) → (out-Node r).inst ≡ None → AreEntries all es xs → AreEntries all es (xs ++ from_instance n.use_)
  no_reset all es xs none before =
      let nothing : from_instance n.use_ ≡ [] = ap (λ f. from_instance (record n.use_ { form = record n.use_.form { reset = f } })) (no_inst none).1 in
      subst (λ ys. AreEntries all es (xs ++ ys)) (sym nothing) (subst (AreEntries all es) (sym (append-nil xs)) before)

  pub not_unit : ((out-Node r).kind ≡ kind.Field) ⊎ ((out-Node r).kind ≡ kind.Signal) → (out-Node r).inst ≡ None → ⊥
  not_unit (inl q) none = let same : kind.Field ≡ kind.Addrmap = sym q ∙ h.says.kind ∙ (no_inst none).0 in cc
  not_unit (inr q) none = let same : kind.Signal ≡ kind.Addrmap = sym q ∙ h.says.kind ∙ (no_inst none).0 in cc

-- The body of its definition.
module _ (e : Elab) (tree : OpenTree) (x : LayerTable) (count number : ℕ) (r : Node) (o : Spot) (n : Instance) (scene : IsScene e tree x count) (h : IsNode e tree r o n) where
  known : IsKnownAt tree x (Some o.body) (body n)
  known = node_known e tree x count (out-Node r).id scene n h.there o h.listed (body n) refl

  same-body : known.k ≡ o.body
  same-body = let both : Some o.body ≡ Some known.k = known.is in cc

  pub no_layers : layers_at x o.body ≡ None → ⊥
  no_layers none =
      let has = subst (HasLayers x) same-body known.layers in
      let both : Some has.0 ≡ None = sym has.1 ∙ none in
      cc

  pub own_locals : (l : Layers) → layers_at x o.body ≡ Some l → AreGiven 0 l.locals.items (sound (failures_of (legal_on n)) (locals (body n)))
  own_locals l found = (scene.layered.all.known o.body l found (body n) (subst (λ k. IsOpenAt tree.bodies k (body n)) same-body known.open_)).1.locals_are

  pub own_in : (out-Node r).id ≡ number → AreIn (nodes_of e) number (sound (failures_of (legal_on n)) (locals (body n)))
  own_in id = locals_in (nodes_of e) number (failures_of (legal_on n)) (body n) (n, subst (λ k. slice_get (nodes_of e) k ≡ Some n) id h.there, refl)
