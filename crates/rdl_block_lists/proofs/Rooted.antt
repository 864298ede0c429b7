-- Signals, and which of them stand at the root.
use Rattle.std.proofs.Common.{◌≡◌, ◌∙◌, ◌⊎◌, inl, inr, ℕ, ◌+◌, Bool, true, false, cond, List, [], ◌∷◌, ◌++◌, filter, map, take, is_none, Option, None, Some, slice_get, refl, sym, ap, subst}
use Rattle.std.proofs.lemmas.List.{map-append}
use Rattle.rdl_tree.specs.declared.item.Kind.{Kind}
use Rattle.rdl_tree.specs.declared.item.Kind.TheVariants as kind
use Rattle.rdl_tree.specs.declared.node.Elab.{Elab}
use Rattle.rdl_tree.specs.Kinds.{same_kind}
use Rattle.rdl_values.specs.Bodies.{Step, below_top, of_signal}
use Rattle.rdl_values.specs.Elaborated.{top_name}
use Rattle.rdl_values.specs.Instances.{Instance, children, kind_of, signals, top_of}
use Rattle.rdl_values.specs.Lineages.{Lineage, lineages_of}
use Rattle.rdl_values.specs.Parts.{is_unit}
use Rattle.rdl_values.specs.Paths.{path_in}
use Rattle.rdl_values.proofs.Given.{IsAtRoot, signals-given}
use Rattle.rdl_nodes.proofs.Paths.{IsChild, are_children}
use Rattle.rdl_nodes.specs.Rows.{IsParent}
use Rattle.rdl_addr.proofs.Covers.{address_by_kind}
use Rattle.rdl_layers.specs.Fields.{is_a}
use Rattle.rdl_nodes.proofs.Members.{In, each-in, place-in}
use Rattle.rdl_nodes.proofs.Order.{behind, shallow-at, stands-under}
use Rattle.rdl_refs.specs.Leads.{is_at_root}
use Rattle.rdl_fields.proofs.Lists.{filter-next}
use Rattle.rdl_bits.proofs.Descending.{at-top, top-placed}
use Rattle.rb_model.specs.declared.block.Signal.{Signal}
use Rattle.rdl_rules.specs.Block.{signal_of}

the-kind : (k : Kind) → same_kind kind.Signal k ≡ true → k ≡ kind.Signal
the-kind kind.Signal q = refl
the-kind _ q = cc q

pub unit-signal : (k : Kind) → same_kind kind.Signal k ≡ true → is_unit k ≡ true
unit-signal kind.Signal q = refl
unit-signal kind.Field q = refl
unit-signal kind.Reg q = cc q
unit-signal kind.Regfile q = cc q
unit-signal kind.Addrmap q = cc q

module _ (e : Elab) where
  -- a signal stands at the root where it stands in no node
  pub rooted : (k : ℕ) (l : Lineage) → slice_get (lineages_of e) k ≡ Some l → same_kind kind.Signal (kind_of l.node) ≡ true → (o : Option ℕ) → IsParent (lineages_of e) o l.ancestors → is_none o ≡ is_at_root l.node.path
  rooted k l here signal None up = sym (alone (at-top (Some (top_name e)) e.source.now l (place-in (lineages_of e) k l here) up))
    where
      alone : In (signals e.source.now) l.node ⊎ In (top_of (Some (top_name e)) e.source.now) l.node → is_at_root l.node.path ≡ true
      alone (inl i) =
          let h = each-in IsAtRoot (signals e.source.now) l.node (signals-given e.source.now) i in
          let s : Step = record { name = h.by.use_.name.text.now; index = h.given_.index } in
          let path : l.node.path ≡ of_signal s = h.given_.path_is ∙ ap (λ p. path_in p s) h.in_body in
          ap is_at_root path
      alone (inr i) = absurd (let clash : true ≡ false = sym (top-placed (Some (top_name e)) e.source.now l.node i) ∙ address_by_kind l.node kind.Signal (the-kind (kind_of l.node) signal) in cc clash)
  rooted k l here signal (Some p) up =
      let q = up.0 in
      let b = behind (Some (top_name e)) e.source.now k l q.node q.ancestors here up.2 in
      sym (inside b.3 (stands-under (record { node = q.node; ancestors = q.ancestors }) (shallow-at (Some (top_name e)) e.source.now b.0 (record { node = q.node; ancestors = q.ancestors }) b.2)))
    where
      inside : In (children up.0.node) l.node → ((ss : List Step) × (up.0.node.path ≡ below_top ss)) ⊎ (children up.0.node ≡ []) → is_at_root l.node.path ≡ false
      inside h (inl u) = let c = each-in (IsChild u.0) (children up.0.node) l.node (are_children up.0.node u.0 u.1) h in ap is_at_root c.1
      inside h (inr none) = absurd (subst (λ cs. In cs l.node) none h)

-- One node more.

pub one-signal : (ns : List Instance) (at : ℕ) (n : Instance) → slice_get ns at ≡ Some n → (b : Bool) → b ≡ is_a kind.Signal n → (s : Signal) → (b ≡ true → s ≡ signal_of n) → (old new : List Signal) → old ≡ map signal_of (filter (is_a kind.Signal) (take at ns)) → new ≡ old ++ cond b (s ∷ []) []
    → new ≡ map signal_of (filter (is_a kind.Signal) (take (at + 1) ns))
one-signal ns at n here b is s same old new before put =
    put ∙ ((λ i. before i ++ added i)
    ∙ (sym (map-append signal_of (filter (is_a kind.Signal) (take at ns)) (cond (is_a kind.Signal n) (n ∷ []) [])) ∙ ap (map signal_of) (sym (filter-next (is_a kind.Signal) ns at n here))))
  where
    by : (t : Bool) → (t ≡ true → s ≡ signal_of n) → cond t (s ∷ []) [] ≡ map signal_of (cond t (n ∷ []) [])
    by true f = ap (λ x. x ∷ []) (f refl)
    by false f = refl

    added : cond b (s ∷ []) [] ≡ map signal_of (cond (is_a kind.Signal n) (n ∷ []) [])
    added = by b same ∙ ap (λ t. map signal_of (cond t (n ∷ []) [])) is
