-- The views of a register are of different fields.
use Rattle.std.proofs.Common.{◌≡◌, ◌∙◌, ◌⊎◌, inl, inr, ℕ, zero, suc, Bool, true, false, not, cond, List, [], ◌∷◌, find, slice_get, Contains, Option, Some, refl, sym, ap, subst}
use Rattle.std.proofs.lemmas.List.Folds.{find_at}
use Rattle.rdl_tree.specs.declared.item.Kind.TheVariants as kind
use Rattle.rdl_tree.specs.declared.item.Source.{Source}
use Rattle.rdl_tree.specs.declared.node.Elab.{Elab}
use Rattle.rdl_values.specs.Bodies.{Step, below_top}
use Rattle.rdl_values.specs.Elaborated.{nodes_of, top_name}
use Rattle.rdl_values.specs.Instances.{Instance, children, nodes}
use Rattle.rdl_values.specs.Lineages.{Lineage, lineages_of}
use Rattle.rdl_values.specs.Verdict.{IsListOf}
use Rattle.rdl_nodes.proofs.Apart.{Apart}
use Rattle.rdl_nodes.proofs.Lineages.{all_nodes}
use Rattle.rdl_nodes.proofs.Paths.{Differ, children_apart}
use Rattle.rdl_layers.specs.Answers.{IsSettled}
use Rattle.rdl_layers.specs.Assignments.{same_path}
use Rattle.rdl_layers.specs.Fields.{fields_of, is_a, is_alias, is_alias_of}
use Rattle.rdl_nodes.proofs.Members.{In, each-in, in-flat, in-place, in-to, place-in}
use Rattle.rdl_nodes.proofs.Order.{shallow-at, stands-under}
use Rattle.rdl_sizes.proofs.Facts.{lineage-at}
use Rattle.rb_model.specs.declared.block.Block.{Block}
use Rattle.rdl_rules.specs.Answers.{meaning_fails}
use Rattle.rdl_rules.specs.Block.{IsBlockOf}
use Rattle.rdl_rules.specs.Fields.{first_number, view_of, viewed}
use Rattle.rdl_rules.specs.Numbers.{all_fields, number_of, primaries, registers}
use Rattle.rdl_fields.proofs.Lists.{apart-filter, filter-in, in-filter}
use Rattle.rdl_fields.proofs.Steps.{is-same-path, path-refl}
use Rattle.rdl_sound_laws.proofs.Closed.{one-node}
use Rattle.rdl_sound_laws.specs.Fielded.{HasOneForm, HavePrimaries}
use Rattle.rdl_sound_laws.proofs.Aliases.{alias-number}
use Rattle.rdl_sound_laws.proofs.Fields.{itself}
use Rattle.rdl_sound_laws.proofs.RegisterNames.{field-in-nodes, one-name}

-- Nodes of one number have one path.

at-number : (ns : List Instance) (f : Instance) → In ns f → (m : Instance) × (slice_get ns (number_of f ns) ≡ Some m) × (m.path ≡ f.path)
at-number ns f h = let r = first ns h in (r.0, sym (find_at (λ m. same_path m.path f.path) ns) ∙ r.1, r.2)
  where
    first : (ms : List Instance) → In ms f → (m : Instance) × (find (λ x. same_path x.path f.path) ms ≡ Some m) × (m.path ≡ f.path)
    first [] i = absurd i
    first (m ∷ ms) i = go (same_path m.path f.path) refl i (first ms)
      where
        go : (b : Bool) → same_path m.path f.path ≡ b → (m ≡ f) ⊎ In ms f → (In ms f → (x : Instance) × (find (λ y. same_path y.path f.path) ms ≡ Some x) × (x.path ≡ f.path)) → (x : Instance) × (cond b (Some m) (find (λ y. same_path y.path f.path) ms) ≡ Some x) × (x.path ≡ f.path)
        go true p i rest = (m, refl, is-same-path m.path f.path p)
        go false p (inr i) rest = rest i
        go false p (inl e) rest = let yes : same_path m.path f.path ≡ true = ap (λ (x : Instance). same_path x.path f.path) e ∙ path-refl f.path in let two : true ≡ false = sym yes ∙ p in cc two

one-number : (wanted : Option (List ℕ)) (s : Source) (ns : List Instance) (f g : Instance) → In ns f → In ns g → In (nodes wanted s) f → In (nodes wanted s) g → number_of f ns ≡ number_of g ns → f ≡ g
one-number wanted s ns f g i j fi gj e =
    let x = at-number ns f i in
    let y = at-number ns g j in
    let same : x.0 ≡ y.0 = (let q : Some x.0 ≡ Some y.0 = sym x.1 ∙ (ap (slice_get ns) e ∙ y.1) in cc q) in
    one-node wanted s f g fi gj (sym x.2 ∙ (ap (λ (n : Instance). n.path) same ∙ y.2))

-- A field stands at one place of its register.

one-place : (xs : List Instance) → Apart Differ xs → (i j : ℕ) (x : Instance) → slice_get xs i ≡ Some x → slice_get xs j ≡ Some x → i ≡ j
one-place [] h i j x p q = cc p
one-place (y ∷ ys) h zero zero x p q = refl
one-place (y ∷ ys) h zero (suc j) x p q = let same : y ≡ x = cc p in absurd (each-in (Differ y) ys x h.0 (place-in ys j x q) (ap (λ (n : Instance). n.path) same))
one-place (y ∷ ys) h (suc i) zero x p q = let same : y ≡ x = cc q in absurd (each-in (Differ y) ys x h.0 (place-in ys i x p) (ap (λ (n : Instance). n.path) same))
one-place (y ∷ ys) h (suc i) (suc j) x p q = ap suc (one-place ys h.1 i j x p q)

fields-apart : (e : Elab) (r : Instance) → In (nodes_of e) r → Apart Differ (fields_of r)
fields-apart e r i =
    let at = in-place (nodes_of e) r i in
    let l = lineage-at e at.0 r at.2 in
    apart-filter (is_a kind.Field) Differ (children r) (subst (λ n. Apart Differ (children n)) l.2 (by l.0 (stands-under l.0 (shallow-at (Some (top_name e)) e.source.now at.0 l.0 l.1))))
  where
    by : (l : Lineage) → ((ss : List Step) × (l.node.path ≡ below_top ss)) ⊎ (children l.node ≡ []) → Apart Differ (children l.node)
    by l (inl u) = children_apart l.node u.0 u.1
    by l (inr none) = subst (Apart Differ) (sym none) tt

pub same-place : (e : Elab) (r : Instance) → In (nodes_of e) r → (i j : ℕ) (f g : Instance) → slice_get (fields_of r) i ≡ Some f → slice_get (fields_of r) j ≡ Some g → f ≡ g → i ≡ j
same-place e r k i j f g p q same = one-place (fields_of r) (fields-apart e r k) i j g (p ∙ ap Some same) q

module _ (e : Elab) (settled : IsSettled e) (clean : IsListOf (meaning_fails e) []) (waits : ℕ) (b : Block) (block : IsBlockOf (Some (top_name e)) e.source.now waits b) (one : (n : Instance) → Contains (nodes_of e) n → HasOneForm n) (mates : HavePrimaries (nodes_of e)) where
  all-in : (r f : Instance) → In (registers (nodes_of e)) r → is_alias r ≡ false → In (fields_of r) f → In (all_fields (nodes_of e)) f
  all-in r f i own h = in-flat fields_of (primaries (nodes_of e)) r f (in-filter (λ x. not (is_alias x)) (registers (nodes_of e)) r i (ap not own)) h

  own-number : (r f : Instance) → is_alias r ≡ false → (view_of (lineages_of e) r f).field ≡ number_of f (all_fields (nodes_of e))
  own-number r f own = (λ i. first_number (viewed (all_nodes (Some (top_name e)) e.source.now i) r f) (all_fields (all_nodes (Some (top_name e)) e.source.now i))) ∙ ap (λ xs. first_number xs (all_fields (nodes_of e))) (itself (nodes_of e) r f own)

  pub one-field : (r f g : Instance) → In (registers (nodes_of e)) r → In (fields_of r) f → In (fields_of r) g → (view_of (lineages_of e) r f).field ≡ (view_of (lineages_of e) r g).field → f ≡ g
  one-field r f g i h k same = by (is_alias r) refl
    where
      node : In (nodes_of e) r
      node = filter-in (is_a kind.Reg) (nodes_of e) r i

      by : (t : Bool) → is_alias r ≡ t → f ≡ g
      by false own =
          one-number (Some (top_name e)) e.source.now (all_fields (nodes_of e)) f g (all-in r f i own h) (all-in r g i own k) (field-in-nodes (Some (top_name e)) e.source.now r node f h) (field-in-nodes (Some (top_name e)) e.source.now r node g k)
          (sym (own-number r f own) ∙ (same ∙ own-number r g own))
      by true alias =
          let m = mates r (in-to (registers (nodes_of e)) r i) alias in
          let reg : In (registers (nodes_of e)) m.0 = filter-in (λ p. is_alias_of p r) (registers (nodes_of e)) m.0 (subst (λ xs. In xs m.0) (sym m.1) (inl refl)) in
          let mate = filter-in (is_a kind.Reg) (nodes_of e) m.0 reg in
          let x = alias-number e settled clean waits b block one r m.0 f i alias m.1 m.2 h in
          let y = alias-number e settled clean waits b block one r m.0 g i alias m.1 m.2 k in
          let fields = one-number (Some (top_name e)) e.source.now (all_fields (nodes_of e)) x.0 y.0 (all-in m.0 x.0 reg m.2 x.1) (all-in m.0 y.0 reg m.2 y.1) (field-in-nodes (Some (top_name e)) e.source.now m.0 mate x.0 x.1) (field-in-nodes (Some (top_name e)) e.source.now m.0 mate y.0 y.1) (sym x.3 ∙ (same ∙ y.3)) in
          one-name (Some (top_name e)) e.source.now r node f g h k (x.2 ∙ (ap (λ (n : Instance). n.use_.name.text.now) fields ∙ sym y.2))
