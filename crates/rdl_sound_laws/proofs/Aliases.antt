-- The view of a field of an alias.
use Rattle.std.proofs.Common.{◌≡◌, ◌∙◌, inl, inr, ℕ, ◌+◌, ◌-◌, ◌==◌, ◌&&◌, ◌||◌, Bool, true, false, not, cond, List, [], ◌∷◌, ◌++◌, filter, flat_map, slice_get, Contains, Some, append-nil, refl, sym, ap, subst, arith}
use Rattle.std.specs.Cmp.Lexicographic.{bytes_decides}
use Rattle.std.specs.List.{list_any}
use Rattle.std.proofs.lemmas.Bool.Decides.{nat_tests}
use Rattle.rb_base.specs.declared.place.Place.{Place}
use Rattle.rdl_base.specs.declared.rule.Rule.TheVariants as rules
use Rattle.rdl_tree.specs.declared.expr.Name.{Name}
use Rattle.rdl_tree.specs.declared.item.Kind.TheVariants as kind
use Rattle.rdl_tree.specs.declared.node.Elab.{Elab}
use Rattle.rdl_props.specs.declared.prop.Prop.TheVariants as prop
use Rattle.rdl_values.specs.Bodies.{same_name}
use Rattle.rdl_values.specs.Elaborated.{nodes_of, top_name}
use Rattle.rdl_values.specs.Faults.{at_}
use Rattle.rdl_values.specs.Instances.{Instance, children, is_empty}
use Rattle.rdl_values.specs.Lineages.{lineages_of}
use Rattle.rdl_values.specs.Verdict.{IsListOf}
use Rattle.rdl_nodes.proofs.Lineages.{all_nodes}
use Rattle.rdl_layers.specs.Answers.{IsSettled}
use Rattle.rdl_layers.specs.Fields.{fields_of, is_a, is_alias, is_alias_of}
use Rattle.rdl_layers.specs.Phase4.{width_of}
use Rattle.rdl_nodes.proofs.Members.{In, in-flat, in-from, in-left, in-right, in-to, map-in}
use Rattle.rdl_addr.specs.Bits.{Bits, bits_of}
use Rattle.rb_model.specs.declared.block.Block.{Block}
use Rattle.rdl_rules.specs.Answers.{meaning_fails}
use Rattle.rdl_rules.specs.Block.{IsBlockOf}
use Rattle.rdl_rules.specs.FieldRules.{at_node, of_view}
use Rattle.rdl_rules.specs.Fields.{field_of, first_number, view_of, viewed}
use Rattle.rdl_rules.specs.Numbers.{all_fields, number_of, primaries, registers}
use Rattle.rdl_rules.specs.Phase6.{failures6}
use Rattle.rdl_rules.specs.RegisterRules.{against_primary, differs, is_same_bits, of_alias, of_fields, of_register}
use Rattle.rdl_fields.proofs.Lists.{filter-in, filter-true, in-filter}
use Rattle.rdl_sound_laws.proofs.Found.{field-at}
use Rattle.rdl_fields.proofs.Fields.{field-in, nodes-are}
use Rattle.rdl_sound_laws.specs.Fielded.{HasField, HasOneForm}
use Rattle.rdl_sound_laws.proofs.Failing.{among, none-in}
use Rattle.rdl_sound_laws.proofs.RegisterNames.{field-in-nodes, one-name}
use Rattle.rdl_sound_laws.proofs.Widths.{field-wide}

text-same : (m n : Name) → same_name m n ≡ true → m.text.now ≡ n.text.now
text-same m n e = (bytes_decides m.text.now n.text.now).0 e

same-parts : (b c : Bits) → is_same_bits b c ≡ true → (same_name b.node.use_.name c.node.use_.name ≡ true) × (b.high ≡ c.high) × (b.low ≡ c.low)
same-parts b c e = by (same_name b.node.use_.name c.node.use_.name) (b.high == c.high) (b.low == c.low) refl refl e
  where
    equal : (x y : ℕ) → (x == y) ≡ true → x ≡ y
    equal x y q = grind (arith, nat_tests, q)

    by : (n h l : Bool) → (b.high == c.high) ≡ h → (b.low == c.low) ≡ l → (n && h && l) ≡ true → (n ≡ true) × (b.high ≡ c.high) × (b.low ≡ c.low)
    by true true true p q f = (refl, equal b.high c.high p, equal b.low c.low q)
    by true true false p q f = cc f
    by true false l p q f = cc f
    by false h l p q f = cc f

any-in : {X : Type 0} (p : X → Bool) (xs : List X) → list_any p xs ≡ true → (x : X) × In xs x × (p x ≡ true)
any-in p [] e = cc e
any-in p (x ∷ xs) e = go (p x) refl e (any-in p xs)
  where
    go : (b : Bool) → p x ≡ b → (b || list_any p xs) ≡ true → (list_any p xs ≡ true → (y : _) × In xs y × (p y ≡ true)) → (y : _) × In (x ∷ xs) y × (p y ≡ true)
    go true q h rest = (x, inl refl, q)
    go false q h rest = let r = rest h in (r.0, inr r.1, r.2)

module _ (e : Elab) (clean : IsListOf (meaning_fails e) []) where
  never : (p : Place) → Contains (failures6 (Some (top_name e)) e.source.now) (at_ rules.F12 p) → ⊥
  never p c = none-in (at_ rules.F12 p) ((clean.exact (at_ rules.F12 p)).1 c)

  -- the primary has a field of the name at the same bits
  pub like-bits : (a r : Instance) → In (registers (nodes_of e)) a → is_alias a ≡ true → In (filter (λ p. is_alias_of p a) (registers (nodes_of e))) r → (b : Bits) → In (bits_of a) b → list_any (is_same_bits b) (bits_of r) ≡ true
  like-bits a r i alias mate b h = by (list_any (is_same_bits b) (bits_of r)) refl
    where
      by : (t : Bool) → list_any (is_same_bits b) (bits_of r) ≡ t → list_any (is_same_bits b) (bits_of r) ≡ true
      by true q = q
      by false q =
          let f = at_ rules.F12 b.node.use_.name.place in
          let one : In (at_node rules.F12 b.node (not (list_any (is_same_bits b) (bits_of r)))) f = subst (λ t. In (at_node rules.F12 b.node (not t)) f) (sym q) (inl refl) in
          let each = λ (x : Bits). at_node rules.F12 x.node (not (list_any (is_same_bits x) (bits_of r))) in
          let against : In (against_primary a r) f = in-right (at_node rules.F12 a (differs r a prop.Regwidth || differs r a prop.Accesswidth)) (flat_map each (bits_of a)) f (in-flat each (bits_of a) b f h one) in
          let own : In (of_alias (nodes_of e) a) f = in-flat (against_primary a) (filter (λ p. is_alias_of p a) (registers (nodes_of e))) r f mate against in
          let bits = flat_map (of_view a) (bits_of a) in
          let part = cond (is_alias a) (of_alias (nodes_of e) a) (of_fields (nodes_of e) a) in
          let last = at_node rules.F14 a (is_empty (fields_of a)) in
          let chosen : In part f = subst (λ t. In (cond t (of_alias (nodes_of e) a) (of_fields (nodes_of e) a)) f) (sym alias) own in
          let register : In (of_register (nodes_of e) a) f = in-left (bits ++ part) last f (in-right bits part f chosen) in
          absurd (never b.node.use_.name.place (among e clean f (in-flat (of_register (nodes_of e)) (registers (nodes_of e)) a f i register)))

module _ (e : Elab) (settled : IsSettled e) (clean : IsListOf (meaning_fails e) []) (waits : ℕ) (b : Block) (block : IsBlockOf (Some (top_name e)) e.source.now waits b) (one : (n : Instance) → Contains (nodes_of e) n → HasOneForm n) where
  wide : (r : Instance) → In (nodes_of e) r → (c : Bits) → In (bits_of r) c → width_of c.node ≡ c.high + 1 - c.low
  wide r i c h = field-wide e settled r (λ n k. let m = field-in-nodes (Some (top_name e)) e.source.now r i n k in ((m, filter-true (is_a kind.Field) (children r) n k), one n (in-to (nodes_of e) n m))) c h

  module _ (a r v : Instance) (a_in : In (registers (nodes_of e)) a) (alias : is_alias a ≡ true) (only : filter (λ p. is_alias_of p a) (registers (nodes_of e)) ≡ r ∷ []) (own : is_alias r ≡ false) (v_in : In (fields_of a) v) where
    mate : In (filter (λ p. is_alias_of p a) (registers (nodes_of e))) r
    mate = subst (λ xs. In xs r) (sym only) (inl refl)

    r_reg : In (registers (nodes_of e)) r
    r_reg = filter-in (λ p. is_alias_of p a) (registers (nodes_of e)) r mate

    r_node : In (nodes_of e) r
    r_node = filter-in (is_a kind.Reg) (nodes_of e) r r_reg

    mine : (b : Bits) × In (bits_of a) b × (b.node ≡ v)
    mine = map-in (λ (x : Bits). x.node) (bits_of a) v (subst (λ ns. In ns v) (sym (nodes-are a)) v_in)

    like : (c : Bits) × In (bits_of r) c × (is_same_bits mine.0 c ≡ true)
    like = any-in (is_same_bits mine.0) (bits_of r) (like-bits e clean a r a_in alias mate mine.0 mine.1)

    parts : (same_name mine.0.node.use_.name like.0.node.use_.name ≡ true) × (mine.0.high ≡ like.0.high) × (mine.0.low ≡ like.0.low)
    parts = same-parts mine.0 like.0 like.2

    as-wide : width_of like.0.node ≡ width_of v
    as-wide =
        wide r r_node like.0 like.1
        ∙ ((λ i. sym parts.1 i + 1 - sym parts.2 i)
        ∙ (sym (wide a (filter-in (is_a kind.Reg) (nodes_of e) a a_in) mine.0 mine.1) ∙ ap width_of mine.2))

    viewed-is : viewed (nodes_of e) a v ≡ filter (λ f. same_name v.use_.name f.use_.name) (flat_map fields_of (r ∷ []))
    viewed-is = first ∙ ap (λ rs. filter (λ f. same_name v.use_.name f.use_.name) (flat_map fields_of rs)) only
      where
        first : viewed (nodes_of e) a v ≡ filter (λ f. same_name v.use_.name f.use_.name) (flat_map fields_of (filter (λ p. is_alias_of p a) (registers (nodes_of e))))
        first = rw alias refl

    like-field : In (fields_of r) like.0.node
    like-field = field-in r like.0 like.1

    like-found : In (filter (λ f. same_name v.use_.name f.use_.name) (flat_map fields_of (r ∷ []))) like.0.node
    like-found = in-filter (λ f. same_name v.use_.name f.use_.name) (flat_map fields_of (r ∷ [])) like.0.node (in-left (fields_of r) [] like.0.node like-field) (subst (λ (n : Instance). same_name n.use_.name like.0.node.use_.name ≡ true) mine.2 parts.0)

    one-found : (g : Instance) → In (filter (λ f. same_name v.use_.name f.use_.name) (flat_map fields_of (r ∷ []))) g → In (fields_of r) g × (g ≡ like.0.node)
    one-found g h =
        let i = subst (λ ns. In ns g) (append-nil (fields_of r)) (filter-in (λ f. same_name v.use_.name f.use_.name) (flat_map fields_of (r ∷ [])) g h) in
        let name = text-same v.use_.name g.use_.name (filter-true (λ f. same_name v.use_.name f.use_.name) (flat_map fields_of (r ∷ [])) g h) in
        let other = text-same mine.0.node.use_.name like.0.node.use_.name parts.0 in
        (i, one-name (Some (top_name e)) e.source.now r r_node g like.0.node i like-field (sym name ∙ (ap (λ (n : Instance). n.use_.name.text.now) (sym mine.2) ∙ other)))

    -- the field of the primary whose number the view has
    pub alias-number : (g : Instance) × In (fields_of r) g × (v.use_.name.text.now ≡ g.use_.name.text.now) × ((view_of (lineages_of e) a v).field ≡ number_of g (all_fields (nodes_of e)))
    alias-number = by (filter (λ f. same_name v.use_.name f.use_.name) (flat_map fields_of (r ∷ []))) viewed-is like-found (λ g h. ((one-found g h).0, text-same v.use_.name g.use_.name (filter-true (λ f. same_name v.use_.name f.use_.name) (flat_map fields_of (r ∷ [])) g h)))
      where
        by : (xs : List Instance) → viewed (nodes_of e) a v ≡ xs → In xs like.0.node → ((g : Instance) → In xs g → In (fields_of r) g × (v.use_.name.text.now ≡ g.use_.name.text.now)) → (g : Instance) × In (fields_of r) g × (v.use_.name.text.now ≡ g.use_.name.text.now) × ((view_of (lineages_of e) a v).field ≡ number_of g (all_fields (nodes_of e)))
        by [] q h u = absurd h
        by (g ∷ gs) q h u =
            let is = u g (inl refl) in
            (g, is.0, is.1, (λ i. first_number (viewed (all_nodes (Some (top_name e)) e.source.now i) a v) (all_fields (all_nodes (Some (top_name e)) e.source.now i))) ∙ ap (λ xs. first_number xs (all_fields (nodes_of e))) q)

    pub alias-field : HasField (lineages_of e) b a v
    alias-field = by (filter (λ f. same_name v.use_.name f.use_.name) (flat_map fields_of (r ∷ []))) viewed-is like-found one-found
      where
        by : (xs : List Instance) → viewed (nodes_of e) a v ≡ xs → In xs like.0.node → ((g : Instance) → In xs g → In (fields_of r) g × (g ≡ like.0.node)) → HasField (lineages_of e) b a v
        by [] q h u = absurd h
        by (g ∷ gs) q h u =
            let ns = nodes_of e in
            let is = u g (inl refl) in
            let primary = in-filter (λ x. not (is_alias x)) (registers ns) r r_reg (ap not own) in
            let at = field-at (Some (top_name e)) e.source.now g (in-to (all_fields ns) g (in-flat fields_of (primaries ns) r g primary is.0)) in
            let number : (view_of (lineages_of e) a v).field ≡ number_of g (all_fields ns) = (λ i. first_number (viewed (all_nodes (Some (top_name e)) e.source.now i) a v) (all_fields (all_nodes (Some (top_name e)) e.source.now i))) ∙ ap (λ xs. first_number xs (all_fields ns)) q in
            record {
              field = field_of e.source.now (lineages_of e) at.0 g;
              of = ap (λ k. slice_get b.fields k) number ∙ (ap (λ xs. slice_get xs (number_of g (all_fields ns))) block.fields_ ∙ at.1);
              wide = ap width_of is.1 ∙ as-wide;
            }

pub all-alias-fields : (e : Elab) → IsSettled e → IsListOf (meaning_fails e) [] → (waits : ℕ) (b : Block) → IsBlockOf (Some (top_name e)) e.source.now waits b → ((n : Instance) → Contains (nodes_of e) n → HasOneForm n) → (a r v : Instance) → Contains (registers (nodes_of e)) a → is_alias a ≡ true
    → filter (λ p. is_alias_of p a) (registers (nodes_of e)) ≡ r ∷ [] → is_alias r ≡ false → Contains (fields_of a) v → HasField (lineages_of e) b a v
all-alias-fields e settled clean waits b block one a r v i alias only own h = alias-field e settled clean waits b block one a r v (in-from (registers (nodes_of e)) a i) alias only own (in-from (fields_of a) v h)
