-- What an item of the block refers to there, its item of the source refers to.
use Rattle.std.proofs.Common.{◌≡◌, ◌∙◌, ◌⊎◌, inl, inr, ℕ, suc, ◌+◌, ◌==◌, Bool, true, false, not, ◌&&◌, ◌||◌, cond, if◌then◌else◌, List, [], ◌∷◌, filter, flat_map, take, Option, Some, slice_get, Contains, refl, sym, ap, subst, arith}
use Rattle.std.specs.List.{enumerate_from}
use Rattle.std.specs.Option.{option_map_or}
use Rattle.plain_lemmas.proofs.Bools.{and-both, or-neither as or-none, true-of_not as not-false}
use Rattle.plain_lemmas.proofs.Numbers.{eq-same as same-numbers}
use Rattle.rb_model.specs.declared.block.Block.{Block}
use Rattle.rb_model.specs.declared.block.Field.{Field}
use Rattle.rb_model.specs.declared.kinds.Mask.{Mask}
use Rattle.rb_model.specs.declared.kinds.RefItem.{RefItem}
use Rattle.rb_model.specs.declared.kinds.RefItem.TheVariants as item
use Rattle.rb_model.specs.Items.{is_interrupt, is_on}
use Rattle.rb_model.specs.Kept.{of_field}
use Rattle.rb_model.specs.References.{class_refs, count_refs, level_refs, mask_refs, raise_refs, refs}
use Rattle.rdl_tree.specs.Kinds.{same_kind}
use Rattle.rdl_props.specs.declared.prop.Prop.{Prop}
use Rattle.rdl_props.specs.declared.prop.Prop.TheVariants as prop
use Rattle.rdl_tree.specs.declared.item.Kind.{Kind}
use Rattle.rdl_tree.specs.declared.item.Kind.TheVariants as kind
use Rattle.rdl_tree.specs.declared.item.Source.{Source}
use Rattle.rdl_tree.specs.declared.node.Elab.{Elab}
use Rattle.rdl_values.specs.Elaborated.{nodes_of, top_name}
use Rattle.rdl_values.specs.Elaboration.{IsClean}
use Rattle.rdl_values.specs.Instances.{Instance, children, kind_of}
use Rattle.rdl_values.specs.Lineages.{Lineage, child_of, lineages_of, nodes_in}
use Rattle.rdl_values.specs.Verdict.{IsListOf}
use Rattle.rdl_values.proofs.Given.{IsChildOf, children-given}
use Rattle.rdl_layers.specs.Fields.{fields_of, has_one_of, is_a, is_alias, is_counter, is_wire, views}
use Rattle.rdl_layers.specs.Fields as layers
use Rattle.rdl_layers.specs.Settings.{setting}
use Rattle.rdl_layers.proofs.Formed.{setting_formed}
use Rattle.rdl_nodes.proofs.Members.{In, each-in, flat-in, in-flat, in-from}
use Rattle.rdl_bits.proofs.Descending.{listed-down}
use Rattle.rdl_refs.specs.Answers.{IsBound}
use Rattle.rdl_refs.specs.declared.item.What.{What}
use Rattle.rdl_refs.specs.declared.item.What.TheVariants as what
use Rattle.rdl_refs.specs.Follows.{counts, given_items, is_in_alias, is_missing, made_from, refers_to}
use Rattle.rdl_refs.specs.Items.{Item, item_of, items, target, whats}
use Rattle.rdl_ref_items.proofs.NamedItems.{meant}
use Rattle.rdl_rules.specs.Answers.{meaning_fails}
use Rattle.rdl_rules.specs.Feeds.{count_of, item_at, level_at, level_or, mask_at, ones_of, ref_to, source_of, when_some}
use Rattle.rdl_rules.specs.Fields.{field_of}
use Rattle.rdl_rules.specs.Numbers.{all_fields, number_of, registers}
use Rattle.rdl_sound_laws.specs.Lists.{HasLists}
use Rattle.rdl_sound_laws.proofs.Found.{field-in, in-filter}
use Rattle.rdl_sound_laws.proofs.Standing.{ref-by, same-ref}
use Rattle.rdl_block_laws.proofs.Having.{field-listed, in-back, in-nodes, own-register, register-of}
use Rattle.rdl_block_laws.proofs.SoundRegisters.{halts-on, latches}
use Rattle.rdl_sound_laws.proofs.Faultless.{field-kind, halts, leads}
use Rattle.rdl_sound_laws.proofs.Faultless as faultless
use Rattle.rdl_block_laws.proofs.Fields.{no-alias}
use Rattle.rdl_block_laws.proofs.Made.{Names, class-wire, count-names, given-in, level-names, mask-names, names, source-names}
use Rattle.rdl_block_laws.proofs.Numbers.{among}
use Rattle.rdl_block_laws.proofs.Places.{IsAt, at-field, field-at, one-parent, register-at, register-in, register-number}

in-if : {X : Type 0} (b : Bool) (xs : List X) (x : X) → In (if b then xs else []) x → (b ≡ true) × In xs x
in-if true xs x h = (refl, h)
in-if false xs x h = absurd h

pub enumerated : {X : Type 0} (n : ℕ) (xs : List X) (p : ℕ × X) → In (enumerate_from n xs) p → (k : ℕ) × (p.0 ≡ n + k) × (slice_get xs k ≡ Some p.1)
enumerated n [] p h = absurd h
enumerated n (x ∷ xs) p (inl e) = (0, ap (λ (q : ℕ × _). q.0) (sym e) ∙ omega arith, ap (λ (q : ℕ × _). Some q.1) e)
enumerated n (x ∷ xs) p (inr h) = let r = enumerated (n + 1) xs p h in (suc r.0, r.1 ∙ omega arith, r.2)

is-reg : (n : Instance) → kind_of n ≡ kind.Reg → is_a kind.Reg n ≡ true
is-reg n e = ap (same_kind kind.Reg) e

is-field : (n : Instance) → kind_of n ≡ kind.Field → is_a kind.Field n ≡ true
is-field n e = ap (same_kind kind.Field) e

abbrev IsPresent : Item → Type 0
IsPresent i = (is_missing i || is_in_alias i) ≡ false

module _ (e : Elab) (b : Block) (clean : IsClean e) (bound : IsBound e) (none : IsListOf (meaning_fails e) []) (is : HasLists (Some (top_name e)) e.source.now b) where
  abbrev w : Option (List ℕ)
  w = Some (top_name e)

  abbrev s : Source
  s = e.source.now

  abbrev all : List Lineage
  all = lineages_of e

  abbrev ns : List Instance
  ns = nodes_of e

  -- an item that it refers to
  pub record Reaches (x : Item) (j : RefItem) : Type 0 where
    pub to : Item
    pub refers : In (refers_to all x) to
    pub is_ : j ≡ ref_to all to
    pub present : IsPresent to
    pub among_ : In (items all) to

  made-refers : (x y : Item) → IsPresent x → In (made_from all x) y → In (refers_to all x) y
  made-refers x y p h = subst (λ c. In (cond c [] (made_from all x)) y) (sym p) h

  halting : (f : Instance) → Contains (all_fields ns) f → has_one_of (prop.Haltenable ∷ prop.Haltmask ∷ []) f ≡ true → layers.is_interrupt f ≡ true
  halting f c h = halts e none f (in-from (all_fields ns) f c) h

  -- what a setting names
  reach-named : (x : Item) (f : Instance) (p : Prop) (j : RefItem) → IsPresent x → In ns f → Names all f p j → ((t : Item) → In (target all (setting f p)) t → In (made_from all x) t) → Reaches x j
  reach-named x f p j here i n made =
      let m = faultless.meant e none f p n.item i n.named_ in
      record {
        to = n.item;
        refers = made-refers x n.item here (made n.item n.named_);
        is_ = n.is;
        present = ap (λ c. c || is_in_alias n.item) m.there ∙ m.own;
        among_ = (meant w s (setting f p) n.item n.named_).among;
      }

  -- Fields.

  module _ (l : Lineage) (i : In all l) (k : kind_of l.node ≡ kind.Field) (own : is_in_alias (item_of l what.Value) ≡ false) where
    abbrev f : Instance
    f = l.node

    listed : In (all_fields ns) f
    listed = field-listed w s halting l i k own

    abbrev n : ℕ
    n = number_of f (all_fields ns)

    at : IsAt w s b n f
    at = field-at w s b is f listed

    node : In ns f
    node = in-nodes w s halting l i

    ref-is : (v : What) → ref_to all (item_of l v) ≡ ref-by ns f kind.Field v
    ref-is v = same-ref w s b is (item_of l v) ∙ ap (λ q. ref-by ns f q v) k

    of-here : {X : Type 0} (d : X) (g : Field → X) → of_field b n d g ≡ g (field_of s all at.register f)
    of-here d g = ap (λ o. option_map_or g o d) at.here

    value : (x : Item) → IsPresent x → In (made_from all x) (item_of l what.Value) → Reaches x (item.Field n)
    value x here made = record {
      to = item_of l what.Value;
      refers = made-refers x (item_of l what.Value) here made;
      is_ = sym (ref-is what.Value);
      present = own;
      among_ = among all l what.Value i (subst (λ q. In (whats q) what.Value) (sym k) (inl refl));
    }

    abbrev item_ : What → Item
    item_ v = item_of l v

    abbrev Goal : What → Type 0
    Goal v = IsPresent (item_ v) → (j : RefItem) → In (refs b (ref-by ns f kind.Field v)) j → Reaches (item_ v) j

    wire : Goal what.Value
    wire here j h =
        let r = register-of w s halting l i k in
        let same : at.register.register.node ≡ r.0 = one-parent w s at.register.register.node r.0 f (register-in w s at.register at.own_) (in-back (is_a kind.Reg) ns r.0 r.3 (is-reg r.0 r.5)) at.of (in-back (is_a kind.Field) (children r.0) f r.4 (is-field f k)) in
        let q = class-wire all (views (nodes_in all) at.register.register.node f) f (source_of all f) j (subst (λ xs. In xs j) (of-here [] (λ x. class_refs x.class x.source)) h) in
        let yes : is_wire (views (nodes_in all) r.0 f) f ≡ true = subst (λ g. is_wire (views (nodes_in all) g f) f ≡ true) same q.0 in
        reach-named (item_ what.Value) f prop.Next j here node (names all f prop.Next j (source-names all f j q.1)) (λ t m. in-wires r.0 r.1 r.2 yes t (given-in all f (prop.Next ∷ []) prop.Next t (inl refl) m))
      where
        in-wires : (r : Instance) (up : List Instance) → l.ancestors ≡ r ∷ up → is_wire (views (nodes_in all) r f) f ≡ true → (t : Item) → In (given_items all f (prop.Next ∷ [])) t → In (made_from all (item_ what.Value)) t
        in-wires r up q wired t m =
            let one : In (flat_map (λ r. cond (is_wire (views (nodes_in all) r f) f) (given_items all f (prop.Next ∷ [])) []) (r ∷ [])) t = in-flat (λ r. cond (is_wire (views (nodes_in all) r f) f) (given_items all f (prop.Next ∷ [])) []) (r ∷ []) r t (inl refl) (subst (λ c. In (cond c (given_items all f (prop.Next ∷ [])) []) t) (sym wired) m) in
            subst (λ c. In (cond c (flat_map (λ r. cond (is_wire (views (nodes_in all) r f) f) (given_items all f (prop.Next ∷ [])) []) (take 1 l.ancestors)) []) t) (sym (is-field f k))
            (subst (λ as'. In (flat_map (λ r. cond (is_wire (views (nodes_in all) r f) f) (given_items all f (prop.Next ∷ [])) []) (take 1 as')) t) (sym q) one)

    threshold : (v : What) (p : Prop) (plain : ℕ) → IsPresent (item_ v) → made_from all (item_ v) ≡ item_of l what.Value ∷ given_items all f (p ∷ []) → (j : RefItem) → (item.Field n ≡ j) ⊎ In (level_refs (level_or (level_at all f p plain) plain)) j → Reaches (item_ v) j
    threshold v p plain here m j (inl q) = subst (Reaches (item_ v)) q (value (item_ v) here (subst (λ xs. In xs (item_of l what.Value)) (sym m) (inl refl)))
    threshold v p plain here m j (inr h) = reach-named (item_ v) f p j here node (names all f p j (level-names all f p plain plain j h)) (λ t g. subst (λ xs. In xs t) (sym m) (inr (given-in all f (p ∷ []) p t (inl refl) g)))

    counting : (v : What) → is_missing (item_ v) ≡ not (is_counter f) → IsPresent (item_ v) → is_counter f ≡ true
    counting v q here = not-false (is_counter f) (sym q ∙ (or-none (is_missing (item_ v)) (is_in_alias (item_ v)) here).0)

    counted : (v : What) → IsPresent (item_ v) → made_from all (item_ v) ≡ given_items all f counts → (j : RefItem) → In (count_refs (when_some (is_counter f) (count_of all f))) j → Reaches (item_ v) j
    counted v here m j h =
        let c = count-names all f j h in
        reach-named (item_ v) f c.by j here node (names all f c.by j c.named_) (λ t g. subst (λ xs. In xs t) (sym m) (given-in all f counts c.by t c.one g))

    above : (t : Bool) (j : RefItem) → t ≡ true → In (item.Field n ∷ option_map_or (λ c. level_refs c.above) (when_some t (count_of all f)) []) j → (item.Field n ≡ j) ⊎ In (level_refs (level_or (level_at all f prop.Incrthreshold (ones_of f)) (ones_of f))) j
    above true j e (inl q) = inl q
    above true j e (inr h) = inr h
    above false j e h = cc

    below : (t : Bool) (j : RefItem) → t ≡ true → In (item.Field n ∷ option_map_or (λ c. level_refs c.below) (when_some t (count_of all f)) []) j → (item.Field n ≡ j) ⊎ In (level_refs (level_or (level_at all f prop.Decrthreshold 0) 0)) j
    below true j e (inl q) = inl q
    below true j e (inr h) = inr h
    below false j e h = cc

    of-one : (v : What) → made_from all (item_ v) ≡ item_of l what.Value ∷ [] → IsPresent (item_ v) → (j : RefItem) → In (item.Field n ∷ []) j → Reaches (item_ v) j
    of-one v m here j (inl q) = subst (Reaches (item_ v)) q (value (item_ v) here (subst (λ xs. In xs (item_of l what.Value)) (sym m) (inl refl)))
    of-one v m here j (inr x) = absurd x

    field-reaches : (v : What) → In (whats kind.Field) v → Goal v
    field-reaches v (inl q) = subst Goal q wire
    field-reaches v (inr (inl q)) = subst Goal q (λ here j h. of-one what.Anded refl here j h)
    field-reaches v (inr (inr (inl q))) = subst Goal q (λ here j h. of-one what.Ored refl here j h)
    field-reaches v (inr (inr (inr (inl q)))) = subst Goal q (λ here j h. of-one what.Xored refl here j h)
    field-reaches v (inr (inr (inr (inr (inl q))))) = subst Goal q (λ here j h. threshold what.IncrThreshold prop.Incrthreshold (ones_of f) here refl j (above (is_counter f) j (counting what.IncrThreshold refl here) (subst (λ xs. In (item.Field n ∷ xs) j) (of-here [] (λ x. option_map_or (λ c. level_refs c.above) x.count [])) h)))
    field-reaches v (inr (inr (inr (inr (inr (inl q)))))) = subst Goal q (λ here j h. threshold what.DecrThreshold prop.Decrthreshold 0 here refl j (below (is_counter f) j (counting what.DecrThreshold refl here) (subst (λ xs. In (item.Field n ∷ xs) j) (of-here [] (λ x. option_map_or (λ c. level_refs c.below) x.count [])) h)))
    field-reaches v (inr (inr (inr (inr (inr (inr (inl q))))))) = subst Goal q (λ here j h. counted what.Overflow here refl j (subst (λ xs. In xs j) (of-here [] (λ x. count_refs x.count)) h))
    field-reaches v (inr (inr (inr (inr (inr (inr (inr (inl q)))))))) = subst Goal q (λ here j h. counted what.Underflow here refl j (subst (λ xs. In xs j) (of-here [] (λ x. count_refs x.count)) h))
    field-reaches v (inr (inr (inr (inr (inr (inr (inr (inr (inl q))))))))) = subst Goal q (λ here j h. absurd h)
    field-reaches v (inr (inr (inr (inr (inr (inr (inr (inr (inr (inl q)))))))))) = subst Goal q (λ here j h. absurd h)
    field-reaches v (inr (inr (inr (inr (inr (inr (inr (inr (inr (inr x)))))))))) = absurd x

  -- Registers.

  module _ (l : Lineage) (i : In all l) (k : kind_of l.node ≡ kind.Reg) (own : is_alias l.node ≡ false) where
    abbrev r : Instance
    r = l.node

    listed-reg : In (registers ns) r
    listed-reg = own-register w s halting l i k

    abbrev m : ℕ
    m = number_of r (registers ns)

    raises : (c : Field → Bool) (mask_ : Field → Mask) (j : RefItem) → In (flat_map (λ x. raise_refs m (c x.1) (mask_ x.1) x) (enumerate_from 0 b.fields)) j → (f : Instance) × (number : ℕ) × (at_ : IsAt w s b number f) × In (fields_of r) f × (layers.is_interrupt f ≡ true) × (c (field_of s all at_.register f) ≡ true) × In (item.Field number ∷ mask_refs (mask_ (field_of s all at_.register f))) j
    raises c mask_ j h =
        let q = flat-in (λ (x : ℕ × Field). raise_refs m (c x.1) (mask_ x.1) x) (enumerate_from 0 b.fields) j h in
        let x = q.0 in
        let place = enumerated 0 b.fields x q.1 in
        let number : x.0 ≡ place.0 = place.1 ∙ omega arith in
        let f = at-field w s b is place.0 x.1 place.2 in
        let same : x.1 ≡ field_of s all f.1.register f.0 = one-some x.1 (field_of s all f.1.register f.0) (sym place.2 ∙ f.1.here) in
        let y = in-if (c x.1 && is_interrupt x.1.latch && x.1.reg == m) (item.Field x.0 ∷ mask_refs (mask_ x.1)) j q.2 in
        let t = and-both (c x.1 && is_interrupt x.1.latch) (x.1.reg == m) y.0 in
        let u = and-both (c x.1) (is_interrupt x.1.latch) t.0 in
        let reg : f.1.register.number ≡ m = ap (λ (z : Field). z.reg) (sym same) ∙ same-numbers x.1.reg m t.1 in
        let here : f.1.register.register.node ≡ r = one-node_ (f.1.register.register.node) r (sym (register-at w s f.1.register f.1.own_) ∙ ap (slice_get (registers ns)) reg ∙ register-number w s r listed-reg) in
        (f.0, place.0, f.1, subst (λ z. In (fields_of z) f.0) here f.1.of, sym (latches setting_formed f.0) ∙ ap (λ (z : Field). is_interrupt z.latch) (sym same) ∙ u.1, ap c (sym same) ∙ u.0, subst (λ (z : Field). In (item.Field place.0 ∷ mask_refs (mask_ z)) j) same (subst (λ z. In (item.Field z ∷ mask_refs (mask_ x.1)) j) number y.1))
      where
        one-some : (x y : Field) → Some x ≡ Some y → x ≡ y
        one-some x y q = cc

        one-node_ : (x y : Instance) → Some x ≡ Some y → x ≡ y
        one-node_ x y q = cc

    -- the value of a field of it
    field-value : (v : What) (f : Instance) (number : ℕ) → IsPresent (item_of l v) → IsAt w s b number f → In (fields_of r) f → In (made_from all (item_of l v)) (item_of (child_of l f) what.Value) → Reaches (item_of l v) (item.Field number)
    field-value v f number here at_ h made =
        let child = in-filter (is_a kind.Field) (children r) f h in
        let lin = listed-down w s l i f child in
        let kf = field-kind (children r) f h in
        let given = each-in (IsChildOf r) (children r) f (children-given r) child in
        let alone : is_alias f ≡ false = no-alias given.by f given.given_ kf in
        record {
          to = item_of (child_of l f) what.Value;
          refers = made-refers (item_of l v) (item_of (child_of l f) what.Value) here made;
          is_ = ap item.Field (sym at_.number) ∙ sym (same-ref w s b is (item_of (child_of l f) what.Value) ∙ ap (λ q. ref-by ns f q what.Value) kf);
          present = ap (λ t. t || (is_a kind.Field f && (is_alias r || false))) alone ∙ ap (λ t. is_a kind.Field f && (t || false)) own ∙ and-nothing (is_a kind.Field f);
          among_ = among all (child_of l f) what.Value lin (subst (λ q. In (whats q) what.Value) (sym kf) (inl refl));
        }
      where
        and-nothing : (t : Bool) → (t && false) ≡ false
        and-nothing true = refl
        and-nothing false = refl

    masked : (v : What) (f : Instance) (number : ℕ) (enable mask_ : Prop) (fs : List Instance) → IsPresent (item_of l v) → In fs f → In (fields_of r) f → IsAt w s b number f
        → made_from all (item_of l v) ≡ flat_map (λ g. item_of (child_of l g) what.Value ∷ given_items all g (enable ∷ mask_ ∷ [])) fs
        → (j : RefItem) → In (item.Field number ∷ mask_refs (mask_at all f enable mask_)) j → Reaches (item_of l v) j
    masked v f number enable mask_ fs here g h at_ made j (inl q) = subst (Reaches (item_of l v)) q (field-value v f number here at_ h (subst (λ xs. In xs (item_of (child_of l f) what.Value)) (sym made) (in-flat (λ g. item_of (child_of l g) what.Value ∷ given_items all g (enable ∷ mask_ ∷ [])) fs f (item_of (child_of l f) what.Value) g (inl refl))))
    masked v f number enable mask_ fs here g h at_ made j (inr x) = by (mask-names all f enable mask_ j x)
      where
        node_ : In ns f
        node_ = field-in w s f at_.listed

        in-made : (p : Prop) → In (enable ∷ mask_ ∷ []) p → (t : Item) → In (target all (setting f p)) t → In (made_from all (item_of l v)) t
        in-made p q t y = subst (λ xs. In xs t) (sym made) (in-flat (λ g. item_of (child_of l g) what.Value ∷ given_items all g (enable ∷ mask_ ∷ [])) fs f t g (inr (given-in all f (enable ∷ mask_ ∷ []) p t q y)))

        by : (item_at all f enable ≡ Some j) ⊎ (item_at all f mask_ ≡ Some j) → Reaches (item_of l v) j
        by (inl q) = reach-named (item_of l v) f enable j here node_ (names all f enable j q) (in-made enable (inl refl))
        by (inr q) = reach-named (item_of l v) f mask_ j here node_ (names all f mask_ j q) (in-made mask_ (inr (inl refl)))

    lines : IsPresent (item_of l what.Intr) → (j : RefItem) → In (refs b (item.Intr m)) j → Reaches (item_of l what.Intr) j
    lines here j h =
        let q = raises (λ x. true) (λ x. x.enable) j h in
        masked what.Intr q.0 q.1 prop.Enable prop.Mask (filter layers.is_interrupt (fields_of r)) here (in-back layers.is_interrupt (fields_of r) q.0 q.3 q.4) q.3 q.2 refl j q.6

    stops : IsPresent (item_of l what.Halt) → (j : RefItem) → In (refs b (item.Halt m)) j → Reaches (item_of l what.Halt) j
    stops here j h =
        let q = raises (λ x. is_on x.halt) (λ x. x.halt) j h in
        let f = q.0 in
        let on : has_one_of (prop.Haltenable ∷ prop.Haltmask ∷ []) f ≡ true = sym (halts-on all f setting_formed (leads e bound f (field-in w s f q.2.listed))) ∙ q.5 in
        masked what.Halt f q.1 prop.Haltenable prop.Haltmask (filter (has_one_of (prop.Haltenable ∷ prop.Haltmask ∷ [])) (fields_of r)) here (in-back (has_one_of (prop.Haltenable ∷ prop.Haltmask ∷ [])) (fields_of r) f q.3 on) q.3 q.2 refl j q.6

  -- Items.

  pub within : (l : Lineage) (v : What) → In all l → In (whats (kind_of l.node)) v → IsPresent (item_of l v) → (j : RefItem) → In (refs b (ref_to all (item_of l v))) j → Reaches (item_of l v) j
  within l v i h here j x = go (kind_of l.node) refl (subst (λ y. In (refs b y) j) (same-ref w s b is (item_of l v)) x) h
    where
      reg : kind_of l.node ≡ kind.Reg → In (whats kind.Reg) v → In (refs b (ref-by ns l.node kind.Reg v)) j → Reaches (item_of l v) j
      reg k (inl q) y =
          let here_ = subst (λ u. IsPresent (item_of l u)) (sym q) here in
          subst (λ u. Reaches (item_of l u) j) q (lines l i k (or-none (is_alias l.node) _ (or-none (is_missing (item_of l what.Intr)) _ here_).1).0 here_ j (subst (λ u. In (refs b (ref-by ns l.node kind.Reg u)) j) (sym q) y))
      reg k (inr (inl q)) y =
          let here_ = subst (λ u. IsPresent (item_of l u)) (sym q) here in
          subst (λ u. Reaches (item_of l u) j) q (stops l i k (or-none (is_alias l.node) _ (or-none (is_missing (item_of l what.Halt)) _ here_).1).0 here_ j (subst (λ u. In (refs b (ref-by ns l.node kind.Reg u)) j) (sym q) y))
      reg k (inr (inr z)) y = absurd z

      go : (k : Kind) → kind_of l.node ≡ k → In (refs b (ref-by ns l.node k v)) j → In (whats k) v → Reaches (item_of l v) j
      go kind.Signal k y (inl q) = absurd y
      go kind.Signal k y (inr z) = absurd z
      go kind.Field k y z = field-reaches l i k (or-none (is_missing (item_of l v)) (is_in_alias (item_of l v)) here).1 v z here j y
      go kind.Reg k y z = reg k z y
      go kind.Addrmap k y z = absurd z
      go kind.Regfile k y z = absurd z
