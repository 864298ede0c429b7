-- What an item refers to is one of all items.
use Rattle.std.proofs.Common.{◌≡◌, ◌∙◌, inl, inr, ◌<◌, Bool, true, false, ◌||◌, cond, List, [], ◌∷◌, filter, flat_map, length, Some, refl, sym, ap, subst}
use Rattle.rdl_tree.specs.declared.item.Kind.TheVariants as kind
use Rattle.rdl_tree.specs.declared.node.Elab.{Elab}
use Rattle.rdl_props.specs.declared.prop.Prop.{Prop}
use Rattle.rdl_props.specs.declared.prop.Prop.TheVariants as prop
use Rattle.rdl_values.specs.Elaborated.{top_name}
use Rattle.rdl_values.specs.Instances.{Instance, children, kind_of}
use Rattle.rdl_values.specs.Lineages.{Lineage, child_of, lineages_of, nodes_in}
use Rattle.rdl_values.specs.Parts.{is_unit}
use Rattle.rdl_layers.specs.Fields.{fields_of, has_one_of, is_a, is_interrupt, is_wire, views}
use Rattle.rdl_layers.specs.Settings.{setting}
use Rattle.rdl_fields.proofs.Lists.{filter-in, filter-true}
use Rattle.rdl_nodes.proofs.Members.{In, flat-in, in-flat, in-map, in-place, map-in}
use Rattle.rdl_sizes.proofs.Facts.{node-at}
use Rattle.rdl_bits.proofs.Descending.{listed-down}
use Rattle.rdl_refs.specs.declared.item.What.{What}
use Rattle.rdl_refs.specs.declared.item.What.TheVariants as what
use Rattle.rdl_refs.specs.Follows.{counts, given_items, is_in_alias, is_missing, item_number, made_from, masked_items, refers_to, value_in, value_of, wire_items}
use Rattle.rdl_refs.specs.Items.{Item, item_of, items, items_of, target, whats}
use Rattle.rdl_ref_items.proofs.NamedItems.{lineage_of, meant}
use Rattle.rdl_bind.proofs.Places.{number-at}
use Rattle.rdl_members.proofs.Sharing.{the-kind}
use Rattle.rdl_bind.proofs.Items.{field-item, is_of_field, unit-value}

-- an item is one of a node that is listed
pub of-node : (e : Elab) (x : Item) → In (items (lineages_of e)) x → (l : Lineage) × In (lineages_of e) l × In (whats (kind_of l.node)) x.what × (item_of l x.what ≡ x)
unfolding items
of-node e x h =
    let q = flat-in items_of (lineages_of e) x h in
    let r = map-in (item_of q.0) (whats (kind_of q.0.node)) x q.2 in
    let same : r.0 ≡ x.what = ap (λ (i : Item). i.what) r.2 in
    (q.0, q.1, subst (In (whats (kind_of q.0.node))) same r.1, ap (item_of q.0) (sym same) ∙ r.2)

pub node-of : (e : Elab) (l : Lineage) (w : What) → In (lineages_of e) l → In (whats (kind_of l.node)) w → In (items (lineages_of e)) (item_of l w)
unfolding items
node-of e l w h g = in-flat items_of (lineages_of e) l (item_of l w) h (in-map (item_of l) (whats (kind_of l.node)) w g)

-- so its number is below their count
pub number-low : (e : Elab) (x : Item) → In (items (lineages_of e)) x → item_number (lineages_of e) x < length (items (lineages_of e))
number-low e x h =
    let q = of-node e x h in
    let l = q.0 in
    let at = in-place (lineages_of e) l q.1 in
    let node : l.node ≡ x.node = ap (λ (i : Item). i.node) q.3 in
    let n = number-at e at.0 x (node-at e at.0 l at.2 ∙ ap Some node) (subst (λ n. In (whats (kind_of n)) x.what) node q.2) in
    subst (λ m. m < length (items (lineages_of e))) (sym n.0) n.1

module _ (e : Elab) where
  abbrev pub Among : List Item → Type 0
  Among xs = (x : Item) → In xs x → In (items (lineages_of e)) x

  given-among : (n : Instance) (ps : List Prop) → Among (given_items (lineages_of e) n ps)
  given-among n ps x h =
      let q = flat-in (λ p. target (lineages_of e) (setting n p)) ps x h in
      (meant (Some (top_name e)) e.source.now (setting n q.0) x q.2).among

  one-first : (y : Item) (ys : List Item) → In (items (lineages_of e)) y → Among ys → Among (y ∷ ys)
  one-first y ys h g x (inl q) = subst (In (items (lineages_of e))) q h
  one-first y ys h g x (inr i) = g x i

  cond-among : (b : Bool) (ys : List Item) → Among ys → Among (cond b ys [])
  cond-among true ys g x h = g x h
  cond-among false ys g x h = absurd h

  none-among : Among []
  none-among x h = absurd h

  value-among : (l : Lineage) → In (lineages_of e) l → is_unit (kind_of l.node) ≡ true → In (items (lineages_of e)) (item_of l what.Value)
  value-among l h u = node-of e l what.Value h (unit-value (kind_of l.node) u)

  module _ (i : Item) (here : In (lineages_of e) (lineage_of i)) (has : In (whats (kind_of i.node)) i.what) where
    own-value : is_of_field i.what ≡ true → In (items (lineages_of e)) (value_of i)
    own-value t = value-among (lineage_of i) here (ap is_unit (field-item (kind_of i.node) i.what has t))

    with-value : (w : What) → i.what ≡ w → is_of_field w ≡ true → In (items (lineages_of e)) (value_of i)
    with-value w q t = own-value (ap is_of_field q ∙ t)

    wires-among : Among (wire_items (lineages_of e) i)
    wires-among x h =
        let r = flat-in (λ r. cond (is_wire (views (nodes_in (lineages_of e)) r i.node) i.node) (given_items (lineages_of e) i.node (prop.Next ∷ [])) []) _ x h in
        cond-among (is_wire (views (nodes_in (lineages_of e)) r.0 i.node) i.node) (given_items (lineages_of e) i.node (prop.Next ∷ [])) (given-among i.node (prop.Next ∷ [])) x r.2

    masked-among : (ps : List Prop) (p : Instance → Bool) → Among (flat_map (masked_items (lineages_of e) ps i) (filter p (fields_of i.node)))
    masked-among ps p x h =
        let q = flat-in (masked_items (lineages_of e) ps i) (filter p (fields_of i.node)) x h in
        let f = q.0 in
        let field = filter-in p (fields_of i.node) f q.1 in
        let inside = filter-in (is_a kind.Field) (children i.node) f field in
        let unit : is_unit (kind_of f) ≡ true = ap is_unit (the-kind f (filter-true (is_a kind.Field) (children i.node) f field)) in
        let listed = listed-down (Some (top_name e)) e.source.now (lineage_of i) here f inside in
        one-first (value_in i f) (given_items (lineages_of e) f ps) (value-among (child_of (lineage_of i) f) listed unit) (given-among f ps) x q.2

    made-among : Among (made_from (lineages_of e) i)
    made-among = by i.what refl
      where
        by : (w : What) → i.what ≡ w → Among (made_from (lineages_of e) i)
        by what.Value q = rw q (cond-among (is_a kind.Field i.node) (wire_items (lineages_of e) i) wires-among)
        by what.Anded q = rw q (one-first (value_of i) [] (with-value what.Anded q refl) none-among)
        by what.Ored q = rw q (one-first (value_of i) [] (with-value what.Ored q refl) none-among)
        by what.Xored q = rw q (one-first (value_of i) [] (with-value what.Xored q refl) none-among)
        by what.IncrThreshold q = rw q (one-first (value_of i) (given_items (lineages_of e) i.node (prop.Incrthreshold ∷ [])) (with-value what.IncrThreshold q refl) (given-among i.node (prop.Incrthreshold ∷ [])))
        by what.DecrThreshold q = rw q (one-first (value_of i) (given_items (lineages_of e) i.node (prop.Decrthreshold ∷ [])) (with-value what.DecrThreshold q refl) (given-among i.node (prop.Decrthreshold ∷ [])))
        by what.Overflow q = rw q (given-among i.node counts)
        by what.Underflow q = rw q (given-among i.node counts)
        by what.SwMod q = rw q (none-among)
        by what.SwAcc q = rw q (none-among)
        by what.Intr q = rw q (masked-among (prop.Enable ∷ prop.Mask ∷ []) is_interrupt)
        by what.Halt q = rw q (masked-among (prop.Haltenable ∷ prop.Haltmask ∷ []) (has_one_of (prop.Haltenable ∷ prop.Haltmask ∷ [])))

  pub refers-among : (i : Item) → In (items (lineages_of e)) i → Among (refers_to (lineages_of e) i)
  refers-among i h = by (is_missing i || is_in_alias i)
    where
      made : Among (made_from (lineages_of e) i)
      made =
          let q = of-node e i h in
          let same : q.0 ≡ lineage_of i = ap lineage_of q.3 in
          let node : q.0.node ≡ i.node = ap (λ (j : Item). j.node) q.3 in
          made-among i (subst (In (lineages_of e)) same q.1) (subst (λ n. In (whats (kind_of n)) i.what) node q.2)

      by : (b : Bool) → Among (cond b [] (made_from (lineages_of e) i))
      by true = none-among
      by false = made
